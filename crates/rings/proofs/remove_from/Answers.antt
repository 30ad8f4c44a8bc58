-- `rings::remove_from` meets its contract. Assumes nothing.
use Rattle.rings.proofs.Removing.{refuses-spec, past-spec, took-refused}
use Rattle.rings.proofs.Tested.{for-stock}
use Rattle.rings.proofs.remove_from.Goals as goal

pub returns-in_err-validate : goal.returns-in_err-validate
returns-in_err-validate c = let x = took-refused _ _ c.from_residual.ensures.1 in
    record { takes = refuses-spec c.args.spec c.args.rings.now c.args.count c.args.generation c.args.ring c.validate.result _ _ c.validate.ensures c.in_err-validate.was x.0; tests = x.1 _ }

pub returns : goal.returns
returns c = let extent = c.extent in
    let remove-in = c.remove_in in
    record {
      takes = past-spec c.args.spec c.args.rings.now c.args.count c.args.generation c.args.ring c.validate.result _ extent.result _ _ c.validate.ensures c.in_ok-validate.was extent.ensures remove-in.ensures.takes;
      tests = for-stock c.args.spec extent.result c.args.ring c.args.rings.now c.args.count remove-in.result extent.ensures remove-in.ensures.tests;
    }
