-- `chop_lines::chop` meets its contract. Assumes nothing.
use Rattle.std.proofs.Common.{List, ap, ◌∙◌, rules}
use lib.Ieee.{Float}
use Rattle.chop_lines.specs.Scan.{state}
use Rattle.chop_lines.specs.Chopped.{text_of}
use Rattle.chop_lines.proofs.Putting.{all-put}
use Rattle.chop_lines.proofs.chop.Goals as goal

pub read_profile-read-requires : goal.read_profile-read-requires
read_profile-read-requires g c = record { numbers = search rules; line = search rules }

pub returns : goal.returns
returns g c = let r = c.read_profile-read in
    record {
      bytes = r.ensures.bytes;
      put = all-put (ap text_of (ap (λ (ps : List Float). state r.result.scan ps) c.first.ensures ∙ r.ensures.same)) c.put_text.ensures;
    }
