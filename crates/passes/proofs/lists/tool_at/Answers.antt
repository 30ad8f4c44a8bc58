-- `passes::lists::tool_at` meets its contract. Assumes nothing.
use mathlib.Core.Path.{sym, ap₂, ◌∙◌}
use mathlib.Core.Bool.{Bool, not, ◌&&◌}
use Rattle.passes.specs.Cuts.{cuts_of, number_of}
use Rattle.passes.proofs.Decoded.{tool-lacks, tool-is, six-are}
use Rattle.passes.proofs.lists.tool_at.Goals as goal

pub returns-then-is_swept-part_lies : goal.returns-then-is_swept-part_lies
returns-then-is_swept-part_lies c = let a = c.args in
    let ls = cuts_of a.kinds.now a.numbers.now a.parts.now a.lists.now in
    c.no_tool.ensures ∙ sym (tool-lacks ls a.k (ap₂ (λ (s t : Bool). s && not t) (sym c.is_swept.ensures) (sym c.part_lies.ensures) ∙ c.if-is_swept-part_lies.true))

pub returns : goal.returns
returns c = let a = c.args in
    let ls = cuts_of a.kinds.now a.numbers.now a.parts.now a.lists.now in
    c.tool_of.ensures
    ∙ six-are _ (number_of ls a.k) _ _ _ _ _ _ c.number_of-a.ensures c.number_of-b.ensures c.number_of-c.ensures c.number_of-d.ensures c.number_of-e.ensures c.number_of-f.ensures
    ∙ sym (tool-is ls a.k (ap₂ (λ (s t : Bool). s && not t) (sym c.is_swept.ensures) (sym c.part_lies.ensures) ∙ c.if-is_swept-part_lies.false))
