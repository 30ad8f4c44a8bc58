-- `chop_lines::spell::put_chords` meets its contract. Assumes nothing.
use Rattle.std.proofs.Common.{◌≡◌, ap, arith}
use Rattle.chop_lines.specs.Spelled.{chord_texts}
use Rattle.chop_lines.proofs.Putting.{put-none, put_on, all-put, texts-more}
use Rattle.chop_lines.proofs.spell.put_chords.Goals as goal

pub loop-k-init : goal.loop-k-init
unfolding chord_texts
loop-k-init g c = put-none _ _ c.fresh-out.ensures.0

pub put_chord-out-requires : goal.put_chord-out-requires
put_chord-out-requires g c = omega (arith, c.requires, c.loop-k-test.true)

pub loop-k-preserved : goal.loop-k-preserved
loop-k-preserved g c = let l = c.loop-k in
    let a = c.args in
    all-put (texts-more a.side a.rn a.chords.now l.k) (put_on l.invariant c.put_chord-out.ensures)

pub returns : goal.returns
returns g c = let l = c.loop-k in
    let a = c.args in
    let e : l.k ≡ a.n = omega arith in
    all-put (ap (chord_texts a.side a.rn a.chords.now) e) l.invariant
