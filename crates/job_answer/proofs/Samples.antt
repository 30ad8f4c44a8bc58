-- 01's answer, computed. Assumes nothing.
use mathlib.Core.Path.{◌≡◌, refl}
use mathlib.Core.List.{[], ◌∷◌}
use lib.Ieee.{binary64, of_bits, to_bits}
use Rattle.floats.specs.Pick.{pick}
use Rattle.text.specs.Digits.{digits, more, decimal_of, hex_of}
use Rattle.job_answer.specs.Lines.{cell_line, gen_line, refused_line}
use Rattle.text.specs.Lines.{ring_line}

-- 'cell\t0\t4034000000000000\t4034000000000000\t4010000000000000\t4010000000000000\n'
cell-sample : cell_line 0 (of_bits binary64 0x4034000000000000) (of_bits binary64 0x4034000000000000) (of_bits binary64 0x4010000000000000) (of_bits binary64 0x4010000000000000) ≡ (99 ∷ 101 ∷ 108 ∷ 108 ∷ 9 ∷ 48 ∷ 9 ∷ 52 ∷ 48 ∷ 51 ∷ 52 ∷ 48 ∷ 48 ∷ 48 ∷ 48 ∷ 48 ∷ 48 ∷ 48 ∷ 48 ∷ 48 ∷ 48 ∷ 48 ∷ 48 ∷ 9 ∷ 52 ∷ 48 ∷ 51 ∷ 52 ∷ 48 ∷ 48 ∷ 48 ∷ 48 ∷ 48 ∷ 48 ∷ 48 ∷ 48 ∷ 48 ∷ 48 ∷ 48 ∷ 48 ∷ 9 ∷ 52 ∷ 48 ∷ 49 ∷ 48 ∷ 48 ∷ 48 ∷ 48 ∷ 48 ∷ 48 ∷ 48 ∷ 48 ∷ 48 ∷ 48 ∷ 48 ∷ 48 ∷ 48 ∷ 9 ∷ 52 ∷ 48 ∷ 49 ∷ 48 ∷ 48 ∷ 48 ∷ 48 ∷ 48 ∷ 48 ∷ 48 ∷ 48 ∷ 48 ∷ 48 ∷ 48 ∷ 48 ∷ 48 ∷ 10 ∷ [])
unfolding cell_line decimal_of hex_of digits more pick of_bits to_bits
cell-sample = refl

-- 'ring\t0000000000000000\t3_ff0000000000000\t4014000000000000\t4018000000000000\n'
ring-sample : ring_line (of_bits binary64 0x0000000000000000) (of_bits binary64 0x3FF0000000000000) (of_bits binary64 0x4014000000000000) (of_bits binary64 0x4018000000000000) ≡ (114 ∷ 105 ∷ 110 ∷ 103 ∷ 9 ∷ 48 ∷ 48 ∷ 48 ∷ 48 ∷ 48 ∷ 48 ∷ 48 ∷ 48 ∷ 48 ∷ 48 ∷ 48 ∷ 48 ∷ 48 ∷ 48 ∷ 48 ∷ 48 ∷ 9 ∷ 51 ∷ 70 ∷ 70 ∷ 48 ∷ 48 ∷ 48 ∷ 48 ∷ 48 ∷ 48 ∷ 48 ∷ 48 ∷ 48 ∷ 48 ∷ 48 ∷ 48 ∷ 48 ∷ 9 ∷ 52 ∷ 48 ∷ 49 ∷ 52 ∷ 48 ∷ 48 ∷ 48 ∷ 48 ∷ 48 ∷ 48 ∷ 48 ∷ 48 ∷ 48 ∷ 48 ∷ 48 ∷ 48 ∷ 9 ∷ 52 ∷ 48 ∷ 49 ∷ 56 ∷ 48 ∷ 48 ∷ 48 ∷ 48 ∷ 48 ∷ 48 ∷ 48 ∷ 48 ∷ 48 ∷ 48 ∷ 48 ∷ 48 ∷ 10 ∷ [])
unfolding ring_line hex_of digits pick of_bits to_bits
ring-sample = refl

-- 'gen\t2\n'
gen-sample : gen_line 2 ≡ (103 ∷ 101 ∷ 110 ∷ 9 ∷ 50 ∷ 10 ∷ [])
unfolding gen_line decimal_of digits more pick
gen-sample = refl

-- 'refused\t18446744073709551615\t15\n'
refused-sample : refused_line 18446744073709551615 15 ≡ (114 ∷ 101 ∷ 102 ∷ 117 ∷ 115 ∷ 101 ∷ 100 ∷ 9 ∷ 49 ∷ 56 ∷ 52 ∷ 52 ∷ 54 ∷ 55 ∷ 52 ∷ 52 ∷ 48 ∷ 55 ∷ 51 ∷ 55 ∷ 48 ∷ 57 ∷ 53 ∷ 53 ∷ 49 ∷ 54 ∷ 49 ∷ 53 ∷ 9 ∷ 49 ∷ 53 ∷ 10 ∷ [])
unfolding refused_line decimal_of digits more pick
refused-sample = refl
