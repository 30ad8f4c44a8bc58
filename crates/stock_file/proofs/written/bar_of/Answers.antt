-- `stock_file::written::bar_of` meets its contract. Assumes nothing.
use mathlib.Core.Path.{ap}
use Rattle.stock.specs.declared.TurnStockSpec.{TurnStockSpec}
use Rattle.stock_lines.specs.declared.Bar.{Bar}
use Rattle.stock_file.proofs.written.bar_of.Goals as goal

abbrev kept : TurnStockSpec → Bar
kept s = record { z_min_mm = s.z_min_mm; z_max_mm = s.z_max_mm; outer_radius_mm = s.outer_radius_mm; bore_radius_mm = s.bore_radius_mm; cell_mm = s.cell_mm }

pub returns : goal.returns
returns c = ap kept c.clean_spec-s.ensures
