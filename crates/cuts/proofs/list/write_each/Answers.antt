-- `cuts::list::write_each` meets its contract. Assumes nothing.
use Rattle.cuts.specs.Source.{source_act}
use Rattle.cuts.specs.declared.list.Source.TheVariants as source
use Rattle.cuts.proofs.Spans.{span-room, thread-listed, drill-listed, rows-listed}
use Rattle.cuts.proofs.list.write_each.Goals as goal

pub write_thread-requires : goal.write_thread-requires
write_thread-requires c = let p = c.requires in
    (p.0, p.2, p.3)

pub write_drill-requires : goal.write_drill-requires
write_drill-requires c = c.requires

pub write-requires : goal.write-requires
write-requires c = let a = c.args in
    let p = c.requires in
    (p.0, p.1, p.2, span-room a.first a.last (source_act a.s (source.Rows _) a.values.now a.there.now) a.cells.now a.indices.now a.indices.now a.records.now a.records.now p.0 p.2 p.3)

pub returns-in-Thread : goal.returns-in-Thread
returns-in-Thread c = thread-listed _ _ _ _ _ _ _ _ _ _ _ _ _ _ _ c.in-Thread.is c.write_thread.ensures

pub returns-in-Drill : goal.returns-in-Drill
returns-in-Drill c = drill-listed _ _ _ _ _ _ _ _ _ _ _ _ _ _ _ _ c.in-Drill.is c.write_drill.ensures

pub returns-in-Rows : goal.returns-in-Rows
returns-in-Rows c = rows-listed _ _ _ _ _ _ _ _ _ _ _ _ _ _ c.in-Rows.is c.write.ensures
