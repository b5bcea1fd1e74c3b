-- The rows so far have their links.
use Rattle.std.proofs.Common.{take}
use Rattle.std.specs.List.{AllZip}
use Rattle.tenths.specs.Rows.{Stands}
use Rattle.tenths.proofs.links.fill_links.Given as goal

abbrev pub invariant-loop-row : goal.invariant-loop-row
invariant-loop-row l = AllZip (Stands l.zero) (take l.row-index l.rows) l.links.items
