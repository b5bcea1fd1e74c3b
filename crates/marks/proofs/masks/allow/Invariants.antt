use Rattle.marks.specs.Rows.{Masked}
use Rattle.marks.proofs.masks.allow.Given as goal

abbrev pub invariant-loop-row : goal.invariant-loop-row
invariant-loop-row l = Masked l.rows.list.now l.row-index l.sets
