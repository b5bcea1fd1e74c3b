use Rattle.marks.specs.Joins.{Joined}
use Rattle.marks.proofs.join.join.Given as goal

abbrev pub invariant-loop-row : goal.invariant-loop-row
invariant-loop-row l = Joined l.rows.list.now l.row-index l.roots
