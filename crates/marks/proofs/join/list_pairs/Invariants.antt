use Rattle.marks.specs.Joins.{Paired}
use Rattle.marks.proofs.join.list_pairs.Given as goal

abbrev pub invariant-loop-row : goal.invariant-loop-row
invariant-loop-row l = Paired l.rows.list.now l.roots.of l.row-index l.pairs.items
