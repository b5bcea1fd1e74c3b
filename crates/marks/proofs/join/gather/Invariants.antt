use Rattle.marks.specs.Joins.{Gathered}
use Rattle.marks.proofs.join.gather.Given as goal

abbrev pub invariant-loop-v : goal.invariant-loop-v
invariant-loop-v l = Gathered l.sets l.roots.of l.v l.joined
