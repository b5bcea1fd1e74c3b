use Rattle.marks.specs.Cliques.{Differ, Nearer}
use Rattle.marks.proofs.clique.approach.Given as goal

abbrev pub invariant-loop-pair : goal.invariant-loop-pair
invariant-loop-pair l = Nearer (Differ l.apart l.v) l.size l.initial.near l.near
