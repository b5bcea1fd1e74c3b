use Rattle.marks.specs.Cliques.{Candidate}
use Rattle.marks.proofs.clique.candidate.Given as goal

abbrev pub invariant-loop-v : goal.invariant-loop-v
invariant-loop-v l = Candidate l.near l.size l.next
