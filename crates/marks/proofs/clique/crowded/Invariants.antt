use Rattle.std.proofs.Common.{ℕ}
use Rattle.marks.specs.Cliques.{Members, Near, Candidate}
use Rattle.marks.proofs.clique.crowded.Given as goal

abbrev pub invariant-loop-size : goal.invariant-loop-size
invariant-loop-size l =
    (member : ℕ → ℕ) × Members l.sets l.apart member l.size l.union × Near l.apart member l.size l.near × Candidate l.near l.size l.next
