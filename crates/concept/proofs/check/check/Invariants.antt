use Rattle.concept.proofs.Going.{Going}
use Rattle.concept.proofs.check.check.Given as goal

abbrev pub invariant-loop-place : goal.invariant-loop-place
invariant-loop-place g l = Going (g.D.Domain.meaning l.domain) l.kinds l.table l.terms l.place
