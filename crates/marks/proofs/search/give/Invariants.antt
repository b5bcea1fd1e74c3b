use Rattle.marks.proofs.Giving.{Giving}
use Rattle.marks.proofs.search.give.Given as goal

abbrev pub invariant-loop-pair : goal.invariant-loop-pair
invariant-loop-pair l = Giving l.sets l.apart l.v l.b.number l.pair-index l.given
