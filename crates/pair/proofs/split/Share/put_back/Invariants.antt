-- The first i variables are put back.
use Rattle.pair.specs.Split.{number, PutBack}
use Rattle.pair.proofs.split.Share.put_back.Given as goal

abbrev pub invariant-loop-i : goal.invariant-loop-i
invariant-loop-i l = PutBack (number l.self.side) l.kinds l.self.places.items l.found l.initial.values l.i l.values
