-- Each round so far raised something.
use Rattle.std.proofs.Common.{◌≡◌}
use Rattle.tenths.proofs.Sweeping.{Turns}
use Rattle.tenths.proofs.relax.Relaxation.settle.Given as goal

abbrev pub invariant-loop-turn : goal.invariant-loop-turn
invariant-loop-turn l = (l.self.links ≡ l.initial.self.links) × Turns l.initial.self.links.now l.initial.self.bounds.items l.self.bounds.items l._turn
