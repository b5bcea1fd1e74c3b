-- The links so far are relaxed.
use Rattle.std.proofs.Common.{◌≡◌}
use Rattle.tenths.specs.Relaxing.{Sweep}
use Rattle.tenths.proofs.relax.Relaxation.round.Given as goal

abbrev pub invariant-loop-link : goal.invariant-loop-link
invariant-loop-link l =
    (l.self.links ≡ l.initial.self.links) × Sweep l.initial.self.links.now l.initial.self.bounds.items l.self.bounds.items l.link-index l.raised
