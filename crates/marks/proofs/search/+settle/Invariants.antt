use Rattle.std.proofs.Common.{ℕ, ◌≤◌}
use Rattle.marks.specs.Choices.{Fits, shares}
use Rattle.std.specs.List.{count_by}
use Rattle.marks.proofs.search.+settle.Given as goal

abbrev pub decreases-settle : goal.decreases-settle
decreases-settle l = count_by (shares l.sets.now) l.apart.now

abbrev pub invariant-loop-b : goal.invariant-loop-b
invariant-loop-b l = (f : ℕ → ℕ) → Fits l.sets l.apart f → l.b ≤ f l.v
