-- The values so far are written, and the others are as they were.
use Rattle.std.proofs.Common.{◌≡◌, ℕ, ◌<◌, get_or, length, drop, pos}
use Rattle.tenths.specs.Differences.{at}
use Rattle.tenths.specs.Rows.{value}
use Rattle.tenths.proofs.choose.write_values.Given as goal

abbrev pub invariant-loop-i : goal.invariant-loop-i
invariant-loop-i l = ((x : ℕ) → x < l.i → get_or l.values x (pos 0) ≡ value (at l.bounds x)) × (drop (length l.bounds) l.values ≡ drop (length l.bounds) l.initial.values)
