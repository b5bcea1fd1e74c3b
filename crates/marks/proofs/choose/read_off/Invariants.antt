use Rattle.std.proofs.Common.{◌≡◌, ℕ, ◌<◌, length, get_or}
use lib.Count.{count_trailing_zeros}
use Rattle.marks.specs.Choices.{set_of}
use Rattle.marks.specs.Joins.{root_of}
use Rattle.marks.proofs.choose.read_off.Given as goal

abbrev pub invariant-loop-v : goal.invariant-loop-v
invariant-loop-v l =
    (length l.choice ≡ 512) × ((w : ℕ) → w < l.v → get_or l.choice w 0 ≡ count_trailing_zeros 16 (set_of l.joined (root_of l.roots.of w)))
