-- Forms that stand in pairs, each the form of the other's complement.
use Rattle.std.specs.Prelude.{ℕ, cond, ◌==◌}

-- 1 with 2, 3 with 4
abbrev pub turned : ℕ → ℕ
turned f = cond (f == 1) 2 (cond (f == 2) 1 (cond (f == 3) 4 3))
