-- The meaning of Tenths: whole tenths of a degree, their bounds and their differences.
use Rattle.std.specs.Prelude.{ℕ, Bool, false, cond, ◌&&◌, ◌||◌, ℤ, pos, negsuc, ◌-ℤ◌, ◌==◌, int_le, int_lt}
use Rattle.domain.specs.declared.predicate.Predicate.{Predicate}
use Rattle.domain.specs.Forms.{turned}
use Rattle.domain.specs.Meaning.{Meaning}

-- kind 0 alone, with the values -32,768 to 32,767
abbrev pub in_range : ℤ → Bool
in_range x = int_le (negsuc 32767) x && int_le x (pos 32767)

-- a known predicate has kind 0 and a constant from -65,536 to 65,536
abbrev pub spoken : Predicate → Bool
spoken p = p.kind == 0 && (int_le (negsuc 65535) p.constant && int_le p.constant (pos 65536))

-- forms 1 and 2 have one place, forms 3 and 4 two
abbrev pub places : ℕ → ℕ
places f = cond (f == 1 || f == 2) 1 (cond (f == 3 || f == 4) 2 0)

-- 1: x ≤ c, 2: x > c, 3: x - y ≤ c, 4: x - y > c
abbrev pub says : ℕ → ℤ → ℤ → ℤ → Bool
says f c x y = cond (f == 1) (int_le x c) (cond (f == 2) (int_lt c x) (cond (f == 3) (int_le (x -ℤ y) c) (cond (f == 4) (int_lt c (x -ℤ y)) false)))

abbrev pub tenths : Meaning
tenths = record {
  knows = λ k. (k == 0);
  within = λ k x. (k == 0) && in_range x;
  sample = λ _. pos 0;
  top = λ _. pos 32767;
  arity = λ p. cond (spoken p) (places p.form) 0;
  complement = λ p. record { kind = p.kind; form = turned p.form; constant = p.constant };
  holds = λ p x y. says p.form p.constant x y;
}
