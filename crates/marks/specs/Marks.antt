-- The meaning of Marks: the marks 0 to 15, sets of them, and whether two are the same.
use Rattle.std.specs.Prelude.{ℕ, ◌/◌, ◌%◌, ◌^◌, Bool, false, cond, not, ◌&&◌, ◌||◌, ℤ, pos, negsuc, ◌==◌, int_le}
use Rattle.domain.specs.Forms.{turned}
use Rattle.domain.specs.Meaning.{Meaning}

-- bit x of the number m is 1: the set m has the mark x
unfoldable pub has : ℕ → ℕ → Bool
has m x = m / 2 ^ x % 2 == 1

-- the natural number that a signed number is; 0 for one below 0
abbrev pub nat : ℤ → ℕ
nat (pos n) = n
nat (negsuc n) = 0

-- kind 0 alone, with the values 0 to 15
abbrev pub in_range : ℤ → Bool
in_range x = int_le (pos 0) x && int_le x (pos 15)

-- forms 1 and 2 have one place and a set of marks as their constant, forms 3 and 4 have two places and the constant 0
abbrev pub places : ℕ → ℤ → ℕ
places f c =
    cond (f == 1 || f == 2) (cond (int_le (pos 0) c && int_le c (pos 65535)) 1 0)
    (cond (f == 3 || f == 4) (cond (int_le (pos 0) c && int_le c (pos 0)) 2 0) 0)

-- 1: bit x of c is 1, 2: it is 0, 3: x = y, 4: x ≠ y
abbrev pub says : ℕ → ℕ → ℕ → ℕ → Bool
says f c x y =
    cond (f == 1) (has c x) (cond (f == 2) (not (has c x)) (cond (f == 3) (x == y) (cond (f == 4) (not (x == y)) false)))

abbrev pub marks : Meaning
marks = record {
  knows = λ k. (k == 0);
  within = λ k x. (k == 0) && in_range x;
  sample = λ _. pos 0;
  top = λ _. pos 15;
  arity = λ p. cond (p.kind == 0) (places p.form p.constant) 0;
  complement = λ p. record { kind = p.kind; form = turned p.form; constant = p.constant };
  holds = λ p x y. says p.form (nat p.constant) (nat x) (nat y);
}
