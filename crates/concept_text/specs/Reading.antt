-- What stands at the front of the rest of a line.
use Rattle.std.specs.Prelude.{ℕ, ℤ, pos, neg_ℤ, Bool, cond, not, ◌&&◌, List, length, drop, slice_index, ◌==◌, nat_le, int_le}
use Rattle.text.specs.declared.bytes.Class.{Class}
use Rattle.text.specs.declared.bytes.Class.TheVariants.{Blank, Digit}
use Rattle.text.specs.Bytes.{run, past_run}
use Rattle.text.specs.Numerals.{value}

-- the number at the front
abbrev pub number : List ℕ → ℕ
number s = value (run Digit s)

-- a number between these two stands at the front
abbrev pub has_number : ℕ → ℕ → List ℕ → Bool
has_number low high s = not (length (run Digit s) == 0) && (nat_le low (number s) && nat_le (number s) high)

-- what follows a run and its blanks
abbrev pub past : Class → List ℕ → List ℕ
past c s = past_run Blank (past_run c s)

-- this byte stands at the front
abbrev pub has_sign : ℕ → List ℕ → Bool
has_sign b s = slice_index s 0 == b

-- what follows one byte and its blanks
abbrev pub past_sign : List ℕ → List ℕ
past_sign s = past_run Blank (drop 1 s)

-- a minus sign stands at the front
abbrev pub is_negative : List ℕ → Bool
is_negative s = has_sign 45 s

-- what stands after it, if there is one
abbrev pub unsigned : List ℕ → List ℕ
unsigned s = cond (is_negative s) (drop 1 s) s

-- the number at the front, with a minus sign or without
abbrev pub constant : List ℕ → ℤ
constant s = cond (is_negative s) (neg_ℤ (pos (number (unsigned s)))) (pos (number (unsigned s)))

-- a constant between these two stands at the front
abbrev pub has_constant : ℤ → ℤ → List ℕ → Bool
has_constant low high s = not (length (run Digit (unsigned s)) == 0) && (int_le low (constant s) && int_le (constant s) high)
