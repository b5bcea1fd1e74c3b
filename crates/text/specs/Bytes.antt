-- Classes of bytes, and the run of a class at the front of a text.
use Rattle.std.specs.Prelude.{ℕ, Bool, not, ◌&&◌, ◌||◌, List, drop, ◌==◌, nat_le}
use Rattle.std.specs.List.{prefix_len, take_while}
use Rattle.text.specs.declared.bytes.Class.{Class}
use Rattle.text.specs.declared.bytes.Class.TheVariants.{Blank, Letter, Word, Digit, Said, Inline}

-- A to Z, a to z
abbrev pub letter : ℕ → Bool
letter b = (nat_le 65 b && nat_le b 90) || (nat_le 97 b && nat_le b 122)

-- 0 to 9
abbrev pub digit : ℕ → Bool
digit b = nat_le 48 b && nat_le b 57

-- blanks: space, tab, carriage return; a name goes on with letters, digits and `_`; a `#` begins a comment; a line goes on up to a
-- line feed
abbrev pub in_class : Class → ℕ → Bool
in_class Blank b = b == 32 || (b == 9 || b == 13)
in_class Letter b = letter b
in_class Word b = letter b || (digit b || b == 95)
in_class Digit b = digit b
in_class Said b = not (b == 35) && not (b == 10)
in_class Inline b = not (b == 10)

-- the longest front whose bytes are all of the class
abbrev pub run : Class → List ℕ → List ℕ
run c s = take_while (in_class c) s

-- what follows it
abbrev pub past_run : Class → List ℕ → List ℕ
past_run c s = drop (prefix_len (in_class c) s) s
