-- How a technician spells what a line says.
use Rattle.std.specs.Prelude.{◌≡◌, ℕ, true, List, [], ◌∷◌, ◌++◌, ℤ, pos, neg_ℤ, Ok, Err, Option, Result}
use Rattle.std.specs.List.{AllPass}
use Rattle.text.specs.declared.bytes.Class.{Class}
use Rattle.text.specs.declared.bytes.Class.TheVariants.{Blank, Word, Digit}
use Rattle.text.specs.declared.fault.Fault.{Fault}
use Rattle.limit_list.specs.declared.fault.Expected.{Expected}
use Rattle.limit_list.specs.declared.limit.Limit.{Limit}
use Rattle.limit_list.specs.declared.limit.Operator.{Operator}
use Rattle.limit_list.specs.declared.limit.Operator.TheVariants.{AtMost, Below, AtLeast, Above}
use Rattle.text.specs.Bytes.{in_class, letter}
use Rattle.text.specs.Numerals.{value}
use Rattle.limit_list.specs.Limits.{allowed}
use Rattle.limit_list.specs.Spelling.{Said, nothing, limit, reading, difference, said, head, ended}

-- a text of bytes of one class only
abbrev pub Only : Class → List ℕ → Type 0
Only c s = AllPass (in_class c) s

-- a name: a letter, and then letters, digits and `_`
pub record Name (x : List ℕ) : Type 0 where
  pub starts : letter (head x) ≡ true
  pub goes_on : Only Word x

-- `<=`, `<`, `>=` and `>`
abbrev pub symbol : Operator → List ℕ
symbol AtMost = 60 ∷ 61 ∷ []
symbol Below = 60 ∷ []
symbol AtLeast = 62 ∷ 61 ∷ []
symbol Above = 62 ∷ []

-- a whole number: digits, after a minus sign if it is negative
pub data Numeral : List ℕ → ℤ → Type 0 where
  plain : (d : ℕ) (ds : List ℕ) → Only Digit (d ∷ ds) → Numeral (d ∷ ds) (pos (value (d ∷ ds)))
  minus : (d : ℕ) (ds : List ℕ) → Only Digit (d ∷ ds) → Numeral (45 ∷ d ∷ ds) (neg_ℤ (pos (value (d ∷ ds))))

-- an operator, a number that may follow it, and nothing more but a comment; blanks may stand before the number and after it
pub record Bound (o : Operator) (n : ℤ) (s : List ℕ) : Type 0 where
  pub gap : List ℕ
  pub digits : List ℕ
  pub space : List ℕ
  pub rest : List ℕ
  pub blank : Only Blank gap × Only Blank space
  pub number : Numeral digits n
  pub fits : allowed o n ≡ true
  pub done : ended rest ≡ true
  pub cut : s ≡ symbol o ++ (gap ++ (digits ++ (space ++ rest)))

-- a line says nothing if it is blank or a comment; it may limit a reading, or the difference of two
pub data Spells : List ℕ → Said → Type 0 where
  silent : (a s : List ℕ) → Only Blank a → ended s ≡ true → Spells (a ++ s) nothing
  one :
      (a x b s : List ℕ) (o : Operator) (n : ℤ) → Only Blank a → Name x → Only Blank b → Bound o n s
      → Spells (a ++ (x ++ (b ++ s))) (limit (reading x) o n)
  two :
      (a x b c y d s : List ℕ) (o : Operator) (n : ℤ)
      → Only Blank a → Name x → Only Blank b → Only Blank c → Name y → Only Blank d → Bound o n s
      → Spells (a ++ (x ++ (b ++ (45 ∷ (c ++ (y ++ (d ++ s))))))) (limit (difference x y) o n)

-- what was read is what the line spells; of a line with a fault, that it spells nothing at all
abbrev pub Spelt : List ℕ → Result (Option Limit) (Fault Expected) → Type 0
Spelt line (Ok l) = Spells line (said l)
Spelt line (Err f) = (s : Said) → Spells line s → ⊥
