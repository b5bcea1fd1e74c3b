-- What a line says, read from its front.
use Rattle.std.specs.Prelude.{◌≡◌, ℕ, ◌+◌, ◌-◌, Bool, true, cond, not, ◌&&◌, ◌||◌, List, length, drop, ℤ, pos, neg_ℤ, Some, None, Ok, Err, Option, Result, ◌==◌, slice_index}
use Rattle.std.specs.Borrow.{Bor}
use Rattle.text.specs.declared.bytes.Class.TheVariants.{Blank, Word, Digit}
use Rattle.text.specs.declared.fault.Fault.{Fault}
use Rattle.text.specs.declared.fault.Stop.{Stop}
use Rattle.text.specs.Bytes.{letter, run, past_run}
use Rattle.text.specs.Numerals.{value}
use Rattle.limit_list.specs.declared.fault.Expected.{Expected}
use Rattle.limit_list.specs.declared.fault.Expected.TheVariants as expected
use Rattle.limit_list.specs.declared.limit.Operator.{Operator}
use Rattle.limit_list.specs.declared.limit.Operator.TheVariants.{AtMost, Below, AtLeast, Above}
use Rattle.limit_list.specs.declared.limit.Quantity.{Quantity}
use Rattle.limit_list.specs.declared.limit.Quantity.TheVariants.{Reading, Difference}
use Rattle.limit_list.specs.declared.limit.Limit.{Limit}
use Rattle.limit_list.specs.Limits.{allowed}

-- what a limit is about, by the names of its readings: one reading, or the first less the second
pub data Term : Type 0 where
  reading : List ℕ → Term
  difference : List ℕ → List ℕ → Term

-- what a line says: nothing, or a limit
pub data Said : Type 0 where
  nothing : Said
  limit : Term → Operator → ℤ → Said

-- the number of a limit may follow its operator
abbrev pub Fitting : Said → Type 0
Fitting nothing = Unit {0}
Fitting (limit t o n) = allowed o n ≡ true

abbrev pub term_of : Quantity (Bor (List ℕ)) → Term
term_of (Reading x) = reading x.now
term_of (Difference x y) = difference x.now y.now

abbrev pub said_by : Limit → Said
said_by l = limit (term_of l.quantity) l.comparison.operator l.comparison.number

abbrev pub said : Option Limit → Said
said None = nothing
said (Some l) = said_by l

abbrev pub told : {E : Type 0} → Result (Option Limit) E → Result Said E
told (Ok l) = Ok (said l)
told (Err e) = Err e

-- a text without the blanks at its front, and the byte at its front (0 past the end)
abbrev pub bared : List ℕ → List ℕ
bared s = past_run Blank s

abbrev pub head : List ℕ → ℕ
head s = slice_index s 0

-- the line is at its end, or a comment begins
abbrev pub ended : List ℕ → Bool
ended s = length s == 0 || head s == 35

-- `<=`, `<`, `>=` or `>` at the front, and how long it is
abbrev pub operator_of : List ℕ → Option Operator
operator_of s =
    cond (head s == 60) (Some (cond (slice_index s 1 == 61) AtMost Below))
    (cond (head s == 62) (Some (cond (slice_index s 1 == 61) AtLeast Above)) None)

abbrev pub width : Operator → ℕ
width AtMost = 2
width Below = 1
width AtLeast = 2
width Above = 1

-- the text after a minus sign, if one stands at its front
abbrev pub unsigned : List ℕ → List ℕ
unsigned s = cond (head s == 45) (drop 1 s) s

-- the whole number that a text with digits begins with
abbrev pub number_of : List ℕ → ℤ
number_of s = cond (head s == 45) (neg_ℤ (pos (value (run Digit (unsigned s))))) (pos (value (run Digit (unsigned s))))

-- a number stands at the front that may follow the operator
abbrev pub numbered : Operator → List ℕ → Bool
numbered o s = not (length (run Digit (unsigned s)) == 0) && allowed o (number_of s)

-- the reading stops here
abbrev pub stops : Expected → List ℕ → Result Said (Stop Expected)
stops e s = Err (record { expected = e; left = length s })

-- the rest of a line: from its end, its number, its operator, its second name, after its first name, and whole
unfoldable pub from_end : Term → Operator → ℤ → List ℕ → Result Said (Stop Expected)
from_end t o n s = cond (ended s) (Ok (limit t o n)) (stops expected.EndOfLine s)

unfoldable pub from_number : Term → Operator → List ℕ → Result Said (Stop Expected)
from_number t o s = cond (numbered o s) (from_end t o (number_of s) (bared (past_run Digit (unsigned s)))) (stops (expected.Number o) s)

abbrev pub after_operator : Term → Expected → List ℕ → Option Operator → Result Said (Stop Expected)
after_operator t e s None = stops e s
after_operator t e s (Some o) = from_number t o (bared (drop (width o) s))

unfoldable pub from_operator : Term → Expected → List ℕ → Result Said (Stop Expected)
from_operator t e s = after_operator t e s (operator_of s)

unfoldable pub from_second : List ℕ → List ℕ → Result Said (Stop Expected)
from_second x s =
    cond (letter (head s)) (from_operator (difference x (run Word s)) expected.Operator (bared (past_run Word s))) (stops expected.Name s)

unfoldable pub from_first : List ℕ → List ℕ → Result Said (Stop Expected)
from_first x s =
    cond (head s == 45) (from_second x (bared (drop 1 s))) (from_operator (reading x) expected.MinusOrOperator s)

unfoldable pub from_start : List ℕ → Result Said (Stop Expected)
from_start s =
    cond (ended s) (Ok nothing)
    (cond (letter (head s)) (from_first (run Word s) (bared (past_run Word s))) (stops expected.Name s))

-- what a line says, or where its reading stops
abbrev pub reads : List ℕ → Result Said (Stop Expected)
reads line = from_start (bared line)

-- a fault in line n, with the column from 1 at which the reading stops
abbrev pub placed : ℕ → List ℕ → Result Said (Stop Expected) → Result Said (Fault Expected)
placed n line (Ok l) = Ok l
placed n line (Err e) = Err (record { line = n; column = length line - e.left + 1; expected = e.expected })
