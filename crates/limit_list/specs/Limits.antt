-- What a limit asks of the readings, and the predicate that stands for it.
use Rattle.std.specs.Prelude.{◌≡◌, ℕ, Bool, true, false, cond, ◌&&◌, ℤ, pos, negsuc, ◌-ℤ◌, Some, None, Option, ◌==◌, int_le, int_lt}
use Rattle.domain.specs.declared.predicate.Predicate.{Predicate}
use Rattle.limit_list.specs.declared.limit.Operator.{Operator}
use Rattle.limit_list.specs.declared.limit.Operator.TheVariants.{AtMost, Below, AtLeast, Above}
use Rattle.limit_list.specs.declared.limit.Quantity.{Quantity}
use Rattle.limit_list.specs.declared.limit.Quantity.TheVariants.{Reading, Difference}

-- a value compared with the number of a limit
abbrev pub compares : Operator → ℤ → ℤ → Bool
compares AtMost v n = int_le v n
compares Below v n = int_lt v n
compares AtLeast v n = int_le n v
compares Above v n = int_lt n v

-- a limit on a difference is on two readings
abbrev pub paired : {A : Type 0} → Quantity A → Bool
paired (Reading x) = false
paired (Difference x y) = true

-- a limit on one reading compares its value; a limit on two (`paired`) the first less the second
abbrev pub satisfied : Bool → Operator → ℤ → ℤ → ℤ → Bool
satisfied paired o n x y = compares o (cond paired (x -ℤ y) x) n

-- what a predicate over tenths says, by its form. 1: x ≤ c, 2: x > c, 3: x - y ≤ c, 4: x - y > c
abbrev pub form_says : ℕ → ℤ → ℤ → ℤ → Bool
form_says f c x y =
    cond (f == 1) (int_le x c) (cond (f == 2) (int_lt c x) (cond (f == 3) (int_le (x -ℤ y) c) (cond (f == 4) (int_lt c (x -ℤ y)) false)))

-- over whole numbers, below n is at most n - 1, and at least n is above n - 1
abbrev pub constant_of : Operator → ℤ → ℤ
constant_of AtMost n = n
constant_of Below n = n -ℤ pos 1
constant_of AtLeast n = n -ℤ pos 1
constant_of Above n = n

abbrev pub form_of : Bool → Operator → ℕ
form_of paired AtMost = cond paired 3 1
form_of paired Below = cond paired 3 1
form_of paired AtLeast = cond paired 4 2
form_of paired Above = cond paired 4 2

-- the constants that are known: -65,536 to 65,536
abbrev pub known_constant : ℤ → Bool
known_constant c = int_le (negsuc 65535) c && int_le c (pos 65536)

-- the numbers that may stand after an operator
abbrev pub allowed : Operator → ℤ → Bool
allowed o n = known_constant (constant_of o n)

abbrev pub when : {A : Type 0} → Bool → A → Option A
when true a = Some a
when false a = None

-- the predicate of a limit on one or two readings, if its constant is known
abbrev pub predicate_of : Bool → Operator → ℤ → Option Predicate
predicate_of paired o n = when (allowed o n) (record { kind = 0; form = form_of paired o; constant = constant_of o n })

-- the predicate says of all readings what the limit asks of them
abbrev pub StandsFor : Bool → Operator → ℤ → Predicate → Type 0
StandsFor paired o n p = (x y : ℤ) → form_says p.form p.constant x y ≡ satisfied paired o n x y
