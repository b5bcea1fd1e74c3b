-- A predicate stands for its limit.
use Rattle.std.proofs.Common.{◌≡◌, ℕ, Bool, true, false, ℤ, pos, ◌-ℤ◌, Some, refl, arith}
use lib.Signed.{le_z, lt_z}
use Rattle.std.proofs.lemmas.Int.{ints}
use Rattle.limit_list.specs.declared.limit.Operator.{Operator}
use Rattle.limit_list.specs.declared.limit.Operator.TheVariants.{AtMost, Below, AtLeast, Above}
use Rattle.domain.specs.declared.predicate.Predicate.{Predicate}
use Rattle.limit_list.specs.Limits.{form_of, constant_of, form_says, satisfied, when, allowed, predicate_of, StandsFor}

at_most_less : (v n : ℤ) → le_z v (n -ℤ pos 1) ≡ lt_z v n
at_most_less v n = grind (arith, ints)

above_less : (v n : ℤ) → lt_z (n -ℤ pos 1) v ≡ le_z n v
above_less v n = grind (arith, ints)

pub stands : (paired : Bool) (o : Operator) (n x y : ℤ) → form_says (form_of paired o) (constant_of o n) x y ≡ satisfied paired o n x y
stands true AtMost n x y = refl
stands true Below n x y = at_most_less (x -ℤ y) n
stands true AtLeast n x y = above_less (x -ℤ y) n
stands true Above n x y = refl
stands false AtMost n x y = refl
stands false Below n x y = at_most_less x n
stands false AtLeast n x y = above_less x n
stands false Above n x y = refl

pub from_when : {A : Type 0} (b : Bool) (p q : A) → Some p ≡ when b q → p ≡ q
from_when true p q e = cc
from_when false p q e = let z : ◌≡◌ {A = ℕ} 0 1 = cc in absurd (omega arith)

pub stands_for : (paired : Bool) (o : Operator) (n : ℤ) (p : Predicate) → Some p ≡ predicate_of paired o n → StandsFor paired o n p
stands_for paired o n p e = λ x y. rw (from_when (allowed o n) p _ e) (stands paired o n x y)
