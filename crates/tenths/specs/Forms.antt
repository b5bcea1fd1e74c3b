-- The four forms, case by case.
use Rattle.std.specs.Prelude.{◌≡◌, ℕ, Bool, true, false, not, ℤ, ◌-ℤ◌, FitsSigned, ◌==◌, int_le, int_lt, nat_lt, refl}
use Rattle.std.proofs.Common.{arith, to_z, of_z}
use Rattle.std.specs.Int.{w32, w64}
use Rattle.std.proofs.lemmas.Int.{ints}
use Rattle.std.proofs.lemmas.Bool.{both_ways}
use Rattle.std.proofs.lemmas.Bool.Decides.{nat_tests}
use Rattle.domain.specs.declared.predicate.Predicate.{Predicate}
use Rattle.domain.specs.Forms.{turned}
use Rattle.domain.specs.Meaning.{known}
use Rattle.tenths.specs.Tenths.{tenths, spoken, places, says}

-- one of the four
pub data Form (f : ℕ) : Type 0 where
  at_most : f ≡ 1 → Form f
  above : f ≡ 2 → Form f
  apart_at_most : f ≡ 3 → Form f
  apart_above : f ≡ 4 → Form f

form_placed : (f : ℕ) → nat_lt 0 (places f) ≡ true → Form f
form_placed f h = first (f == 1) refl
  where
    fourth : (b : Bool) → (f == 4) ≡ b → (f == 1) ≡ false → (f == 2) ≡ false → (f == 3) ≡ false → Form f
    fourth true e e1 e2 e3 = apart_above (grind (arith, nat_tests))
    fourth false e e1 e2 e3 = absurd (both_ways (nat_lt 0 (places f)) (rw (e1, e2, e3, e)) h)

    third : (b : Bool) → (f == 3) ≡ b → (f == 1) ≡ false → (f == 2) ≡ false → Form f
    third true e e1 e2 = apart_at_most (grind (arith, nat_tests))
    third false e e1 e2 = fourth (f == 4) refl e1 e2 e

    second : (b : Bool) → (f == 2) ≡ b → (f == 1) ≡ false → Form f
    second true e e1 = above (grind (arith, nat_tests))
    second false e e1 = third (f == 3) refl e1 e

    first : (b : Bool) → (f == 1) ≡ b → Form f
    first true e = at_most (grind (arith, nat_tests))
    first false e = second (f == 2) refl e

-- a known predicate is spoken and has one of the four forms
pub known_parts : (p : Predicate) → known tenths p ≡ true → (spoken p ≡ true) × Form p.form
known_parts p h = go (spoken p) refl
  where
    go : (b : Bool) → spoken p ≡ b → (spoken p ≡ true) × Form p.form
    go true e = (e, form_placed p.form (rw e at h))
    go false e = absurd (both_ways (known tenths p) (rw e) h)

pub not_le : (x c : ℤ) → int_lt c x ≡ not (int_le x c)
not_le x c = grind (arith, ints)

not_not : (b : Bool) → b ≡ not (not b)
not_not true = refl
not_not false = refl

pub turned_says : (f : ℕ) → Form f → (c x y : ℤ) → says (turned f) c x y ≡ not (says f c x y)
turned_says f (at_most e) c x y = rw e (not_le x c)
turned_says f (above e) c x y = rw (e, not_le x c) (not_not (int_le x c))
turned_says f (apart_at_most e) c x y = rw e (not_le (x -ℤ y) c)
turned_says f (apart_above e) c x y = rw (e, not_le (x -ℤ y) c) (not_not (int_le (x -ℤ y) c))

pub turned_back : (f : ℕ) → Form f → turned (turned f) ≡ f
turned_back f (at_most e) = rw e
turned_back f (above e) = rw e
turned_back f (apart_at_most e) = rw e
turned_back f (apart_above e) = rw e

pub turned_places : (f : ℕ) → Form f → places (turned f) ≡ places f
turned_places f (at_most e) = rw e
turned_places f (above e) = rw e
turned_places f (apart_at_most e) = rw e
turned_places f (apart_above e) = rw e

-- at one place the second value does not matter
pub alone_says : (f : ℕ) → Form f → places f ≡ 1 → (c x y z : ℤ) → says f c x y ≡ says f c x z
alone_says f (at_most e) one c x y z = rw e
alone_says f (above e) one c x y z = rw e
alone_says f (apart_at_most e) one c x y z = let two : places f ≡ 2 = rw e in absurd (omega arith)
alone_says f (apart_above e) one c x y z = let two : places f ≡ 2 = rw e in absurd (omega arith)

-- a value of 32 bits, and the difference of two, taken in 64
wide : (x : ℤ) → FitsSigned w32 x → to_z w64 (of_z w64 (to_z w32 (of_z w32 x))) ≡ x
wide x f = omega (arith, ints)

wide_difference :
    (x y : ℤ) → FitsSigned w32 x → FitsSigned w32 y
    → to_z w64 (of_z w64 (to_z w64 (of_z w64 (to_z w32 (of_z w32 x))) -ℤ to_z w64 (of_z w64 (to_z w32 (of_z w32 y))))) ≡ x -ℤ y
wide_difference x y f g = omega (arith, ints)

module _ (form : ℕ) (c x y : ℤ) (fits-c : FitsSigned w32 c) (fits-x : FitsSigned w32 x) (fits-y : FitsSigned w32 y) where
  pub wide_at_most :
      form ≡ 3
      → int_le (to_z w64 (of_z w64 (to_z w64 (of_z w64 (to_z w32 (of_z w32 x))) -ℤ to_z w64 (of_z w64 (to_z w32 (of_z w32 y)))))) (to_z w64 (of_z w64 (to_z w32 (of_z w32 c))))
      ≡ says form c x y
  wide_at_most e = rw (wide_difference x y fits-x fits-y, wide c fits-c, e)

  pub wide_above :
      form ≡ 4
      → int_lt (to_z w64 (of_z w64 (to_z w32 (of_z w32 c)))) (to_z w64 (of_z w64 (to_z w64 (of_z w64 (to_z w32 (of_z w32 x))) -ℤ to_z w64 (of_z w64 (to_z w32 (of_z w32 y))))))
      ≡ says form c x y
  wide_above e = rw (wide_difference x y fits-x fits-y, wide c fits-c, e)
