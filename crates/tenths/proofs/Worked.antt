-- The worked examples stand.
use Rattle.std.proofs.Common.{◌≡◌, ℕ, ◌<◌, true, [], ◌∷◌, get_or, ℤ, pos, negsuc, ◌-ℤ◌, refl, arith}
use lib.Signed.{le_z, lt_z}
use Rattle.std.proofs.lemmas.Int.{ints}
use Rattle.std.proofs.lemmas.List.Elements.{All-cons, All-nil}
use Rattle.domain.proofs.Failing.{no_row}
use Rattle.domain.specs.declared.predicate.Row.{Row}
use Rattle.domain.specs.Solving.{Kept}
use Rattle.tenths.specs.Examples.{Examples, form, at_most, above}
use Rattle.tenths.specs.Tenths.{tenths}
use Rattle.tenths.proofs.Choosing.{tested_says}

none_between : (x y : ℤ) → lt_z (pos 0) x ≡ true → lt_z (pos 0) (y -ℤ x) ≡ true → le_z y (pos 1) ≡ true → ⊥
none_between x y a b c = grind (arith, ints)

none_split : (x : ℤ) → le_z x (negsuc 89) ≡ true → lt_z (negsuc 89) x ≡ true → ⊥
none_split x a b = grind (arith, ints)

not_itself : (x : ℤ) → le_z (x -ℤ x) (negsuc 0) ≡ true → ⊥
not_itself x a = grind (arith, ints)

pub examples : Examples
examples =
    record {
      between = λ vs ch.
          let x = get_or vs 0 (pos 0) in
          let y = get_or vs 1 (pos 0) in
          none_between x y (tested_says (form 2 (pos 0)) x x (ch.kept 0 no_row (omega arith))) (tested_says (form 4 (pos 0)) y x (ch.kept 1 no_row (omega arith))) (tested_says (form 1 (pos 1)) y x (ch.kept 2 no_row (omega arith)));
      split = λ vs ch.
          let x = get_or vs 0 (pos 0) in
          none_split x (tested_says (form 1 (negsuc 89)) x x (ch.kept 0 no_row (omega arith))) (tested_says (form 2 (negsuc 89)) x x (ch.kept 1 no_row (omega arith)));
      left = record { one_each = refl; of_kind = only; kept = All-cons kept_of (at_most 0 (negsuc 88)) (above 0 (negsuc 89) ∷ []) refl (All-cons kept_of (above 0 (negsuc 89)) [] refl (All-nil kept_of)) };
      itself = λ vs ch. let x = get_or vs 0 (pos 0) in not_itself x (tested_says (form 3 (negsuc 0)) x x (ch.kept 0 no_row (omega arith)));
      largest = refl;
      too_large = refl;
      smallest = refl;
      too_small = refl;
      lowest = refl;
      highest = refl;
      outside = refl;
    }
  where
    only : (i : ℕ) → i < 1 → tenths.within (get_or {A = ℕ} (0 ∷ []) i 0) (get_or (negsuc 88 ∷ []) i (pos 0)) ≡ true
    only i h = let e : i ≡ 0 = omega arith in rw e

    kept_of : Row → Type 0
    kept_of = Kept tenths (negsuc 88 ∷ [])
