use Rattle.std.proofs.Common.{◌≡◌, ℕ, ◌<◌, false, leb, [], ◌∷◌, get_or, ℤ, pos, refl, ap, arith}
use Rattle.std.proofs.lemmas.Bool.{and_from, and_right, le-leb, eq-eqb, both_ways, not_from_true}
use Rattle.std.proofs.lemmas.List.Elements.{All-nil, All-cons, All-head}
use Rattle.domain.specs.Meaning.{tested}
use Rattle.domain.specs.Solving.{Kept}
use Rattle.marks.specs.Marks.{marks, has, in_range, nat}
use Rattle.marks.specs.Examples.{pred, row}
use Rattle.marks.proofs.Sets.{has_all, none_in_zero}
use Rattle.marks.proofs.worked_examples.Goals as goal

differs_never : (x : ℤ) → tested marks (pred 4 (pos 0)) x x ≡ false
differs_never x = and_right (in_range x) _ (and_right (in_range x) _ (not_from_true _ (eq-eqb (nat x) (nat x) refl)))

only_zero : (v : ℕ) → v < 1 → v ≡ 0
only_zero v l = omega arith

pub returns : goal.returns
unfolding has
returns c = record {
  none = λ x. and_right (in_range (pos x)) (has 0 x) (none_in_zero x);
  all = λ x l. and_from (in_range (pos x)) (has 65535 x) (and_from (leb 0 x) (leb x 15) (le-leb 0 x (omega arith)) (le-leb x 15 (omega arith))) (has_all x l);
  outer = refl;
  inner = refl;
  beyond = refl;
  large = refl;
  beside = refl;
  turned = refl;
  unknown = refl;
  same = record {
    one_each = refl;
    of_kind = λ v l. ap (λ i. marks.within (get_or (0 ∷ []) i 0) (get_or (pos 7 ∷ []) i (pos 0))) (only_zero v l);
    kept = All-cons (Kept marks (pos 7 ∷ [])) (row 3 (pos 0) 0 0) [] refl (All-nil (Kept marks (pos 7 ∷ [])));
  };
  other = λ vs ch. both_ways _ (differs_never (get_or vs 0 (pos 0))) (All-head (Kept marks vs) (row 4 (pos 0) 0 0) [] ch.kept);
}
