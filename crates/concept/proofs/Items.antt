-- The nodes of a forest.
use Rattle.std.proofs.Common.{◌≡◌, ℕ, ◌+◌, ◌<◌, ◌≤◌, true, List, length, take, set, is_some, sym, ap, ◌∙◌, arith}
use Rattle.std.proofs.lemmas.List.{length-take-le, take_more_set, take-take}
use Rattle.concept.specs.declared.forest.Forest.{Forest}
use Rattle.concept.specs.declared.normal.Normal.{Normal}
use Rattle.concept.specs.Forests.{roots, rooted, children_lower, parents}
use Rattle.concept.specs.Held.{items}
use Rattle.concept.proofs.Postfix.{roots_push, roots_front, ordered_lower, ordered_single}

-- what the ghost fields of a forest ask, from the order alone
pub fields : (xs : List Normal) (n : ℕ) → n ≤ 256 → n ≤ length xs → is_some (roots (take n xs)) ≡ true
    → record {
      few : n ≤ 256;
      filled : length (take n xs) ≡ n;
      ordered : is_some (roots (take n xs)) ≡ true;
      lower : children_lower 0 (take n xs) ≡ true;
      single : (c : ℕ) → parents (take n xs) c ≤ 1;
    }
fields xs n few long ordered = record {
  few = few;
  filled = length-take-le n xs long;
  ordered = ordered;
  lower = ordered_lower (take n xs) ordered;
  single = ordered_single (take n xs) ordered;
}

pub length_items : (f : Forest) → length (items f) ≡ f.len
length_items f = f.filled

-- the order after cutting and after a push
pub cut_ordered : (xs : List Normal) (k n : ℕ) → k ≤ n → is_some (roots (take n xs)) ≡ true → is_some (roots (take k xs)) ≡ true
cut_ordered xs k n h e = ap (λ l. is_some (roots l)) (sym (take-take k n xs h)) ∙ roots_front k (take n xs) e

pub push_ordered : (xs : List Normal) (n : ℕ) (node : Normal) → n < length xs → is_some (rooted n node (roots (take n xs))) ≡ true → is_some (roots (take (n + 1) (set xs n node))) ≡ true
push_ordered xs n node h e =
    ap (λ l. is_some (roots l)) (take_more_set xs n node h)
    ∙ (ap is_some (roots_push (take n xs) node) ∙ (ap (λ k. is_some (rooted k node (roots (take n xs)))) (length-take-le n xs (omega arith)) ∙ e))
