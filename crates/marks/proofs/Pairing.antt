-- Listing the pairs, row by row.
use Rattle.std.proofs.Common.{◌≡◌, ℕ, ◌+◌, ◌-◌, ◌<◌, List, [], ◌∷◌, ◌++◌, length, sym, ap, ◌∙◌, refl, subst, arith, below_more}
use Rattle.std.proofs.lemmas.List.{get_or_append_left, get_or-append_right, length-append}
use Rattle.domain.specs.declared.predicate.Row.{Row}
use Rattle.marks.specs.declared.pair.Pair.{Pair}
use Rattle.marks.specs.Choices.{Apart, no_pair, nth_pair}
use Rattle.marks.specs.Rows.{nth_row}
use Rattle.marks.specs.Joins.{root_of, Paired}

nothing_more : (n : ℕ) → n - n ≡ 0
nothing_more n = omega arith

-- one pair more
module _ (pairs : List Pair) (p : Pair) where
  old : (j : ℕ) → j < length pairs → nth_pair (pairs ++ p ∷ []) j ≡ nth_pair pairs j
  old j l = get_or_append_left pairs (p ∷ []) no_pair j l

  new : nth_pair (pairs ++ p ∷ []) (length pairs) ≡ p
  new = get_or-append_right pairs (p ∷ []) (length pairs) (length pairs) no_pair refl (omega arith)
      ∙ ap (nth_pair (p ∷ [])) (nothing_more (length pairs))

  apart_more : (f : ℕ → ℕ) → Apart pairs f → (f p.left ≡ f p.right → ⊥) → Apart (pairs ++ p ∷ []) f
  apart_more f apart differ j l =
      below_more (λ i. f (nth_pair (pairs ++ p ∷ []) i).left ≡ f (nth_pair (pairs ++ p ∷ []) i).right → ⊥) (length pairs)
      (λ i li. subst (λ q. f q.left ≡ f q.right → ⊥) (sym (old i li)) (apart i li))
      (subst (λ q. f q.left ≡ f q.right → ⊥) (sym new) differ)
      j (let k = length-append pairs (p ∷ []) in omega arith)

  apart_before : (f : ℕ → ℕ) → Apart (pairs ++ p ∷ []) f → Apart pairs f
  apart_before f apart j l =
      subst (λ q. f q.left ≡ f q.right → ⊥) (old j l) (apart j (let k = length-append pairs (p ∷ []) in omega arith))

  apart_last : (f : ℕ → ℕ) → Apart (pairs ++ p ∷ []) f → f p.left ≡ f p.right → ⊥
  apart_last f apart =
      subst (λ q. f q.left ≡ f q.right → ⊥) new (apart (length pairs) (let k = length-append pairs (p ∷ []) in omega arith))

module _ (rows : List Row) (roots : List ℕ) where
  module _ (n : ℕ) (pairs : List Pair) (g : Paired rows roots n pairs) where
    pub paired_skip : ((nth_row rows n).predicate.form ≡ 4 → ⊥) → Paired rows roots (n + 1) pairs
    paired_skip other = record {
      within = let k = g.within in omega arith;
      sound = λ f une. g.sound f (λ i l. une i (omega arith));
      whole = λ f all. below_more _ n (g.whole f all) (λ e. absurd (other e));
    }

    pub paired_more :
        (nth_row rows n).predicate.form ≡ 4 → (p : Pair) → p.left ≡ root_of roots (nth_row rows n).first → p.right ≡ root_of roots (nth_row rows n).second
        → Paired rows roots (n + 1) (pairs ++ p ∷ [])
    paired_more form p left right = record {
      within = let k = g.within in let l = length-append pairs (p ∷ []) in omega arith;
      sound = λ f une. apart_more pairs p f (g.sound f (λ i li. une i (omega arith)))
          (λ same. une n (omega arith) form (sym (ap f left) ∙ same ∙ ap f right));
      whole = λ f apart. below_more _ n (g.whole f (apart_before pairs p f apart))
          (λ _ same. apart_last pairs p f apart (ap f left ∙ same ∙ sym (ap f right)));
    }
