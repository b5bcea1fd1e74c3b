-- Whether two sets share a mark.
use Rattle.std.proofs.Common.{◌≡◌, ℕ, ◌<◌, true, false, List, length, sym, ap, ◌∙◌, inl, inr, arith}
use Rattle.std.specs.List.{count_by}
use lib.Bits.{bit_and, and_le_l}
use Rattle.std.proofs.lemmas.Bool.{both_ways, cases_Bool, and_from, and_parts, eqb-true, eq-eqb, not-false, not_from_true}
use Rattle.marks.specs.declared.pair.Pair.{Pair}
use Rattle.marks.specs.Marks.{has}
use Rattle.marks.specs.Choices.{shares, set_of, Narrowed, no_pair, nth_pair, Given, Touches}
use Rattle.marks.proofs.Sets.{has_and, empty_zero, none_in_zero}
use Rattle.marks.proofs.Fewer.{fewer}

pub no_common : (a b x : ℕ) → bit_and a b ≡ 0 → has a x ≡ true → has b x ≡ true → ⊥
no_common a b x e ha hb =
    both_ways (has (bit_and a b) x) (ap (λ n. has n x) e ∙ none_in_zero x) (has_and a b x ∙ and_from _ _ ha hb)

none_common : (a b : ℕ) → a < 65536 → ((x : ℕ) → x < 16 → has a x ≡ true → has b x ≡ true → ⊥) → bit_and a b ≡ 0
none_common a b l h =
    empty_zero 16 (bit_and a b) (omega (arith, and_le_l a b))
    (λ x lx. elim (cases_Bool (has (bit_and a b) x)) [
      | inl t ↦ let p = and_parts _ _ (sym (has_and a b x) ∙ t) in absurd (h x lx p.0 p.1)
      | inr e ↦ e
    ])

module _ (sets : List ℕ) (p : Pair) where
  pub unshared : shares sets p ≡ false → bit_and (set_of sets p.left) (set_of sets p.right) ≡ 0
  unshared h = eqb-true _ 0 (not-false _ h)

  pub shared_not : (x : ℕ) → shares sets p ≡ false → has (set_of sets p.left) x ≡ true → has (set_of sets p.right) x ≡ true → ⊥
  shared_not x h = no_common _ _ x (unshared h)

  pub is_unshared : bit_and (set_of sets p.left) (set_of sets p.right) ≡ 0 → shares sets p ≡ false
  is_unshared e = not_from_true _ (eq-eqb _ 0 e)

  pub not_shared :
      set_of sets p.left < 65536 → ((x : ℕ) → x < 16 → has (set_of sets p.left) x ≡ true → has (set_of sets p.right) x ≡ true → ⊥)
      → shares sets p ≡ false
  not_shared l h = is_unshared (none_common _ _ l h)

module _ (before after : List ℕ) (n : Narrowed before after) (p : Pair) (small : set_of after p.left < 65536) where
  pub shared_before : shares after p ≡ true → shares before p ≡ true
  shared_before h = elim (cases_Bool (shares before p)) [
    | inl t ↦ t
    | inr e ↦ absurd (both_ways (shares after p)
        (not_shared after p small (λ x l a b. shared_not before p x e (n p.left x l a) (n p.right x l b))) h)
  ]

-- once v has a mark, fewer pairs share one
pub fewer_shared :
    (before after : List ℕ) (pairs : List Pair) (v b i : ℕ) → Given before pairs v b after → length after ≡ 512
    → i < length pairs → Touches (nth_pair pairs i) v → shares before (nth_pair pairs i) ≡ true
    → count_by (shares after) pairs < count_by (shares before) pairs
fewer_shared before after pairs v b i g size l t s =
    fewer (shares after) (shares before) no_pair pairs i
    (λ j lj. shared_before before after g.narrowed (nth_pair pairs j) (g.full (nth_pair pairs j).left (let k = (nth_pair pairs j).left_listed in omega arith)).1)
    l (g.disjoint i l t) s
