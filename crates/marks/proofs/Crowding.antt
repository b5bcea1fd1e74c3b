-- Growing a clique, member by member.
use Rattle.std.proofs.Common.{◌≡◌, ℕ, ◌+◌, ◌<◌, ◌≤◌, true, cond, eqb, ◌⊎◌, List, length, get_or, set, Some, Option, sym, refl, ap, ◌∙◌, subst, inl, inr, arith}
use lib.Bits.{bit_or, or_lt}
use lib.Count.{ones}
use Rattle.std.proofs.lemmas.List.{get_or-set_same, get_or-set_other}
use Rattle.std.proofs.lemmas.Bool.{cases_eq, eq-eqb, ne_eqb, cond-true, cond-false, or_left, or_right}
use Rattle.marks.specs.declared.pair.Pair.{Pair}
use Rattle.marks.specs.Marks.{has}
use Rattle.marks.specs.Choices.{Hopeless, set_of}
use Rattle.marks.specs.Cliques.{Differ, Members, Near, Nearer, Candidate}
use Rattle.marks.proofs.Sets.{has_or}
use Rattle.marks.proofs.Pigeons.{no_more_than_ones}

-- the members, with v after the first few
abbrev pub joined_by : (ℕ → ℕ) → ℕ → ℕ → ℕ → ℕ
joined_by member size v i = cond (eqb i size) v (member i)

module _ (member : ℕ → ℕ) (size v : ℕ) where
  new_member : joined_by member size v size ≡ v
  new_member = cond-true (eqb size size) v (member size) (eq-eqb size size refl)

  old_member : (i : ℕ) → i < size → joined_by member size v i ≡ member i
  old_member i l = cond-false (eqb i size) v (member i) (ne_eqb i size (omega arith))

last_or_before : (i n : ℕ) → i < n + 1 → (i < n) ⊎ (i ≡ n)
last_or_before i n l = elim (cases_eq i n) [ inl e ↦ inr e | inr k ↦ inl (omega arith) ]

pub no_members : (sets : List ℕ) (pairs : List Pair) → Members sets pairs (λ i. i) 0 0
no_members sets pairs = record {
  apart = λ i j l m. absurd (omega arith);
  inside = λ f _ i l. absurd (omega arith);
  small = omega arith;
}

pub none_near : (pairs : List Pair) (near : List ℕ) → ((w : ℕ) → w < 512 → get_or near w 0 ≡ 0) → Near pairs (λ i. i) 0 near
none_near pairs near blank = record {
  apart = λ w i l m. absurd (let e = blank w l in omega arith);
  within = λ w l. let e = blank w l in omega arith;
}

module _ (sets : List ℕ) (pairs : List Pair) (member : ℕ → ℕ) (size union : ℕ) (g : Members sets pairs member size union)
    (near : List ℕ) (n : Near pairs member size near) (v : ℕ) (lv : v < 512) (at : get_or near v 0 ≡ size) (long : length sets ≡ 512) where
  pub more_members : set_of sets v < 65536 → Members sets pairs (joined_by member size v) (size + 1) (bit_or union (set_of sets v))
  more_members sv = record {
    apart = λ i j l m. elim (last_or_before j size m) [
      | inl lj ↦ subst (λ u. Differ pairs u (joined_by member size v j)) (sym (old_member member size v i (omega arith)))
          (subst (Differ pairs (member i)) (sym (old_member member size v j lj)) (g.apart i j l lj))
      | inr e ↦ subst (λ u. Differ pairs u (joined_by member size v j)) (sym (old_member member size v i (omega arith)))
          (subst (Differ pairs (member i)) (sym (ap (joined_by member size v) e ∙ new_member member size v)) (n.apart v i lv (omega arith)))
    ];
    inside = λ f within i l. elim (last_or_before i size l) [
      | inl li ↦ let old = g.inside f within i li in
          subst (λ u. (f u < 16) × (has (bit_or union (set_of sets v)) (f u) ≡ true)) (sym (old_member member size v i li))
          (old.0, has_or union (set_of sets v) (f (member i)) ∙ or_left _ _ old.1)
      | inr e ↦ let new = within v (omega arith) in
          subst (λ u. (f u < 16) × (has (bit_or union (set_of sets v)) (f u) ≡ true)) (sym (ap (joined_by member size v) e ∙ new_member member size v))
          (new.0, has_or union (set_of sets v) (f v) ∙ or_right _ _ new.1)
    ];
    small = or_lt 16 union (set_of sets v) g.small sv;
  }

  pub more_near : (after : List ℕ) → Nearer (Differ pairs v) size near after → Near pairs (joined_by member size v) (size + 1) after
  more_near after step = record {
    apart = λ w i lw l. elim (step w lw) [
      | inl e ↦ let k = n.within w lw in
          subst (λ u. Differ pairs u w) (sym (old_member member size v i (omega arith))) (n.apart w i lw (omega arith))
      | inr r ↦ let now = r.0 in let was = r.1 in elim (last_or_before i size (omega arith)) [
        | inl li ↦ subst (λ u. Differ pairs u w) (sym (old_member member size v i li)) (n.apart w i lw (omega arith))
        | inr e ↦ subst (λ u. Differ pairs u w) (sym (ap (joined_by member size v) e ∙ new_member member size v)) r.2
      ]
    ];
    within = λ w lw. elim (step w lw) [
      | inl e ↦ let k = n.within w lw in omega arith
      | inr r ↦ let now = r.0 in omega arith
    ];
  }

-- more members than marks: no choice
pub crowd_refuted :
    (sets : List ℕ) (pairs : List Pair) (member : ℕ → ℕ) (size union : ℕ) → Members sets pairs member (size + 1) union → ones union ≤ size
    → Hopeless sets pairs
crowd_refuted sets pairs member size union g few = record {
  none = λ f fits.
      let most = no_more_than_ones union (size + 1) (λ i. f (member i)) g.small (g.inside f fits.within) (λ i j l m. g.apart i j l m f fits.apart) in
      omega arith;
}

-- what may become the next member
module _ (near : List ℕ) (size : ℕ) where
  pub candidate_new : (next : Option ℕ) (v : ℕ) → next ≡ Some v → v < 512 → get_or near v 0 ≡ size → Candidate near size next
  candidate_new next v e l at u k = let same : v ≡ u = cc in subst (λ w. (w < 512) × (get_or near w 0 ≡ size)) same (l, at)

  pub candidate_kept : (old next : Option ℕ) → next ≡ old → Candidate near size old → Candidate near size next
  candidate_kept old next e c u k = c u (sym e ∙ k)

-- one more, for the same reason
pub nearer_more :
    (reason : ℕ → Type 0) (x size : ℕ) (before near : List ℕ) → Nearer reason size before near → length near ≡ 512 → get_or near x 0 ≡ size → x < 512
    → reason x → Nearer reason size before (set near x (size + 1))
nearer_more reason x size before near n long at l r w lw = elim (cases_eq w x) [
  | inl e ↦ elim (n w lw) [
    | inl same ↦ inr (ap (λ u. get_or (set near x (size + 1)) u 0) e ∙ get_or-set_same near x (size + 1) 0 (omega arith), sym same ∙ ap (λ u. get_or near u 0) e ∙ at, subst reason (sym e) r)
    | inr past ↦ let now = ap (λ u. get_or near u 0) e ∙ at in absurd (omega (arith, past.0))
  ]
  | inr ne ↦ subst (λ n. (n ≡ get_or before w 0) ⊎ ((n ≡ size + 1) × (get_or before w 0 ≡ size) × reason w)) (sym (get_or-set_other near x w (size + 1) 0 ne)) (n w lw)
]
