-- Giving a variable a mark, pair by pair.
use Rattle.std.proofs.Common.{◌≡◌, ℕ, ◌+◌, ◌<◌, ◌≤◌, true, false, not, ◌&&◌, ◌==◌, ◌≢◌, eqb, List, length, set, Some, None, sym, refl, ap, ◌∙◌, subst, inl, inr, arith, below_more}
use Rattle.std.proofs.lemmas.List.{get_or-set_same, get_or-set_other, length-set}
use Rattle.std.proofs.lemmas.Bool.{both_ways, cases_Bool, cases_eq, and_parts, and_from, eqb-true, eq-eqb, ne_eqb, not-true, not_from_false}
use Rattle.marks.specs.declared.pair.Pair.{Pair}
use Rattle.marks.specs.Marks.{has}
use Rattle.marks.specs.Choices.{Fits, Within, Full, Narrowed, Given, Never, Rest, NoneBut, Other, set_of, nth_pair}
use Rattle.marks.proofs.Sets.{has_not_empty}
use Rattle.marks.proofs.Sharing.{not_shared}

-- v has lost the mark b, and the other sets are as they were
pub record Forbidden (before : List ℕ) (v b : ℕ) (after : List ℕ) : Type 0 where
  pub size : length after ≡ length before
  pub others : (w : ℕ) → (w ≢ v) → set_of after w ≡ set_of before w
  pub lost : (x : ℕ) → x < 16 → has (set_of after v) x ≡ (has (set_of before v) x && not (x == b))
  pub small : set_of after v < 65536

-- where v has the mark b and is one of the pair, the other has lost it
pub record Parted (before : List ℕ) (p : Pair) (v b : ℕ) (after : List ℕ) : Type 0 where
  pub size : length after ≡ length before
  pub narrowed : Narrowed before after
  pub full : Full after
  pub kept : (f : ℕ → ℕ) → Within before f → f v ≡ b → (f p.left ≢ f p.right) → Within after f
  pub right : p.left ≡ v → has (set_of after p.right) b ≡ false
  pub left : p.right ≡ v → has (set_of after p.left) b ≡ false

-- what stands once the pairs below n have been looked at
pub record Giving (before : List ℕ) (pairs : List Pair) (v b n : ℕ) (sets : List ℕ) : Type 0 where
  pub size : length sets ≡ length before
  pub narrowed : Narrowed before sets
  pub full : Full sets
  pub kept : (f : ℕ → ℕ) → Fits before pairs f → f v ≡ b → Within sets f
  pub alone : (x : ℕ) → x < 16 → has (set_of sets v) x ≡ true → x ≡ b
  pub lost :
      (i : ℕ) → i < n
      → ((nth_pair pairs i).left ≡ v → has (set_of sets (nth_pair pairs i).right) b ≡ false)
      × ((nth_pair pairs i).right ≡ v → has (set_of sets (nth_pair pairs i).left) b ≡ false)

module _ (before : List ℕ) (pairs : List Pair) (v b : ℕ) where
  -- v has the mark b alone
  pub giving_none :
      (m : ℕ) → Full before → v < length before → has (set_of before v) b ≡ true → m < 65536 → b < 16 → ((y : ℕ) → has m y ≡ eqb y b)
      → Giving before pairs v b 0 (set before v m)
  giving_none m full lv hb lm lb only = record {
    size = length-set before v m;
    narrowed = λ w x lx h. elim (cases_eq w v) [
      | inl e ↦ let h' : has m x ≡ true = ap (λ s. has s x) (sym (ap (set_of (set before v m)) e ∙ get_or-set_same before v m 0 lv)) ∙ h in
          let e' = eqb-true x b (sym (only x) ∙ h') in
          ap (λ u. has (set_of before u) x) e ∙ ap (has (set_of before v)) e' ∙ hb
      | inr n ↦ ap (λ s. has s x) (sym (get_or-set_other before v w m 0 n)) ∙ h
    ];
    full = λ w lw. elim (cases_eq w v) [
      | inl e ↦ subst (λ s. (0 < s) × (s < 65536)) (sym (ap (set_of (set before v m)) e ∙ get_or-set_same before v m 0 lv)) (some, lm)
      | inr n ↦ subst (λ s. (0 < s) × (s < 65536)) (sym (get_or-set_other before v w m 0 n)) (full w (let k = length-set before v m in omega arith))
    ];
    kept = λ f fits e w lw. let in_before = fits.within w (let k = length-set before v m in omega arith) in (
      in_before.0,
      elim (cases_eq w v) [
        | inl ew ↦ ap (λ s. has s (f w)) (ap (set_of (set before v m)) ew ∙ get_or-set_same before v m 0 lv) ∙ only (f w) ∙ eq-eqb (f w) b (ap f ew ∙ e)
        | inr n ↦ ap (λ s. has s (f w)) (get_or-set_other before v w m 0 n) ∙ in_before.1
      ],
    );
    alone = λ x lx h. eqb-true x b (sym (only x) ∙ ap (λ s. has s x) (sym (get_or-set_same before v m 0 lv)) ∙ h);
    lost = λ i l. absurd (omega arith);
  }
    where
      some : 0 < m
      some = let ne = has_not_empty m b (only b ∙ eq-eqb b b refl) in omega arith

  module _ (sets after : List ℕ) (n : ℕ) (g : Giving before pairs v b n sets) where
    pub giving_more : n < length pairs → b < 16 → Parted sets (nth_pair pairs n) v b after → Giving before pairs v b (n + 1) after
    giving_more l lb p = record {
      size = p.size ∙ g.size;
      narrowed = λ w x lx h. g.narrowed w x lx (p.narrowed w x lx h);
      full = p.full;
      kept = λ f fits e. p.kept f (g.kept f fits e) e (fits.apart n l);
      alone = λ x lx h. g.alone x lx (p.narrowed v x lx h);
      lost = below_more _ n
          (λ i li. (λ e. still_lost (nth_pair pairs i).right ((g.lost i li).0 e), λ e. still_lost (nth_pair pairs i).left ((g.lost i li).1 e)))
          (p.right, p.left);
    }
      where
        still_lost : (w : ℕ) → has (set_of sets w) b ≡ false → has (set_of after w) b ≡ false
        still_lost w e =
            elim (cases_Bool (has (set_of after w) b)) [ inl t ↦ absurd (both_ways _ e (p.narrowed w b lb t)) | inr f ↦ f ]

    pub giving_stuck :
        n < length pairs
        → ((f : ℕ → ℕ) → Within sets f → f v ≡ b → (f (nth_pair pairs n).left ≡ f (nth_pair pairs n).right → ⊥) → ⊥)
        → Never before pairs v b
    giving_stuck l stuck f fits e = stuck f (g.kept f fits e) e (fits.apart n l)

  pub giving_all :
      (after : List ℕ) (n : ℕ) → Giving before pairs v b n after → length pairs ≤ n → length before ≡ 512
      → Given before pairs v b after
  giving_all after n g all size = record {
    narrowed = g.narrowed;
    full = g.full;
    kept = λ f fits e. record { within = g.kept f fits e; apart = fits.apart };
    disjoint = λ i l t. not_shared after (nth_pair pairs i) (g.full _ (let k = (nth_pair pairs i).left_listed in let z = g.size in omega arith)).1
        (λ x lx hl hr. elim t [
          | inl e ↦ both_ways (has (set_of after (nth_pair pairs i).right) b) ((g.lost i (omega arith)).0 e)
              (subst (λ y. has (set_of after (nth_pair pairs i).right) y ≡ true) (g.alone x lx (subst (λ w. has (set_of after w) x ≡ true) e hl)) hr)
          | inr e ↦ both_ways (has (set_of after (nth_pair pairs i).left) b) ((g.lost i (omega arith)).1 e)
              (subst (λ y. has (set_of after (nth_pair pairs i).left) y ≡ true) (g.alone x lx (subst (λ w. has (set_of after w) x ≡ true) e hr)) hl)
        ]);
  }

-- one variable loses a mark that another has
module _ (before after : List ℕ) (v b w : ℕ) (fo : Forbidden before w b after) where
  pub forbidden_narrowed : Narrowed before after
  forbidden_narrowed u x lx h = elim (cases_eq u w) [
    | inl e ↦ let h' : has (set_of after w) x ≡ true = ap (λ s. has (set_of after s) x) (sym e) ∙ h in
        ap (λ s. has (set_of before s) x) e ∙ (and_parts _ _ (sym (fo.lost x lx) ∙ h')).0
    | inr n ↦ ap (λ s. has s x) (sym (fo.others u n)) ∙ h
  ]

  pub forbidden_kept : (f : ℕ → ℕ) → Within before f → f v ≡ b → (f w ≡ f v → ⊥) → Within after f
  forbidden_kept f within e ne u lu =
      let old = within u (let k = fo.size in omega arith) in (
        old.0,
        elim (cases_eq u w) [
          | inl eu ↦ ap (λ s. has (set_of after s) (f u)) eu ∙ fo.lost (f u) old.0
              ∙ and_from _ _ (ap (λ s. has (set_of before s) (f u)) (sym eu) ∙ old.1) (not_from_false _ (ne_eqb (f u) b (λ k. ne (sym (ap f eu) ∙ k ∙ sym e))))
          | inr n ↦ ap (λ s. has s (f u)) (fo.others u n) ∙ old.1
        ],
      )

  pub forbidden_gone : b < 16 → has (set_of after w) b ≡ false
  forbidden_gone lb = elim (cases_Bool (has (set_of after w) b)) [
    | inl t ↦ absurd (both_ways _ (not-true _ (and_parts _ _ (sym (fo.lost b lb) ∙ t)).1) (eq-eqb b b refl))
    | inr f ↦ f
  ]

  pub forbidden_full : Full before → 0 < set_of after w → Full after
  forbidden_full full some u lu = elim (cases_eq u w) [
    | inl e ↦ subst (λ s. (0 < set_of after s) × (set_of after s < 65536)) (sym e) (some, fo.small)
    | inr n ↦ subst (λ s. (0 < s) × (s < 65536)) (sym (fo.others u n)) (full u (let k = fo.size in omega arith))
  ]

-- where nothing is left without b, there was nothing but b
pub none_but :
    (set b rest : ℕ) → ((x : ℕ) → x < 16 → has rest x ≡ (has set x && not (x == b))) → rest ≡ 0 → NoneBut set b
none_but set b rest lost e x lx h = elim (cases_eq x b) [
  | inl k ↦ k
  | inr n ↦ absurd (has_not_empty rest x (lost x lx ∙ and_from _ _ h (not_from_false _ (ne_eqb x b n))) e)
]

-- the other of the pair, w, loses the mark b of v
module _ (before : List ℕ) (p : Pair) (v b w : ℕ) (o : Other p v (Some w)) (full : Full before) (lw : w < length before) (lb : b < 16) where
  -- a choice that keeps the pair apart gives the two different marks
  apart : (f : ℕ → ℕ) → (f p.left ≡ f p.right → ⊥) → f w ≡ f v → ⊥
  apart f ne k = elim o [ inl e ↦ ne (ap f e.0 ∙ sym k ∙ sym (ap f e.1)) | inr e ↦ ne (ap f e.1 ∙ k ∙ sym (ap f e.0)) ]

  pub parted_stuck :
      NoneBut (set_of before w) b → (f : ℕ → ℕ) → Within before f → f v ≡ b → (f p.left ≡ f p.right → ⊥) → ⊥
  parted_stuck bare f within e ne = let here = within w lw in apart f ne (bare (f w) here.0 here.1 ∙ sym e)

  module _ (rest : ℕ) (r : Rest (set_of before w) b rest) (small : rest < 65536) where
    abbrev after : List ℕ
    after = set before w rest

    is : set_of after w ≡ rest
    is = get_or-set_same before w rest 0 lw

    forbidden : Forbidden before w b after
    forbidden = record {
      size = length-set before w rest;
      others = λ u n. get_or-set_other before w u rest 0 n;
      lost = λ x lx. ap (λ s. has s x) is ∙ r.lost x lx;
      small = subst (λ s. s < 65536) (sym is) small;
    }

    pub parted_more : Parted before p v b after
    parted_more = record {
      size = length-set before w rest;
      narrowed = forbidden_narrowed before after v b w forbidden;
      full = forbidden_full before after v b w forbidden full (subst (λ s. 0 < s) (sym is) r.some);
      kept = λ f within fv ne. forbidden_kept before after v b w forbidden f within fv (apart f ne);
      right = λ h. gone p.right (elim o [ inl e ↦ e.1 | inr e ↦ e.0 ∙ sym h ∙ e.1 ]);
      left = λ h. gone p.left (elim o [ inl e ↦ e.0 ∙ sym h ∙ e.1 | inr e ↦ e.1 ]);
    }
      where
        gone : (u : ℕ) → u ≡ w → has (set_of after u) b ≡ false
        gone u e = subst (λ u. has (set_of after u) b ≡ false) (sym e) (forbidden_gone before after v b w forbidden lb)

pub parted_apart : (sets : List ℕ) (p : Pair) (v b : ℕ) → Full sets → Other p v None → Parted sets p v b sets
parted_apart sets p v b full o = record {
  size = refl;
  narrowed = λ w x lx t. t;
  full = full;
  kept = λ f within fv ne. within;
  right = λ h. absurd (o.0 h);
  left = λ h. absurd (o.1 h);
}

pub other_listed : (p : Pair) (v w : ℕ) → Other p v (Some w) → w < 512
other_listed p v w o = elim o [ inl e ↦ subst (λ u. u < 512) e.1 p.right_listed | inr e ↦ subst (λ u. u < 512) e.1 p.left_listed ]
