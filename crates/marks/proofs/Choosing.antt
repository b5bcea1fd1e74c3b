-- From a choice for the variables to one for their roots, and back.
use Rattle.std.proofs.Common.{◌≡◌, ℕ, zero, suc, ◌/◌, ◌%◌, ◌^◌, ◌<◌, true, not, eqb, List, length, get_or, sym, refl, ap, ◌∙◌, subst, inl, inr, pow-suc, arith}
use lib.Count.{count_trailing_zeros, under}
use Rattle.std.proofs.lemmas.Bool.{cases_eq, eqb-true, eqb-false, eq-eqb, ne_eqb, cond-true, cond-false, not-true, not_from_false}
use Rattle.domain.specs.declared.predicate.Row.{Row}
use Rattle.marks.specs.declared.pair.Pair.{Pair}
use Rattle.marks.specs.Marks.{has}
use Rattle.marks.specs.Choices.{Hopeless, Apart, Settled, set_of, nth_pair}
use Rattle.marks.specs.Rows.{nth_row, two, Ready, Allowed}
use Rattle.marks.specs.Joins.{root_of, Equal, Rooted, Joined, Gathered, Unequal, Paired}
use Rattle.marks.proofs.Sets.{has_zero, has_suc}
use Rattle.marks.proofs.Sharing.{shared_not}

-- the lowest mark of a set that has one
lowest : (k m : ℕ) → 0 < m → m < 2 ^ k → (count_trailing_zeros k m < k) × (has m (count_trailing_zeros k m) ≡ true)
unfolding count_trailing_zeros
lowest zero m some l = absurd (omega arith)
lowest (suc k) m some l = go (m % 2) refl (λ s. lowest k (m / 2) s (let p = pow-suc 2 k in omega arith))
  where
    go :
        (d : ℕ) → m % 2 ≡ d → (0 < m / 2 → (count_trailing_zeros k (m / 2) < k) × (has (m / 2) (count_trailing_zeros k (m / 2)) ≡ true))
        → (under d (count_trailing_zeros k (m / 2)) < suc k) × (has m (under d (count_trailing_zeros k (m / 2))) ≡ true)
    go zero e half = let h = half (omega arith) in (let l = h.0 in omega arith, has_suc m _ ∙ h.1)
    go (suc d) e half = (omega arith, has_zero m ∙ eq-eqb (m % 2) 1 (omega arith))

pub lowest_mark : (m : ℕ) → 0 < m → m < 65536 → (count_trailing_zeros 16 m < 16) × (has m (count_trailing_zeros 16 m) ≡ true)
lowest_mark m some l = lowest 16 m some l

two_equal : (r : Row) (x y : ℕ) → r.predicate.form ≡ 3 → two r x y ≡ eqb x y
two_equal r x y e = cond-true (eqb r.predicate.form 3) (eqb x y) _ (eq-eqb _ 3 e)

two_unequal : (r : Row) (x y : ℕ) → r.predicate.form ≡ 4 → two r x y ≡ not (eqb x y)
two_unequal r x y e =
    cond-false (eqb r.predicate.form 3) (eqb x y) _ (ne_eqb _ 3 (λ k. omega arith))
    ∙ cond-true (eqb r.predicate.form 4) (not (eqb x y)) true (eq-eqb _ 4 e)

two_from : (r : Row) (x y : ℕ) → (r.predicate.form ≡ 3 → x ≡ y) → (r.predicate.form ≡ 4 → x ≡ y → ⊥) → two r x y ≡ true
two_from r x y same differ = elim (cases_eq r.predicate.form 3) [
  | inl e ↦ two_equal r x y e ∙ eq-eqb x y (same e)
  | inr n ↦ elim (cases_eq r.predicate.form 4) [
    | inl e ↦ two_unequal r x y e ∙ not_from_false _ (ne_eqb x y (differ e))
    | inr k ↦ cond-false (eqb r.predicate.form 3) (eqb x y) _ (ne_eqb _ 3 n) ∙ cond-false (eqb r.predicate.form 4) (not (eqb x y)) true (ne_eqb _ 4 k)
  ]
]

module _ (sets : List ℕ) (rows : List Row) (f : ℕ → ℕ) (a : Allowed sets rows f) where
  pub allowed_equal : Equal rows (length rows) f
  allowed_equal i l e = eqb-true _ _ (sym (two_equal (nth_row rows i) _ _ e) ∙ a.kept i l)

  pub allowed_unequal : (roots : List ℕ) → Rooted roots f → Ready rows → Unequal rows roots (length rows) f
  allowed_unequal roots rooted ready i l e same =
      eqb-false _ _ (not-true _ (sym (two_unequal (nth_row rows i) _ _ e) ∙ a.kept i l))
      (rooted _ (ready i l).first ∙ same ∙ sym (rooted _ ((ready i l).second (λ k. omega arith) (λ k. omega arith))))

-- any choice from settled sets fits, so the lowest marks do
module _ (before : List ℕ) (pairs : List Pair) (after : List ℕ) (s : Settled before pairs after) (long : length after ≡ 512) where
  pub lowest_of : (u : ℕ) → u < 512 → (count_trailing_zeros 16 (set_of after u) < 16) × (has (set_of after u) (count_trailing_zeros 16 (set_of after u)) ≡ true)
  lowest_of u l = let f = s.full u (omega arith) in lowest_mark (set_of after u) f.0 f.1

  pub lowest_apart : Apart pairs (λ u. count_trailing_zeros 16 (set_of after u))
  lowest_apart i l e =
      shared_not after (nth_pair pairs i) (count_trailing_zeros 16 (set_of after (nth_pair pairs i).left)) (s.disjoint i l)
      (lowest_of (nth_pair pairs i).left (nth_pair pairs i).left_listed).1
      (subst (λ x. has (set_of after (nth_pair pairs i).right) x ≡ true) (sym e) (lowest_of (nth_pair pairs i).right (nth_pair pairs i).right_listed).1)

module _ (sets : List ℕ) (rows : List Row) (roots joined : List ℕ) (pairs : List Pair)
    (j : Joined rows (length rows) roots) (g : Gathered sets roots 512 joined) (p : Paired rows roots (length rows) pairs) (ready : Ready rows) where
  -- no choice for the roots, no choice for the variables
  pub none_allowed : Hopeless joined pairs → (f : ℕ → ℕ) → Allowed sets rows f → ⊥
  none_allowed none f a =
      let rooted = j.rooted f (allowed_equal sets rows f a) in
      none.none f (record {
        within = g.within f rooted a.within;
        apart = p.sound f (allowed_unequal sets rows f a roots rooted ready);
      })

  -- the marks of the roots serve the variables
  pub some_allowed :
      (after choice : List ℕ) → length sets ≡ 512 → length after ≡ 512 → Settled joined pairs after
      → ((v : ℕ) → v < 512 → get_or choice v 0 ≡ count_trailing_zeros 16 (set_of after (root_of roots v))) → Allowed sets rows (λ v. get_or choice v 0)
  some_allowed after choice long long' s is = record {
    within = λ v l.
        let lv : v < 512 = omega arith in
        let lr = j.listed v lv in
        let low = lowest_of joined pairs after s long' (root_of roots v) lr in
        subst (λ x. (x < 16) × (has (set_of sets v) x ≡ true)) (sym (is v lv))
        (low.0, g.narrow v _ lv low.0 (s.narrowed (root_of roots v) _ low.0 low.1));
    kept = λ i l.
        let second : ((nth_row rows i).predicate.form ≡ 1 → ⊥) → ((nth_row rows i).predicate.form ≡ 2 → ⊥) → (nth_row rows i).second < 512 = (ready i l).second in
        two_from (nth_row rows i) _ _
        (λ e. is _ (ready i l).first ∙ ap (λ u. count_trailing_zeros 16 (set_of after u)) (j.merged i l e)
        ∙ sym (is _ (second (λ k. omega arith) (λ k. omega arith))))
        (λ e same. p.whole (λ u. count_trailing_zeros 16 (set_of after u)) (lowest_apart joined pairs after s long') i l e
        (sym (is _ (ready i l).first) ∙ same ∙ is _ (second (λ k. omega arith) (λ k. omega arith))));
  }
