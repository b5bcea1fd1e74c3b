-- From choices of values for the rows to choices of marks from the sets, and back.
use Rattle.std.proofs.Common.{◌≡◌, ℕ, ◌<◌, ◌≤◌, Bool, true, false, cond, not, ◌&&◌, ◌||◌, eqb, ltb, ◌⊎◌, List, length, get_or, ℤ, pos, negsuc, sym, refl, ap, ◌∙◌, subst, inl, inr, arith}
use lib.Signed.{le_z}
use Rattle.std.proofs.lemmas.List.Elements.{All-get_or, All-from_get_or}
use Rattle.std.proofs.lemmas.List.{get_or_past}
use Rattle.std.proofs.lemmas.Bool.{cases_eq, cases_lt, both_ways, and_parts, and_from, or_cases, or_left, or_right, eqb-true, eq-eqb, ne_eqb, ltb-true, leb-true, le-leb, cond-true}
use Rattle.domain.specs.declared.predicate.Row.{Row}
use Rattle.domain.specs.declared.predicate.Predicate.{Predicate}
use Rattle.domain.specs.Meaning.{known, tested}
use Rattle.domain.specs.Solving.{Chosen, Kept, Accepted, fit}
use Rattle.marks.specs.Marks.{marks, has, nat, in_range, places, says}
use Rattle.marks.specs.Rows.{nth_row, one, two, Ready, Allowed, Masked}
use Rattle.marks.specs.Law.{four_forms, mark_of}

-- a test that is counted
counted : (b : Bool) (k : ℕ) → ltb 0 (cond b k 0) ≡ true → b ≡ true
counted true k h = refl
counted false k h = absurd (both_ways false refl h)

range_of : (c : ℤ) (top : ℕ) → (le_z (pos 0) c && le_z c (pos top)) ≡ true → (c ≡ pos (nat c)) × (nat c ≤ top)
range_of (pos n) top h = (refl, leb-true n top (and_parts _ _ h).1)
range_of (negsuc n) top h = absurd (both_ways false refl h)

small_of : (c : ℤ) (top k : ℕ) → top < 65536 → ltb 0 (cond (le_z (pos 0) c && le_z c (pos top)) k 0) ≡ true → (c ≡ pos (nat c)) × (nat c < 65536)
small_of c top k l h = let r = range_of c top (counted _ k h) in (r.0, let m = r.1 in omega arith)

-- a known predicate's constant is a set of marks
constant_of : (f : ℕ) (c : ℤ) → ltb 0 (places f c) ≡ true → (c ≡ pos (nat c)) × (nat c < 65536)
constant_of f c h =
    let at : (g : ℕ) → f ≡ g → ltb 0 (places g c) ≡ true = λ g e. subst (λ g. ltb 0 (places g c) ≡ true) e h in
    elim (four_forms f c h) [
      | inl a ↦ elim a [ inl e ↦ small_of c 65535 1 (omega arith) (at 1 e) | inr e ↦ small_of c 65535 1 (omega arith) (at 2 e) ]
      | inr a ↦ elim a [ inl e ↦ small_of c 0 2 (omega arith) (at 3 e) | inr e ↦ small_of c 0 2 (omega arith) (at 4 e) ]
    ]

not_one : (b : Bool) → ◌≡◌ {A = ℕ} (cond b 2 0) 1 → ⊥
not_one true e = omega arith
not_one false e = omega arith

-- forms 3 and 4 have not one place
two_places : (f : ℕ) (c : ℤ) → (f ≡ 1 → ⊥) → (f ≡ 2 → ⊥) → ltb 0 (places f c) ≡ true → places f c ≡ 1 → ⊥
two_places f c n1 n2 h e =
    elim (four_forms f c h) [
      | inl a ↦ elim a [ inl k ↦ n1 k | inr k ↦ n2 k ]
      | inr a ↦ elim a [
        | inl k ↦ not_one (le_z (pos 0) c && le_z c (pos 0)) (subst (λ g. places g c ≡ 1) k e)
        | inr k ↦ not_one (le_z (pos 0) c && le_z c (pos 0)) (subst (λ g. places g c ≡ 1) k e)
      ]
    ]

one_counted : (b : Bool) → ltb 0 (cond b 1 0) ≡ true → ◌≡◌ {A = ℕ} (cond b 1 0) 1
one_counted true h = refl
one_counted false h = absurd (both_ways false refl h)

one_place : (f : ℕ) (c : ℤ) → (f ≡ 1) ⊎ (f ≡ 2) → ltb 0 (places f c) ≡ true → places f c ≡ 1
one_place f c w h =
    elim w [
      | inl e ↦ subst (λ g. ltb 0 (places g c) ≡ true → places g c ≡ 1) (sym e) (one_counted (le_z (pos 0) c && le_z c (pos 65535))) h
      | inr e ↦ subst (λ g. ltb 0 (places g c) ≡ true → places g c ≡ 1) (sym e) (one_counted (le_z (pos 0) c && le_z c (pos 65535))) h
    ]

-- what an accepted row is
pub record Fit (n : ℕ) (r : Row) : Type 0 where
  pub kind : r.predicate.kind ≡ 0
  pub known : ltb 0 (places r.predicate.form r.predicate.constant) ≡ true
  pub first : r.first < n
  pub second : (r.predicate.form ≡ 1 → ⊥) → (r.predicate.form ≡ 2 → ⊥) → r.second < n

arity_known : (k a : ℕ) → ltb 0 (cond (eqb k 0) a 0) ≡ true → (k ≡ 0) × (ltb 0 a ≡ true) × (cond (eqb k 0) a 0 ≡ a)
arity_known k a h =
    let t = counted (eqb k 0) a h in
    let e = cond-true (eqb k 0) a 0 t in
    (eqb-true k 0 t, subst (λ n. ltb 0 n ≡ true) e h, e)

pub fit_row : (kinds : List ℕ) (r : Row) → fit marks kinds r ≡ true → Fit (length kinds) r
fit_row kinds r h =
    let p = and_parts _ _ h in
    let q = and_parts _ _ p.1 in
    let a = arity_known r.predicate.kind (places r.predicate.form r.predicate.constant) p.0 in
    record {
      kind = a.0;
      known = a.1;
      first = ltb-true _ _ (and_parts _ _ q.0).0;
      second = λ n1 n2. elim (or_cases _ _ q.1) [
        | inl e ↦ absurd (two_places r.predicate.form r.predicate.constant n1 n2 a.1 (sym a.2 ∙ eqb-true _ 1 e))
        | inr e ↦ ltb-true _ _ (and_parts _ _ e).0
      ];
    }

module _ (kinds : List ℕ) (rows : List Row) (room : ℕ) (a : Accepted marks kinds rows room) where
  pub fit_at : (i : ℕ) → i < length rows → Fit (length kinds) (nth_row rows i)
  fit_at i l = fit_row kinds (nth_row rows i) (All-get_or (λ r. fit marks kinds r ≡ true) rows i _ l a.fit_rows)

  pub accepted_ready : Ready rows
  accepted_ready i l =
      let f = fit_at i l in
      let few = a.few_variables in
      record {
        first = let k = f.first in omega arith;
        second = λ n1 n2. let k = f.second n1 n2 in omega arith;
        constant = constant_of (nth_row rows i).predicate.form (nth_row rows i).predicate.constant f.known;
      }

-- what a predicate says is what its form says of one mark and of two
says_one : (f c x y : ℕ) → says f c x y ≡ true → cond (eqb f 1) (has c x) (cond (eqb f 2) (not (has c x)) true) ≡ true
says_one f c x y h = go (eqb f 1) (eqb f 2) _ h
  where
    go : (a b z : Bool) → cond a (has c x) (cond b (not (has c x)) z) ≡ true → cond a (has c x) (cond b (not (has c x)) true) ≡ true
    go true b z h = h
    go false true z h = h
    go false false z h = refl

says_two : (f c x y : ℕ) → says f c x y ≡ true → cond (eqb f 3) (eqb x y) (cond (eqb f 4) (not (eqb x y)) true) ≡ true
says_two f c x y h =
    elim (cases_eq f 1) [
      | inl e ↦ rw e
      | inr n1 ↦ elim (cases_eq f 2) [
        | inl e ↦ rw e
        | inr n2 ↦ go (eqb f 3) (eqb f 4) (rw (ne_eqb f 1 n1, ne_eqb f 2 n2) at h)
      ]
    ]
  where
    go : (a b : Bool) → cond a (eqb x y) (cond b (not (eqb x y)) false) ≡ true → cond a (eqb x y) (cond b (not (eqb x y)) true) ≡ true
    go true b h = h
    go false true h = h
    go false false h = absurd (both_ways false refl h)

abbrev one_of : ℕ → ℕ → ℕ → Bool
one_of f c x = cond (eqb f 1) (has c x) (cond (eqb f 2) (not (has c x)) true)

abbrev two_of : ℕ → ℕ → ℕ → Bool
two_of f x y = cond (eqb f 3) (eqb x y) (cond (eqb f 4) (not (eqb x y)) true)

says_from :
    (f c x y : ℕ) → ((f ≡ 1) ⊎ (f ≡ 2)) ⊎ ((f ≡ 3) ⊎ (f ≡ 4)) → one_of f c x ≡ true → two_of f x y ≡ true → says f c x y ≡ true
says_from f c x y w h k =
    elim w [
      | inl a ↦ elim a [
        | inl e ↦ subst (λ g. one_of g c x ≡ true → says g c x y ≡ true) (sym e) (λ t. t) h
        | inr e ↦ subst (λ g. one_of g c x ≡ true → says g c x y ≡ true) (sym e) (λ t. t) h
      ]
      | inr a ↦ elim a [
        | inl e ↦ subst (λ g. two_of g x y ≡ true → says g c x y ≡ true) (sym e) (λ t. t) k
        | inr e ↦ subst (λ g. two_of g x y ≡ true → says g c x y ≡ true) (sym e) (λ t. t) k
      ]
    ]

two_of_one : (f x y : ℕ) → (f ≡ 1) ⊎ (f ≡ 2) → two_of f x y ≡ true
two_of_one f x y w = elim w [ inl e ↦ subst (λ g. two_of g x y ≡ true) (sym e) refl | inr e ↦ subst (λ g. two_of g x y ≡ true) (sym e) refl ]

last_of_four : (p q r t : Bool) → (p && (q && (r && t))) ≡ true → t ≡ true
last_of_four p q r t h = (and_parts r t (and_parts q (r && t) (and_parts p (q && (r && t)) h).1).1).1

tested_holds : (p : Predicate) (x y : ℤ) → tested marks p x y ≡ true → marks.holds p x y ≡ true
tested_holds p x y h = last_of_four (known marks p) (marks.within p.kind x) (eqb (marks.arity p) 1 || marks.within p.kind y) (marks.holds p x y) h

tested_from :
    (p : Predicate) (x y : ℤ) → known marks p ≡ true → marks.within p.kind x ≡ true
    → (eqb (marks.arity p) 1 || marks.within p.kind y) ≡ true → marks.holds p x y ≡ true → tested marks p x y ≡ true
tested_from p x y a b c d = and_from _ _ a (and_from _ _ b (and_from _ _ c d))

module _ (kinds : List ℕ) (rows : List Row) (room : ℕ) (a : Accepted marks kinds rows room) (sets : List ℕ) (m : Masked rows (length rows) sets) where
  -- a choice of values gives a choice of marks
  module _ (vs : List ℤ) (ch : Chosen marks kinds rows vs) where
    abbrev mark : ℕ → ℕ
    mark v = nat (get_or vs v (pos 0))

    holds_at :
        (i : ℕ) → i < length rows
        → says (nth_row rows i).predicate.form (nat (nth_row rows i).predicate.constant) (mark (nth_row rows i).first) (mark (nth_row rows i).second) ≡ true
    holds_at i l =
        tested_holds (nth_row rows i).predicate (get_or vs (nth_row rows i).first (pos 0)) (get_or vs (nth_row rows i).second (pos 0))
        (All-get_or (Kept marks vs) rows i _ l ch.kept)

    small : (v : ℕ) → mark v < 16
    small v = elim (cases_lt v (length kinds)) [
      | inl l ↦
          let r = mark_of (get_or vs v (pos 0)) (and_parts (eqb (get_or kinds v 0) 0) (in_range (get_or vs v (pos 0))) (ch.of_kind v l)).1 in
          subst (λ z. nat z < 16) (sym r.1) (let b = r.2 in omega arith)
      | inr l ↦ subst (λ z. nat z < 16) (sym (get_or_past vs v (pos 0) (let k = ch.one_each in omega arith))) (omega arith)
    ]

    pub chosen_allowed : Allowed sets rows (λ v. nat (get_or vs v (pos 0)))
    chosen_allowed = record {
      within = λ v l. let lv : v < 512 = let k = m.size in omega arith in (
        small v,
        m.whole v (mark v) lv (small v)
            (λ i li e. subst (λ u. one (nth_row rows i) (mark u) ≡ true) e (says_one (nth_row rows i).predicate.form (nat (nth_row rows i).predicate.constant) (mark (nth_row rows i).first) (mark (nth_row rows i).second) (holds_at i li))),
      );
      kept = λ i li. says_two (nth_row rows i).predicate.form (nat (nth_row rows i).predicate.constant) (mark (nth_row rows i).first) (mark (nth_row rows i).second) (holds_at i li);
    }

  -- a choice of marks gives a choice of values
  module _ (choice : List ℕ) (al : Allowed sets rows (λ v. get_or choice v 0)) (chosen : List ℤ) (long : length chosen ≡ length kinds)
      (value : (v : ℕ) → v < length kinds → get_or chosen v (pos 0) ≡ pos (get_or choice v 0)) where
    mark_in : (v : ℕ) → v < 512 → in_range (pos (get_or choice v 0)) ≡ true
    mark_in v l = and_from _ _ (le-leb 0 (get_or choice v 0) (omega arith)) (le-leb (get_or choice v 0) 15 (let k = (al.within v (let s = m.size in omega arith)).0 in omega arith))

    value_in : (k v : ℕ) → k ≡ 0 → v < length kinds → marks.within k (get_or chosen v (pos 0)) ≡ true
    value_in k v e l =
        and_from _ _ (eq-eqb k 0 e) (ap in_range (value v l) ∙ mark_in v (let f = a.few_variables in omega arith))

    module _ (i : ℕ) (l : i < length rows) where
      fits : Fit (length kinds) (nth_row rows i)
      fits = fit_at kinds rows room a i l

      first_small : (nth_row rows i).first < 512
      first_small = let f = fits.first in let few = a.few_variables in omega arith

      arity_is : marks.arity (nth_row rows i).predicate ≡ places (nth_row rows i).predicate.form (nth_row rows i).predicate.constant
      arity_is = cond-true (eqb (nth_row rows i).predicate.kind 0) _ 0 (eq-eqb _ 0 fits.kind)

      says_first : one (nth_row rows i) (get_or choice (nth_row rows i).first 0) ≡ true
      says_first =
          let w = al.within (nth_row rows i).first (let s = m.size in let f = first_small in omega arith) in
          m.suits (nth_row rows i).first _ first_small w.0 w.1 i l refl

      -- the second place counts only at forms 3 and 4
      says_second :
          (eqb (marks.arity (nth_row rows i).predicate) 1 || marks.within (nth_row rows i).predicate.kind (get_or chosen (nth_row rows i).second (pos 0)) ≡ true)
          × (two (nth_row rows i) (get_or choice (nth_row rows i).first 0) (nat (get_or chosen (nth_row rows i).second (pos 0))) ≡ true)
      says_second =
          elim (cases_eq (nth_row rows i).predicate.form 1) [
            | inl e ↦ single (inl e)
            | inr n1 ↦ elim (cases_eq (nth_row rows i).predicate.form 2) [
              | inl e ↦ single (inr e)
              | inr n2 ↦
                  let ls = fits.second n1 n2 in (
                    or_right _ _ (value_in _ (nth_row rows i).second fits.kind ls),
                    subst (λ z. two (nth_row rows i) (get_or choice (nth_row rows i).first 0) (nat z) ≡ true) (sym (value (nth_row rows i).second ls)) (al.kept i l),
                  )
            ]
          ]
        where
          single : ((nth_row rows i).predicate.form ≡ 1) ⊎ ((nth_row rows i).predicate.form ≡ 2)
              → (eqb (marks.arity (nth_row rows i).predicate) 1 || marks.within (nth_row rows i).predicate.kind (get_or chosen (nth_row rows i).second (pos 0)) ≡ true)
              × (two (nth_row rows i) (get_or choice (nth_row rows i).first 0) (nat (get_or chosen (nth_row rows i).second (pos 0))) ≡ true)
          single w = (
            or_left _ _ (eq-eqb _ 1 (arity_is ∙ one_place (nth_row rows i).predicate.form (nth_row rows i).predicate.constant w fits.known)),
            two_of_one (nth_row rows i).predicate.form _ _ w,
          )

      row_kept : Kept marks chosen (nth_row rows i)
      row_kept =
          tested_from (nth_row rows i).predicate (get_or chosen (nth_row rows i).first (pos 0)) (get_or chosen (nth_row rows i).second (pos 0))
          (ap (ltb 0) arity_is ∙ fits.known)
          (value_in (nth_row rows i).predicate.kind (nth_row rows i).first fits.kind fits.first)
          says_second.0
          (subst (λ z. says (nth_row rows i).predicate.form (nat (nth_row rows i).predicate.constant) (nat z) (nat (get_or chosen (nth_row rows i).second (pos 0))) ≡ true)
          (sym (value (nth_row rows i).first fits.first))
          (says_from (nth_row rows i).predicate.form (nat (nth_row rows i).predicate.constant) (get_or choice (nth_row rows i).first 0)
          (nat (get_or chosen (nth_row rows i).second (pos 0)))
          (four_forms (nth_row rows i).predicate.form (nth_row rows i).predicate.constant fits.known) says_first says_second.1))

    pub allowed_chosen : Chosen marks kinds rows chosen
    allowed_chosen = record {
      one_each = long;
      of_kind = λ v l. value_in (get_or kinds v 0) v (eqb-true _ 0 (All-get_or (λ k. marks.knows k ≡ true) kinds v 0 l a.known_kinds)) l;
      kept = All-from_get_or (Kept marks chosen) rows _ row_kept;
    }
