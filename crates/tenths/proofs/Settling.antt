-- Why a round settles one more spot: measured against any potential, a link can raise its head only where the head's gap is
-- larger than the tail's, and afterwards it is still no smaller.
use Rattle.std.proofs.Common.{◌≡◌, ℕ, ◌+◌, ◌-◌, ◌<◌, ◌≤◌, min, Bool, true, false, ◌||◌, eqb, List, length, get_or, set, sym, refl, ap, ◌∙◌, subst, inl, inr, ⊎_elim, arith, below_more}
use Rattle.std.proofs.lemmas.List.{get_or-set_same, get_or-set_other, length-set}
use Rattle.std.proofs.lemmas.Bool.{cases_eq, cases_Bool, both_ways, or_cases, or_parts, eqb-true}
use Rattle.std.proofs.lemmas.List.Elements.{All-contains}
use Rattle.std.specs.List.{All, Contains}
use Rattle.tenths.specs.declared.links.Link.{Link}
use Rattle.tenths.specs.Differences.{at, Keeps, Fair, Potential, Under}
use Rattle.tenths.specs.Relaxing.{no_link, Settled, Settling}

-- no value of a potential reaches the ceiling
pub ceiling : (n : ℕ) (links : List Link) (v : ℕ → ℕ) → Potential n links v → (x : ℕ) → x ≤ n → v x < 65536
ceiling n links v p x h = elim (cases_eq x n) [ inl e ↦ rw e (omega (arith, p.zero)) | inr ne ↦ p.ranged x (omega arith) ]

-- a bound that is raised, and the others
module _ (ds : List ℕ) (h b : ℕ) (inside : h < length ds) where
  raised_here : (x : ℕ) → x ≡ h → at (set ds h b) x ≡ b
  raised_here x e = rw e (get_or-set_same ds h b 0 inside)

  raised_other : (x : ℕ) → (x ≡ h → ⊥) → at (set ds h b) x ≡ at ds x
  raised_other x ne = get_or-set_other ds h x b 0 ne

  pub raised_grown : at ds h ≤ b → (x : ℕ) → at ds x ≤ at (set ds h b) x
  raised_grown up x =
      elim (cases_eq x h) [ inl e ↦ (let r = raised_here x e in let q : at ds x ≡ at ds h = ap (at ds) e in omega arith) | inr ne ↦ (let r = raised_other x ne in omega arith) ]

-- what a link raises stays below numbers that keep the link
raised_below :
    (ds : List ℕ) (l : Link) (v : ℕ → ℕ) → l.head < length ds → Keeps v l → at ds l.tail ≤ v l.tail → (x : ℕ) → at ds x ≤ v x
    → at (set ds l.head (min 65536 (at ds l.tail + l.weight - 131072))) x ≤ v x
raised_below ds l v inside kept tail x old =
    elim (cases_eq x l.head) [
      | inl e ↦ (let r = raised_here ds l.head (min 65536 (at ds l.tail + l.weight - 131072)) inside x e in let z : v x ≡ v l.head = ap v e in omega arith)
      | inr ne ↦ (let r = raised_other ds l.head (min 65536 (at ds l.tail + l.weight - 131072)) inside x ne in omega arith)
    ]

-- and so below every potential
pub raised_under :
    (links : List Link) (ds : List ℕ) (l : Link) → Fair (length ds) l → Contains links l → Under links (length ds - 1) ds
    → Under links (length ds - 1) (set ds l.head (min 65536 (at ds l.tail + l.weight - 131072)))
raised_under links ds l fair has under v p x h =
    raised_below ds l v fair.head (All-contains (Keeps v) links l p.kept has) (under v p l.tail (omega (arith, fair.tail))) x (under v p x h)

module _ (n : ℕ) (links : List Link) (v : ℕ → ℕ) (p : Potential n links v) (fair : All (Fair (n + 1)) links) where
  module _ (done : ℕ → Bool) (m i : ℕ) (ds : List ℕ) (q : Settling n links v done m i ds) (h : i < length links) where
    pub settling_kept : Keeps (at ds) (get_or links i no_link) → Settling n links v done m (i + 1) ds
    settling_kept k =
        record {
          base = q.base;
          least = q.least;
          passed = below_more (λ j. (get_or links j no_link).tail ≡ m → Keeps (at ds) (get_or links j no_link)) i q.passed (λ _. k);
        }

    -- the link at i is not kept, and raises the bound at its head
    module _ (l : Link) (is : get_or links i no_link ≡ l) (fair-l : Fair (n + 1) l) (kept-l : Keeps v l) (short : at ds l.head + 131072 < at ds l.tail + l.weight) where
      after : List ℕ
      after = set ds l.head (min 65536 (at ds l.tail + l.weight - 131072))

      inside : l.head < length ds
      inside = omega (arith, q.base.size, fair-l.head)

      -- the ceiling is not felt: the new bound is no more than the potential
      here : (x : ℕ) → x ≡ l.head → at after x + 131072 ≡ at ds l.tail + l.weight
      unfolding after
      here x e =
          let a = q.base.below l.tail (omega (arith, fair-l.tail)) in
          let b = ceiling n links v p l.head (omega (arith, fair-l.head)) in
          let r = raised_here ds l.head (min 65536 (at ds l.tail + l.weight - 131072)) inside x e in
          omega (arith, kept-l, short)

      other : (x : ℕ) → (x ≡ l.head → ⊥) → at after x ≡ at ds x
      unfolding after
      other x ne = raised_other ds l.head (min 65536 (at ds l.tail + l.weight - 131072)) inside x ne

      grown : (x : ℕ) → at ds x ≤ at after x
      grown x =
          elim (cases_eq x l.head) [
            | inl e ↦ (let r = here x e in let y : at ds x ≡ at ds l.head = ap (at ds) e in omega arith)
            | inr ne ↦ (let r = other x ne in omega arith)
          ]

      -- the head's gap is larger than the tail's
      strict : v l.tail + at ds l.head < v l.head + at ds l.tail
      strict = omega (arith, kept-l, short)

      tail_out : done l.tail ≡ false
      tail_out =
          elim (cases_Bool (done l.tail)) [
            | inl e ↦ (let k : Keeps (at ds) l = subst (λ (z : Link). Keeps (at ds) z) is (q.base.settled i h (subst (λ (z : Link). done z.tail ≡ true) (sym is) e)) in absurd (omega arith))
            | inr e ↦ e
          ]

      head_out : done l.head ≡ false
      head_out =
          elim (cases_Bool (done l.head)) [
            | inl e ↦ (let k = q.base.inner l.head l.tail (omega (arith, fair-l.head)) (omega (arith, fair-l.tail)) e tail_out in absurd (omega (arith, strict)))
            | inr e ↦ e
          ]

      least_tail : v m + at ds l.tail ≤ v l.tail + at ds m
      least_tail = q.least l.tail (omega (arith, fair-l.tail)) tail_out

      head_not_m : m ≡ l.head → ⊥
      head_not_m e = let k : v l.head + at ds l.tail ≤ v l.tail + at ds l.head = subst (λ (z : ℕ). v z + at ds l.tail ≤ v l.tail + at ds z) e least_tail in omega (arith, strict)

      -- a link out of an unchanged spot stays kept
      still : (k : Link) → (k.tail ≡ l.head → ⊥) → Keeps (at ds) k → Keeps (at after) k
      still k ne y = let a = other k.tail ne in let b = grown k.head in omega (arith, y)

      apart_from : (x : ℕ) → done x ≡ true → x ≡ l.head → ⊥
      apart_from x t e = both_ways (done x) (ap done e ∙ head_out) t

      below_after : (x : ℕ) → x ≤ n → at after x ≤ v x
      unfolding after
      below_after x y = raised_below ds l v inside kept-l (q.base.below l.tail (omega (arith, fair-l.tail))) x (q.base.below x y)

      -- a gap is no smaller than that at a spot that is unchanged and no larger than the tail's
      wide : (x : ℕ) → (x ≡ l.head → ⊥) → v x + at ds l.tail ≤ v l.tail + at ds x → (y : ℕ) → v x + at ds y ≤ v y + at ds x → v x + at after y ≤ v y + at after x
      wide x ne a y b =
          let o = other x ne in
          elim (cases_eq y l.head) [
            | inl e ↦ (let r = here y e in let z : v y ≡ v l.head = ap v e in omega (arith, kept-l))
            | inr ny ↦ (let r = other y ny in omega arith)
          ]

      passed_after : (k : ℕ) → k < i + 1 → (get_or links k no_link).tail ≡ m → Keeps (at after) (get_or links k no_link)
      passed_after =
          below_more (λ j. (get_or links j no_link).tail ≡ m → Keeps (at after) (get_or links j no_link)) i
          (λ k less e. still (get_or links k no_link) (λ t. head_not_m (sym e ∙ t)) (q.passed k less e))
          (λ e. subst (λ (z : Link). z.tail ≡ m → Keeps (at after) z) (sym is) (λ t. let a = other l.tail (λ u. head_not_m (sym t ∙ u)) in let b = here l.head refl in omega arith) e)

      size_after : length after ≡ n + 1
      unfolding after
      size_after = length-set ds l.head (min 65536 (at ds l.tail + l.weight - 131072)) ∙ q.base.size

      pub settling_raised : Settling n links v done m (i + 1) (set ds l.head (min 65536 (at ds l.tail + l.weight - 131072)))
      unfolding after
      settling_raised =
          record {
            base =
                record {
                  size = size_after;
                  below = below_after;
                  settled = λ k less t. still (get_or links k no_link) (apart_from (get_or links k no_link).tail t) (q.base.settled k less t);
                  inner = λ x y bx by dx dy. wide x (apart_from x dx) (q.base.inner x l.tail bx (omega (arith, fair-l.tail)) dx tail_out) y (q.base.inner x y bx by dx dy);
                };
            least = λ y by dy. wide m head_not_m least_tail y (q.least y by dy);
            passed = passed_after;
          }

-- the set with one spot more
abbrev pub with_spot : (ℕ → Bool) → ℕ → ℕ → Bool
with_spot done m x = eqb x m || done x

-- at the end of a round m is settled too
pub settled_more :
    (n : ℕ) (links : List Link) (v : ℕ → ℕ) (done : ℕ → Bool) (m : ℕ) (ds : List ℕ)
    → Settling n links v done m (length links) ds → Settled n links v (with_spot done m) ds
settled_more n links v done m ds q =
    record {
      size = q.base.size;
      below = q.base.below;
      settled = λ k h t.
          ⊎_elim (λ e. q.passed k h (eqb-true (get_or links k no_link).tail m e)) (q.base.settled k h) (or_cases (eqb (get_or links k no_link).tail m) (done (get_or links k no_link).tail) t);
      inner = λ x y hx hy dx dy.
          let out = (or_parts (eqb y m) (done y) dy).1 in
          ⊎_elim (λ e. subst (λ (z : ℕ). v z + at ds y ≤ v y + at ds z) (sym (eqb-true x m e)) (q.least y hy out)) (λ e. q.base.inner x y hx hy e out) (or_cases (eqb x m) (done x) dx);
    }
