-- What one relaxation adds to a round, and what a round adds to the rounds before it.
use Rattle.std.proofs.Common.{◌≡◌, ℕ, ◌+◌, ◌-◌, ◌<◌, ◌≤◌, min, Bool, true, false, ◌||◌, List, length, get_or, set, sym, refl, ap, ◌∙◌, subst, inl, inr, arith, below_more}
use Rattle.std.proofs.lemmas.List.Elements.{All-get_or, All-from_get_or, All-set}
use Rattle.std.proofs.lemmas.List.{length-set}
use Rattle.std.proofs.lemmas.Bool.{cases_Bool, cases_lt, both_ways}
use Rattle.std.proofs.Math.Bool.{or-false, or-true}
use Rattle.std.specs.List.{All}
use Rattle.tenths.specs.declared.links.Link.{Link}
use Rattle.tenths.specs.Differences.{at, Keeps, Fair, Potential, Under}
use Rattle.tenths.specs.Relaxing.{no_link, Low, Relaxes, Settled, Settling, Sweep, Rounds}
use Rattle.tenths.proofs.Missing.{missing, missing_one, missing_less, missing_all, missing_some, Outside, smallest}
use Rattle.tenths.proofs.Settling.{settling_kept, settling_raised, settled_more, raised_grown, with_spot}

pub low_at : (ds : List ℕ) → Low ds → (x : ℕ) → x < length ds → at ds x ≤ 65536
low_at ds low x h = All-get_or (λ b. b ≤ 65536) ds x 0 h low

module _ (links : List Link) (before : List ℕ) where
  module _ (ds after : List ℕ) (i : ℕ) (raised : Bool) (w : Sweep links before ds i raised) (h : i < length links) (fair : All (Fair (length before)) links) where
    fair_i : Fair (length before) (get_or links i no_link)
    fair_i = All-get_or (Fair (length before)) links i no_link h fair

    fair_in : (n : ℕ) → length ds ≡ n + 1 → All (Fair (n + 1)) links
    fair_in n e = subst (λ (z : ℕ). All (Fair z) links) (sym w.size ∙ e) fair

    sweep_kept : Keeps (at ds) (get_or links i no_link) → Sweep links before ds (i + 1) raised
    sweep_kept k =
        record {
          low = w.low;
          size = w.size;
          grown = w.grown;
          calm = λ e.
              let c = w.calm e in
              (c.0, below_more (λ j. Keeps (at before) (get_or links j no_link)) i c.1 (subst (λ (z : List ℕ). Keeps (at z) (get_or links i no_link)) c.0 k));
          quiet = w.quiet;
          settles = λ n v done m p q. let r = w.settles n v done m p q in settling_kept n links v p (fair_in n r.base.size) done m i ds r h k;
        }

    sweep_raised :
        at ds (get_or links i no_link).head + 131072 < at ds (get_or links i no_link).tail + (get_or links i no_link).weight
        → Sweep links before (set ds (get_or links i no_link).head (min 65536 (at ds (get_or links i no_link).tail + (get_or links i no_link).weight - 131072))) (i + 1) true
    sweep_raised short =
        let inside : (get_or links i no_link).head < length ds = omega (arith, w.size, fair_i.head) in
        let lowest = low_at ds w.low (get_or links i no_link).head inside in
        record {
          low = All-set (λ b. b ≤ 65536) ds (get_or links i no_link).head (min 65536 (at ds (get_or links i no_link).tail + (get_or links i no_link).weight - 131072)) (omega arith) w.low;
          size = length-set ds (get_or links i no_link).head (min 65536 (at ds (get_or links i no_link).tail + (get_or links i no_link).weight - 131072)) ∙ w.size;
          grown = λ x. let a = w.grown x in let b = raised_grown ds (get_or links i no_link).head (min 65536 (at ds (get_or links i no_link).tail + (get_or links i no_link).weight - 131072)) inside (omega arith) x in omega arith;
          calm = λ e. absurd (both_ways true e refl);
          quiet = λ all.
              let c = w.calm (w.quiet all) in
              let k : Keeps (at ds) (get_or links i no_link) = subst (λ (z : List ℕ). Keeps (at z) (get_or links i no_link)) (sym c.0) (All-get_or (Keeps (at before)) links i no_link h all) in
              absurd (omega arith);
          settles = λ n v done m p q.
              let r = w.settles n v done m p q in
              let fairs = fair_in n r.base.size in
              settling_raised n links v p fairs done m i ds r h (get_or links i no_link) refl (All-get_or (Fair (n + 1)) links i no_link h fairs) (All-get_or (Keeps v) links i no_link h p.kept) short;
        }

    -- the next link, relaxed
    pub sweep_more : (r : Bool) → Relaxes ds (get_or links i no_link) after r → Sweep links before after (i + 1) (raised || r)
    sweep_more false e = rw (or-false raised, e.1) (sweep_kept e.0)
    sweep_more true e = rw (or-true raised, e.1) (sweep_raised e.0)

-- after j rounds that raised something: a set is settled, and at most all but j spots are missing from it
pub record Progress (n : ℕ) (links : List Link) (v : ℕ → ℕ) (ds : List ℕ) (j : ℕ) : Type 0 where
  pub done : ℕ → Bool
  pub settled : Settled n links v done ds
  pub fewer : missing done (n + 1) + j ≤ n + 1
  pub some : 1 ≤ missing done (n + 1)

module _ (n : ℕ) (links : List Link) (v : ℕ → ℕ) (p : Potential n links v) (ds : List ℕ) where
  pub progress_none : length ds ≡ n + 1 → Under links n ds → Progress n links v ds 0
  progress_none size under =
      let all = missing_all (n + 1) in
      record {
        done = λ _. false;
        settled = record { size = size; below = under v p; settled = λ k h t. absurd (both_ways false refl t); inner = λ x y hx hy dx dy. absurd (both_ways false refl dx) };
        fewer = omega arith;
        some = omega arith;
      }

  module _ (fair : All (Fair (n + 1)) links) where
    -- with at most one spot missing every link is kept
    all_kept : (done : ℕ → Bool) → Settled n links v done ds → missing done (n + 1) ≤ 1 → All (Keeps (at ds)) links
    all_kept done s few = All-from_get_or (Keeps (at ds)) links no_link one
      where
        one : (k : ℕ) → k < length links → Keeps (at ds) (get_or links k no_link)
        one k h =
            let f : Fair (n + 1) (get_or links k no_link) = All-get_or (Fair (n + 1)) links k no_link h fair in
            let kept : Keeps v (get_or links k no_link) = All-get_or (Keeps v) links k no_link h p.kept in
            elim (cases_Bool (done (get_or links k no_link).tail)) [
              | inl t ↦ s.settled k h t
              | inr t ↦ elim (cases_Bool (done (get_or links k no_link).head)) [
                | inl u ↦ (let r = s.inner (get_or links k no_link).head (get_or links k no_link).tail (omega (arith, f.head)) (omega (arith, f.tail)) u t in omega arith)
                | inr u ↦ (let same = missing_one done (n + 1) few (get_or links k no_link).tail (get_or links k no_link).head f.tail f.head t u in let a = ap (at ds) same in let b = ap v same in omega arith)
              ]
            ]

    module _ (j : ℕ) (g : Progress n links v ds j) (after : List ℕ) (w : Sweep links ds after (length links) true) where
      -- a round that raised something had two spots missing
      two : 2 ≤ missing g.done (n + 1)
      two =
          elim (cases_lt 1 (missing g.done (n + 1))) [
            | inl more ↦ omega arith
            | inr few ↦ absurd (both_ways true (w.quiet (all_kept g.done g.settled few)) refl)
          ]

      outside : Outside v (at ds) g.done (n + 1)
      outside = elim (smallest v (at ds) g.done (n + 1)) [ inl all ↦ absurd (omega (arith, two, missing_some v (at ds) g.done (n + 1) all)) | inr o ↦ o ]

      pub progress_more : Progress n links v after (j + 1)
      progress_more =
          let o = outside in
          let less = missing_less g.done o.spot (n + 1) o.within o.out in
          let start : Settling n links v g.done o.spot 0 ds =
          record { base = g.settled; least = λ y h dy. o.least y (omega arith) dy; passed = λ k h. absurd (omega arith) } in
          record {
            done = with_spot g.done o.spot;
            settled = settled_more n links v g.done o.spot after (w.settles n v g.done o.spot p start);
            fewer = omega (arith, g.fewer);
            some = omega (arith, two);
          }

-- j rounds from the bounds `before`, each of which raised something
pub record Turns (links : List Link) (before ds : List ℕ) (j : ℕ) : Type 0 where
  pub size : length ds ≡ length before
  pub grown : (x : ℕ) → at before x ≤ at ds x
  pub progress : (v : ℕ → ℕ) → Potential (length before - 1) links v → Progress (length before - 1) links v ds j

module _ (links : List Link) (before : List ℕ) (some : 0 < length before) where
  pub turns_none : Under links (length before - 1) before → Turns links before before 0
  turns_none under =
      record { size = refl; grown = λ x. omega arith; progress = λ v p. progress_none (length before - 1) links v p before (omega arith) under }

  module _ (ds after : List ℕ) (j : ℕ) (t : Turns links before ds j) where
    pub turns_more : All (Fair (length before)) links → (r : Bool) → r ≡ true → Sweep links ds after (length links) r → Turns links before after (j + 1)
    turns_more fair r e w =
        let one : length before ≡ length before - 1 + 1 = omega arith in
        let fairs : All (Fair (length before - 1 + 1)) links = subst (λ (z : ℕ). All (Fair z) links) one fair in
        let raised : Sweep links ds after (length links) true = subst (λ (z : Bool). Sweep links ds after (length links) z) e w in
        record {
          size = w.size ∙ t.size;
          grown = λ x. let a = t.grown x in let b = w.grown x in omega arith;
          progress = λ v p. progress_more (length before - 1) links v p ds fairs j (t.progress v p) after raised;
        }

    -- a round that raised nothing ends them
    pub turns_calm : (r : Bool) → r ≡ false → Sweep links ds after (length links) r → Rounds (length before - 1) links before after true
    turns_calm r e w =
        let c = w.calm e in
        subst (λ (z : List ℕ). Rounds (length before - 1) links before z true) (sym c.0)
        (All-from_get_or (Keeps (at ds)) links no_link c.1, (λ v p x h. (t.progress v p).settled.below x h), t.grown)

    -- and so many rounds are too many for a potential
    pub turns_out : length before ≤ j → Rounds (length before - 1) links before ds false
    turns_out all v p = let g = t.progress v p in omega (arith, g.fewer, g.some)
