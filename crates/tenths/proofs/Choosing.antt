-- Choices of values and potentials of the rows' links are the same thing, 32,768 apart.
use Rattle.std.proofs.Common.{◌≡◌, ℕ, ◌+◌, ◌<◌, ◌≤◌, Bool, true, cond, ◌&&◌, ◌||◌, eqb, ltb, ◌⊎◌, List, ◌++◌, length, get_or, take, drop, map, ℤ, pos, negsuc, ◌+ℤ◌, nat_abs, ◌≤ℤ◌, sym, refl, ap, ◌∙◌, subst, inl, inr, ⊎_elim, arith}
use lib.Signed.{le_z}
use Rattle.std.proofs.lemmas.List.Elements.{All-get_or, All-from_get_or, All-weaker}
use Rattle.std.proofs.lemmas.List.{get_or_past, get_or-map, get_or-take, length-map, length-take-le}
use Rattle.std.proofs.lemmas.Slice.Zip.{AllZip-long}
use Rattle.std.proofs.Math.Seq.{take-append_seam, drop-append_seam}
use Rattle.std.proofs.lemmas.Int.{ints}
use Rattle.std.proofs.lemmas.Bool.{and_parts, and_from, or_cases, or_left, or_right, cases_lt, eqb-true, eq-eqb, ltb-true}
use Rattle.std.specs.List.{All, AllZip}
use Rattle.domain.proofs.Failing.{no_row}
use Rattle.domain.specs.declared.predicate.Outcome.TheVariants.{Solved}
use Rattle.domain.specs.declared.predicate.Predicate.{Predicate}
use Rattle.domain.specs.declared.predicate.Row.{Row}
use Rattle.domain.specs.Meaning.{known, tested}
use Rattle.domain.specs.Solving.{Accepted, Chosen, Kept, names, fit}
use Rattle.tenths.specs.declared.links.Link.{Link}
use Rattle.tenths.specs.Differences.{at, Keeps, Fair, Potential, Under}
use Rattle.tenths.specs.Relaxing.{no_link}
use Rattle.tenths.specs.Rows.{value, Placed, Stands, LowestChoice, Chooses}
use Rattle.tenths.specs.Tenths.{tenths, in_range, places, says}
use Rattle.tenths.specs.Forms.{known_parts, alone_says}
use Rattle.tenths.proofs.Linking.{stands_at}

-- the number that stands for a value
pub shifted : ℤ → ℕ
shifted z = nat_abs (z +ℤ pos 32768)

module _ (z : ℤ) (h : in_range z ≡ true) where
  bounds_of : (le_z (negsuc 32767) z ≡ true) × (le_z z (pos 32767) ≡ true)
  bounds_of = and_parts (le_z (negsuc 32767) z) (le_z z (pos 32767)) h

  value_shifted : value (shifted z) ≡ z
  unfolding shifted
  value_shifted = let b = bounds_of in grind (arith, ints)

  shifted_low : shifted z < 65536
  unfolding shifted
  shifted_low = let b = bounds_of in grind (arith, ints)

  at_least : (b : ℕ) → b ≤ shifted z → value b ≤ℤ z
  unfolding shifted
  at_least b less = let c = bounds_of in grind (arith, ints)

value_range : (b : ℕ) → b < 65536 → in_range (value b) ≡ true
value_range b h = and_from (le_z (negsuc 32767) (value b)) (le_z (value b) (pos 32767)) (grind (arith, ints)) (grind (arith, ints))

-- a known predicate of kind 0
zero_kind : (p : Predicate) → known tenths p ≡ true → eqb p.kind 0 ≡ true
zero_kind p h = (and_parts (eqb p.kind 0) (le_z (negsuc 65535) p.constant && le_z p.constant (pos 65536)) (known_parts p h).0).0

pub tested_says : (p : Predicate) (x y : ℤ) → tested tenths p x y ≡ true → says p.form p.constant x y ≡ true
tested_says p x y t =
    let within = tenths.within p.kind in
    let a = (and_parts (known tenths p) (within x && ((eqb (tenths.arity p) 1 || within y) && says p.form p.constant x y)) t).1 in
    let b = (and_parts (within x) ((eqb (tenths.arity p) 1 || within y) && says p.form p.constant x y) a).1 in
    (and_parts (eqb (tenths.arity p) 1 || within y) (says p.form p.constant x y) b).1

says_tested :
    (p : Predicate) (x y : ℤ) → known tenths p ≡ true → in_range x ≡ true → (tenths.arity p ≡ 1) ⊎ (in_range y ≡ true)
    → says p.form p.constant x y ≡ true → tested tenths p x y ≡ true
says_tested p x y k hx hy s =
    let within = tenths.within p.kind in
    let kind = zero_kind p k in
    let second : (eqb (tenths.arity p) 1 || within y) ≡ true =
    ⊎_elim (λ one. or_left (eqb (tenths.arity p) 1) (within y) (eq-eqb (tenths.arity p) 1 one)) (λ h. or_right (eqb (tenths.arity p) 1) (within y) (and_from (eqb p.kind 0) (in_range y) kind h)) hy in
    and_from (known tenths p) (within x && ((eqb (tenths.arity p) 1 || within y) && says p.form p.constant x y)) k
    (and_from (within x) ((eqb (tenths.arity p) 1 || within y) && says p.form p.constant x y) (and_from (eqb p.kind 0) (in_range x) kind hx)
    (and_from (eqb (tenths.arity p) 1 || within y) (says p.form p.constant x y) second s))

named_below : (kinds : List ℕ) (k i : ℕ) → names kinds k i ≡ true → i < length kinds
named_below kinds k i h = ltb-true i (length kinds) (and_parts (ltb i (length kinds)) (eqb (get_or kinds i 0) k) h).0

fit_placed : (kinds : List ℕ) (row : Row) → fit tenths kinds row ≡ true → Placed (length kinds) row
fit_placed kinds row f =
    let k = row.predicate.kind in
    let one = eqb (tenths.arity row.predicate) 1 in
    let a = and_parts (known tenths row.predicate) (names kinds k row.first && (one || names kinds k row.second)) f in
    let b = and_parts (names kinds k row.first) (one || names kinds k row.second) a.1 in
    record {
      known = a.0;
      first = named_below kinds k row.first b.0;
      second = ⊎_elim (λ e. inl (eqb-true (tenths.arity row.predicate) 1 e)) (λ e. inr (named_below kinds k row.second e)) (or_cases one (names kinds k row.second) b.1);
    }

-- what stands in front and behind once the values of these bounds are written
written_front :
    (bounds : List ℕ) (before after : List ℤ) (n : ℕ) → length bounds ≡ n → after ≡ map value bounds ++ drop (length bounds) before
    → (take n after ≡ map value bounds) × (drop n after ≡ drop n before)
written_front bounds before after n size e =
    let rest = drop (length bounds) before in
    let long : n ≡ length (map value bounds) = sym (length-map bounds value ∙ size) in (
      ap (take n) e ∙ (ap (λ m. take m (map value bounds ++ rest)) long ∙ take-append_seam (map value bounds) rest),
      ap (drop n) e ∙ (ap (λ m. drop m (map value bounds ++ rest)) long ∙ (drop-append_seam (map value bounds) rest ∙ ap (λ m. drop m before) size)),
    )

module _ (kinds : List ℕ) (rows : List Row) (room : ℕ) (accepted : Accepted tenths kinds rows room) where
  pub all_placed : All (Placed (length kinds)) rows
  all_placed = All-weaker (λ r. fit tenths kinds r ≡ true) (Placed (length kinds)) (fit_placed kinds) rows accepted.fit_rows

  module _ (links : List Link) (each_row : AllZip (Stands (length kinds)) rows links) where
    size : length links ≡ length rows
    size = AllZip-long (Stands (length kinds)) rows links each_row

    stands : (k : ℕ) → k < length rows → Stands (length kinds) (get_or rows k no_row) (get_or links k no_link)
    stands k h = stands_at (length kinds) rows links each_row k no_row no_link h

    pub all_fair : All (Fair (length kinds + 1)) links
    all_fair = All-from_get_or (Fair (length kinds + 1)) links no_link (λ k h. (stands k (omega (arith, size))).fair)

    module _ (vs : List ℤ) (ch : Chosen tenths kinds rows vs) where
      -- past the variables the list reads as 0, so every read is in range
      everywhere : (x : ℕ) → in_range (get_or vs x (pos 0)) ≡ true
      everywhere x =
          elim (cases_lt x (length kinds)) [
            | inl h ↦ (and_parts (eqb (get_or kinds x 0) 0) (in_range (get_or vs x (pos 0))) (ch.of_kind x h)).1
            | inr h ↦ (let past : get_or vs x (pos 0) ≡ pos 0 = get_or_past vs x (pos 0) (omega (arith, ch.one_each)) in subst (λ (z : ℤ). in_range z ≡ true) (sym past) refl)
          ]

      same : (x : ℕ) → value (shifted (get_or vs x (pos 0))) ≡ get_or vs x (pos 0)
      same x = value_shifted (get_or vs x (pos 0)) (everywhere x)

      zero_shifted : shifted (get_or vs (length kinds) (pos 0)) ≡ 32768
      unfolding shifted
      zero_shifted = ap shifted (get_or_past vs (length kinds) (pos 0) (omega (arith, ch.one_each)))

      link_kept : (k : ℕ) → k < length links → Keeps (λ x. shifted (get_or vs x (pos 0))) (get_or links k no_link)
      link_kept k h =
          let row = get_or rows k no_row in
          let f = row.predicate.form in
          let c = row.predicate.constant in
          let x = get_or vs row.first (pos 0) in
          let y = get_or vs row.second (pos 0) in
          let t = tested_says row.predicate x y (All-get_or (Kept tenths vs) rows k no_row (omega (arith, size)) ch.kept) in
          ((stands k (omega (arith, size))).means (λ n. shifted (get_or vs n (pos 0))) zero_shifted).0
          (ap (λ (z : ℤ). says f c z (value (shifted y))) (same row.first) ∙ (ap (λ (z : ℤ). says f c x z) (same row.second) ∙ t))

      pub choice_potential : Potential (length kinds) links (λ x. shifted (get_or vs x (pos 0)))
      choice_potential =
          record {
            zero = zero_shifted;
            ranged = λ x h. shifted_low (get_or vs x (pos 0)) (everywhere x);
            kept = All-from_get_or (Keeps (λ x. shifted (get_or vs x (pos 0)))) links no_link link_kept;
          }

    -- the values that the first bounds stand for
    module _ (ds : List ℕ) (spots : length ds ≡ length kinds + 1) where
      abbrev first_values : List ℤ
      first_values = map value (take (length kinds) ds)

      each : length first_values ≡ length kinds
      each = length-map (take (length kinds) ds) value ∙ length-take-le (length kinds) ds (omega arith)

      written : (x : ℕ) → x < length kinds → get_or first_values x (pos 0) ≡ value (at ds x)
      written x h =
          get_or-map value (take (length kinds) ds) x 0 (pos 0) (omega (arith, length-take-le (length kinds) ds (omega arith)))
          ∙ ap value (get_or-take (length kinds) ds x 0 h)

      lowest_choice : Under links (length kinds) ds → LowestChoice kinds rows first_values
      lowest_choice under us ch x h =
          subst (λ (z : ℤ). z ≤ℤ get_or us x (pos 0)) (sym (written x h))
          (at_least (get_or us x (pos 0)) (everywhere us ch x) (at ds x) (under (λ n. shifted (get_or us n (pos 0))) (choice_potential us ch) x (omega arith)))

      module _ (p : Potential (length kinds) links (at ds)) where
        pub first_low : All (λ b. b < 65536) (take (length kinds) ds)
        first_low = All-from_get_or (λ b. b < 65536) (take (length kinds) ds) 0 (λ x h. let less : x < length kinds = omega (arith, length-take-le (length kinds) ds (omega arith)) in rw (get_or-take (length kinds) ds x 0 less) (p.ranged x less))

        ranged_at : (x : ℕ) → x < length kinds → in_range (get_or first_values x (pos 0)) ≡ true
        ranged_at x h = subst (λ (z : ℤ). in_range z ≡ true) (sym (written x h)) (value_range (at ds x) (p.ranged x h))

        row_kept : (k : ℕ) → k < length rows → Kept tenths first_values (get_or rows k no_row)
        row_kept k h =
            let row = get_or rows k no_row in
            let f = row.predicate.form in
            let c = row.predicate.constant in
            let x = get_or first_values row.first (pos 0) in
            let y = get_or first_values row.second (pos 0) in
            let placed = All-get_or (Placed (length kinds)) rows k no_row h all_placed in
            let parts = known_parts row.predicate placed.known in
            let means : says f c (value (at ds row.first)) (value (at ds row.second)) ≡ true =
            ((stands k h).means (at ds) p.zero).1 (All-get_or (Keeps (at ds)) links k no_link (omega (arith, size)) p.kept) in
            let first : says f c x (value (at ds row.second)) ≡ true = subst (λ (z : ℤ). says f c z (value (at ds row.second)) ≡ true) (sym (written row.first placed.first)) means in
            ⊎_elim
            (λ one.
            says_tested row.predicate x y placed.known (ranged_at row.first placed.first) (inl one)
            (alone_says f parts.1 (subst (λ (b : Bool). cond b (places f) 0 ≡ 1) parts.0 one) c x y (value (at ds row.second)) ∙ first))
            (λ two.
            says_tested row.predicate x y placed.known (ranged_at row.first placed.first) (inr (ranged_at row.second two))
            (subst (λ (z : ℤ). says f c x z ≡ true) (sym (written row.second two)) first))
            placed.second

        chosen : Chosen tenths kinds rows first_values
        chosen =
            record {
              one_each = each;
              of_kind = λ x h. and_from (eqb (get_or kinds x 0) 0) (in_range (get_or first_values x (pos 0))) (All-get_or (λ k. eqb k 0 ≡ true) kinds x 0 h accepted.known_kinds) (ranged_at x h);
              kept = All-from_get_or (Kept tenths first_values) rows no_row row_kept;
            }

        -- written to the front of a buffer they are the lowest choice
        pub chooses : Under links (length kinds) ds → (before after : List ℤ) → after ≡ first_values ++ drop (length (take (length kinds) ds)) before → Chooses kinds rows before after Solved
        chooses under before after e =
            let parts = written_front (take (length kinds) ds) before after (length kinds) (length-take-le (length kinds) ds (omega arith)) e in
            (rw parts.0 chosen, rw parts.0 (lowest_choice under), parts.1)
