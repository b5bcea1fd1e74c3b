-- What each side is asked, and what its answer says of the pair.
use Rattle.std.proofs.Common.{◌≡◌, ℕ, ◌/◌, ◌%◌, ◌<◌, ◌≤◌, true, ◌||◌, eqb, ltb, ◌⊎◌, List, length, get_or, ℤ, pos, sym, ap, ◌∙◌, inl, inr, ⊎_elim, arith}
use Rattle.std.proofs.lemmas.Bool.{and_parts, and_from, or_cases, or_left, or_right, ltb-true, eqb-true, eq-eqb, cases_eq}
use Rattle.std.specs.List.{All}
use Rattle.domain.specs.declared.predicate.Predicate.{Predicate}
use Rattle.domain.specs.declared.predicate.Row.{Row}
use Rattle.domain.specs.Meaning.{Meaning, Lawful, known, tested}
use Rattle.domain.specs.Solving.{Kept, Chosen, names, fit, Accepted}
use Rattle.pair.specs.Paired.{half, side, down, paired}
use Rattle.pair.specs.Split.{on, row_on, moved, side_kinds, side_rows, Ranks}
use Rattle.pair.proofs.Dealing.{at_rank, below_rank, source_of, side_values, length_values, at_values, name_moved}
use Rattle.pair.proofs.Having.{side_is}
use Rattle.pair.specs.Laws.{half_lawful, pair_lawful}
use Rattle.pair.proofs.Sifting.{length_sifted, all_sifted, all_unsifted}

-- at arity 1 a test does not look at its second value
tested_alone : (m : Meaning) → Lawful m → (p : Predicate) (x y z : ℤ) → m.arity p ≡ 1 → tested m p x y ≡ tested m p x z
tested_alone m law p x y z e = rw (e, law.alone p x y z e)

module _ (l r : Meaning) (left : Lawful l) (right : Lawful r) where
  -- the values serve the variables and the rows of a side
  pub record Served (kinds : List ℕ) (rows : List Row) (s : ℕ) (vs : List ℤ) : Type 0 where
    pub of_kind : (i : ℕ) → i < length kinds → on s (get_or kinds i 0) ≡ true → (paired l r).within (get_or kinds i 0) (get_or vs i (pos 0)) ≡ true
    pub kept : All (λ row. row_on s row ≡ true → Kept (paired l r) vs row) rows

  -- a known kind of the pair is its side's
  known_side : (s k : ℕ) → on s k ≡ true → (paired l r).knows k ≡ true → side l r k ≡ half l r s
  known_side s k t h = side_is l r k s ((pair_lawful l r left right).kinds k h) (eqb-true _ _ t)

  module _ (kinds : List ℕ) (s : ℕ) (places : List ℕ) (ranks : Ranks s kinds places) where
    -- a row that fits the pair's variables
    module _ (row : Row) (fits : fit (paired l r) kinds row ≡ true) (t : row_on s row ≡ true) where
      abbrev p : Predicate
      p = row.predicate

      is_known : known (paired l r) p ≡ true
      is_known = (and_parts _ _ fits).0

      its_side : side l r p.kind ≡ half l r s
      its_side = known_side s p.kind t ((pair_lawful l r left right).kinded p is_known)

      named : (names kinds p.kind row.first ≡ true) × ((eqb ((side l r p.kind).arity (down p)) 1 || names kinds p.kind row.second) ≡ true)
      named = and_parts _ _ (and_parts _ _ fits).1

      second_named : ((half l r s).arity (down p) ≡ 1) ⊎ (names kinds p.kind row.second ≡ true)
      second_named =
          let either : (eqb ((side l r p.kind).arity (down p)) 1 || names kinds p.kind row.second) ≡ true = named.1 in
          ⊎_elim (λ one. inl (eqb-true _ _ one)) inr (or_cases (eqb ((half l r s).arity (down p)) 1) (names kinds p.kind row.second) (rw its_side at either))

      row_fits : fit (half l r s) (side_kinds s kinds) (moved places row) ≡ true
      row_fits =
          and_from _ _ (rw its_side at is_known)
          (and_from _ _ (name_moved s kinds places ranks p.kind row.first t named.0)
          (⊎_elim (λ one. or_left _ _ (eq-eqb _ _ one)) (λ two. or_right _ _ (name_moved s kinds places ranks p.kind row.second t two)) second_named))

      -- where a side's values agree with the pair's, so do the two tests of the row
      module _ (vs ws : List ℤ) (agree : (i : ℕ) → i < length kinds → on s (get_or kinds i 0) ≡ true → get_or vs i (pos 0) ≡ get_or ws (get_or places i 0) (pos 0)) where
        agree_named : (i : ℕ) → names kinds p.kind i ≡ true → get_or vs i (pos 0) ≡ get_or ws (get_or places i 0) (pos 0)
        agree_named i n =
            let parts = and_parts (ltb i (length kinds)) (eqb (get_or kinds i 0) p.kind) n in
            let e : get_or kinds i 0 ≡ p.kind = eqb-true _ _ parts.1 in
            agree i (ltb-true _ _ parts.0) (rw e t)

        same_test :
            tested (paired l r) p (get_or vs row.first (pos 0)) (get_or vs row.second (pos 0))
            ≡ tested (half l r s) (down p) (get_or ws (get_or places row.first 0) (pos 0)) (get_or ws (get_or places row.second 0) (pos 0))
        same_test =
            rw its_side
            (ap (λ (x : ℤ). tested (half l r s) (down p) x (get_or vs row.second (pos 0))) (agree_named row.first named.0)
            ∙ ⊎_elim
            (λ one. tested_alone (half l r s) (half_lawful l r left right s) (down p) (get_or ws (get_or places row.first 0) (pos 0)) (get_or vs row.second (pos 0)) (get_or ws (get_or places row.second 0) (pos 0)) one)
            (λ two. ap (λ (y : ℤ). tested (half l r s) (down p) (get_or ws (get_or places row.first 0) (pos 0)) y) (agree_named row.second two))
            second_named)

    module _ (rows : List Row) (room : ℕ) (ok : Accepted (paired l r) kinds rows room) where
      kind_known : (i : ℕ) → i < length kinds → (paired l r).knows (get_or kinds i 0) ≡ true
      kind_known i h = ok.known_kinds i 0 h

      pub side_accepted : Accepted (half l r s) (side_kinds s kinds) (side_rows s places rows) 512
      unfolding side_kinds side_rows
      side_accepted =
          let few_kinds : length (side_kinds s kinds) ≤ length kinds = length_sifted (λ (k : ℕ). k / 2) (on s) kinds in
          let few : length (side_rows s places rows) ≤ length rows = length_sifted (moved places) (row_on s) rows in
          record {
            few_rows = omega (arith, ok.few_rows);
            few_variables = omega (arith, ok.few_variables);
            known_kinds =
                all_sifted (λ (k : ℕ). k / 2) (on s) (λ k. (paired l r).knows k ≡ true) (λ k. (half l r s).knows k ≡ true)
                (λ k t h. let e = known_side s k t h in rw e at h) kinds ok.known_kinds;
            fit_rows =
                all_sifted (moved places) (row_on s) (λ row. fit (paired l r) kinds row ≡ true) (λ row. fit (half l r s) (side_kinds s kinds) row ≡ true)
                (λ row t h. row_fits row h t) rows ok.fit_rows;
            enough_room = omega (arith, ok.few_variables);
          }

      -- a choice for the pair is a choice for each side
      pub side_chosen :
          (vs : List ℤ) → Chosen (paired l r) kinds rows vs → Chosen (half l r s) (side_kinds s kinds) (side_rows s places rows) (side_values s kinds places ranks vs)
      unfolding side_rows
      side_chosen vs chosen =
          record {
            one_each = length_values s kinds places ranks vs;
            of_kind = λ j h. of_kind_at (source_of s kinds places ranks j h);
            kept =
                all_sifted (moved places) (row_on s) (λ row. (fit (paired l r) kinds row ≡ true) × Kept (paired l r) vs row)
                (Kept (half l r s) (side_values s kinds places ranks vs))
                (λ row t h. sym (same_test row h.0 t vs (side_values s kinds places ranks vs) (at_values s kinds places ranks vs)) ∙ h.1)
                rows (λ k d h. (ok.fit_rows k d h, chosen.kept k d h));
          }
        where
          of_kind_at : {j : ℕ} → (i : ℕ) × (i < length kinds) × (on s (get_or kinds i 0) ≡ true) × (get_or places i 0 ≡ j)
              → (half l r s).within (get_or (side_kinds s kinds) j 0) (get_or (side_values s kinds places ranks vs) j (pos 0)) ≡ true
          of_kind_at from =
              let i = from.0 in
              let its : side l r (get_or kinds i 0) ≡ half l r s = known_side s (get_or kinds i 0) from.2 (kind_known i from.1) in
              let whole : (side l r (get_or kinds i 0)).within (get_or kinds i 0 / 2) (get_or vs i (pos 0)) ≡ true = chosen.of_kind i from.1 in
              rw (← from.3, at_rank s kinds places ranks i from.1 from.2, ← at_values s kinds places ranks vs i from.1 from.2, ← its) whole

      -- a choice for a side, put in its place, serves the pair's variables and rows of that side
      pub side_served :
          (vs ws : List ℤ) → Chosen (half l r s) (side_kinds s kinds) (side_rows s places rows) ws
          → ((i : ℕ) → i < length kinds → on s (get_or kinds i 0) ≡ true → get_or vs i (pos 0) ≡ get_or ws (get_or places i 0) (pos 0))
          → Served kinds rows s vs
      unfolding side_rows
      side_served vs ws chosen agree =
          record {
            of_kind = λ i h t.
                let its : side l r (get_or kinds i 0) ≡ half l r s = known_side s (get_or kinds i 0) t (kind_known i h) in
                let part : (half l r s).within (get_or (side_kinds s kinds) (get_or places i 0) 0) (get_or ws (get_or places i 0) (pos 0)) ≡ true = chosen.of_kind (get_or places i 0) (below_rank s kinds places ranks i h t) in
                rw (its, ← at_rank s kinds places ranks i h t, agree i h t) part;
            kept = λ k d h t.
                same_test (get_or rows k d) (ok.fit_rows k d h) t vs ws agree ∙ all_unsifted (moved places) (row_on s) (Kept (half l r s) ws) rows chosen.kept k d h t;
          }

  either_side : (k : ℕ) → (on 0 k ≡ true) ⊎ (on 1 k ≡ true)
  either_side k = ⊎_elim (λ e. inl (eq-eqb _ _ e)) (λ n. inr (eq-eqb _ _ (omega arith))) (cases_eq (k % 2) 0)

  -- what serves both sides is a choice for the pair
  pub pair_chosen : (kinds : List ℕ) (rows : List Row) (vs : List ℤ) → length vs ≡ length kinds → Served kinds rows 0 vs → Served kinds rows 1 vs → Chosen (paired l r) kinds rows vs
  pair_chosen kinds rows vs len even odd =
      record {
        one_each = len;
        of_kind = λ i h. ⊎_elim (even.of_kind i h) (odd.of_kind i h) (either_side (get_or kinds i 0));
        kept = λ k d h. ⊎_elim (even.kept k d h) (odd.kept k d h) (either_side (get_or rows k d).predicate.kind);
      }
