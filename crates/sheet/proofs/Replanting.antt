-- The forest cut back to a front of the statements, and grown by one more.
use Rattle.std.proofs.Common.{◌≡◌, ℕ, ◌+◌, ◌*◌, ◌<◌, ◌≤◌, true, eqb, List, [], ◌∷◌, ◌++◌, length, take, sym, ap, ◌∙◌, ap₂, mul-le-mul_left, arith}
use Rattle.std.proofs.lemmas.List.{length-take-le, map_push, take-map}
use Rattle.std.proofs.lemmas.Bool.{and_from, eq-eqb}
use Rattle.concept.specs.declared.count.Counts.{Counts}
use Rattle.concept.specs.declared.forest.Forest.{Forest}
use Rattle.concept.specs.Concepts.{Concept}
use Rattle.concept.specs.Concepts.Concept.{atom}
use Rattle.concept.specs.Counts.{counted}
use Rattle.concept.specs.Forests.{tree, trees, tree_at, Grown}
use Rattle.concept.specs.Held.{items}
use Rattle.concept.specs.Normal.{nodes, valued_nodes}
use Rattle.concept.proofs.Growing.{grow_below}
use Rattle.sheet.specs.declared.statement.Stored.{Stored}
use Rattle.sheet.specs.declared.statement.Stored.TheVariants.{Concept as Stated}
use Rattle.sheet.specs.declared.totals.Totals.{Totals}
use Rattle.sheet.specs.Layout.{shown, in_force, weighs, laid, total_length, sound}
use Rattle.sheet.specs.Statements.{Statement, n_of, v_of, k_of}
use Rattle.sheet.specs.Statements.Statement.{states}
use Rattle.sheet.specs.Totals.{totals_of, tally}
use Rattle.sheet.proofs.Bounding.{some_node, few_valued, counted_right, product_small}
use Rattle.sheet.proofs.Keeping.{sound_parts, sound_from, totals_right, tally_push, few_valued as few_asked, few_comparisons, few_others, all_nodes, few_stored}
use Rattle.sheet.proofs.Laying.{total_sum, total_push, total_take, laid_push, laid_take, laid_same, map_same}
use Rattle.sheet.proofs.Summing.{tally_nodes, front_valued, front_comparisons, front_others}

-- cut back to what the first k statements fill
module _ (f f' : Forest) (m : ℕ) (xs : List Stored) (k : ℕ) (e : sound f m xs ≡ true) (cut : items f' ≡ take (tally (take k xs)).nodes (items f)) where
  fill : total_length 0 (take k xs) ≡ (tally (take k xs)).nodes
  fill = omega (arith, total_sum 0 (take k xs), tally_nodes (take k xs))

  within : (tally (take k xs)).nodes ≤ length (items f)
  within = omega (arith, fill, total_take k 0 xs, (sound_parts f m xs e).filled)

  below : (i : ℕ) → i < (tally (take k xs)).nodes → tree_at (trees (items f')) i ≡ tree_at (trees (items f)) i
  below i lt = ap (λ l. tree_at (trees l) i) cut ∙ grow_below tree (items f) i (tally (take k xs)).nodes (atom 0) lt within

  front : laid (trees (items f)) 0 (take k xs) ≡ true
  front = laid_take (trees (items f)) k 0 xs (sound_parts f m xs e).planted

  pub cut_shown : in_force f' (take k xs) ≡ take k (in_force f xs)
  unfolding in_force
  cut_shown =
      map_same (trees (items f)) (trees (items f')) (tally (take k xs)).nodes below 0 (take k xs) (omega (arith, fill)) front
      ∙ sym (take-map (shown (trees (items f))) k xs)

  pub cut_sound : sound f' m (take k xs) ≡ true
  cut_sound =
      let h = sound_parts f m xs e in
      let less = mul-le-mul_left m (front_valued xs k) in
      sound_from f' m (take k xs)
      record {
        planted = laid_same (trees (items f)) (trees (items f')) (tally (take k xs)).nodes below 0 (take k xs) (omega (arith, fill)) front;
        filled = fill ∙ sym (ap length cut ∙ length-take-le (tally (take k xs)).nodes (items f) within);
        others = omega (arith, front_others xs k, h.others);
        values = omega (arith, front_comparisons xs k, less, h.values);
      }

-- the same, by the totals that were summed up over what is left
module _ (f f' : Forest) (m : ℕ) (xs left : List Stored) (k : ℕ) (t : Totals) (e : sound f m xs ≡ true) (front : left ≡ take k xs) (summed : t ≡ tally left)
    (cut : items f' ≡ take t.nodes (items f)) where
  cut_there : items f' ≡ take (tally (take k xs)).nodes (items f)
  cut_there = cut ∙ (ap (λ (a : Totals). take a.nodes (items f)) summed ∙ ap (λ l. take (tally l).nodes (items f)) front)

  pub dropped_shown : in_force f' left ≡ take k (in_force f xs)
  dropped_shown = ap (in_force f') front ∙ cut_shown f f' m xs k e cut_there

  pub dropped_sound : sound f' m left ≡ true
  dropped_sound = ap (sound f' m) front ∙ cut_sound f f' m xs k e cut_there

-- grown by the tree of one more
module _ (f f' : Forest) {root : ℕ} {c : Concept} (m : ℕ) (xs : List Stored) (o : ℕ) (w : Counts) (e : sound f m xs ≡ true) (g : Grown (items f) (items f') root c) where
  kept : (i : ℕ) → i < length (items f) → tree_at (trees (items f')) i ≡ tree_at (trees (items f)) i
  kept i lt =
      sym (grow_below tree (items f') i (length (items f)) (atom 0) lt (omega (arith, g.longer))) ∙ ap (λ l. tree_at (trees l) i) g.kept

  pub grown_shown : in_force f' (xs ++ (Stated o root w ∷ [])) ≡ in_force f xs ++ (states o c ∷ [])
  unfolding in_force
  grown_shown =
      map_push (shown (trees (items f'))) xs (Stated o root w)
      ∙ ap₂ (λ ss d. ss ++ (states o d ∷ []))
      (map_same (trees (items f)) (trees (items f')) (length (items f)) kept 0 xs (omega (arith, (sound_parts f m xs e).filled)) (sound_parts f m xs e).planted)
      g.stands

  pub grown_sound : w.nodes ≡ nodes c → weighs c w ≡ true → k_of (in_force f xs) + m * (v_of (in_force f xs) + w.valued) ≤ 256 → sound f' m (xs ++ (Stated o root w ∷ [])) ≡ true
  grown_sound long heavy values =
      let h = sound_parts f m xs e in
      let t = totals_right f m xs e in
      let more = tally_push xs (Stated o root w) in
      let v : (tally (xs ++ (Stated o root w ∷ []))).valued ≡ v_of (in_force f xs) + w.valued = omega (arith, ap (λ (a : Totals). a.valued) more, ap (λ (a : Totals). a.valued) t) in
      let k : (tally (xs ++ (Stated o root w ∷ []))).comparisons ≡ k_of (in_force f xs) = omega (arith, ap (λ (a : Totals). a.comparisons) more, ap (λ (a : Totals). a.comparisons) t) in
      let end : root + 1 ≡ total_length 0 xs + w.nodes = omega (arith, g.last, g.longer, h.filled) in
      sound_from f' m (xs ++ (Stated o root w ∷ []))
      record {
        planted =
            laid_push (trees (items f')) 0 xs (Stated o root w)
            (laid_same (trees (items f)) (trees (items f')) (length (items f)) kept 0 xs (omega (arith, h.filled)) h.planted)
            (and_from (eqb (root + 1) (total_length 0 xs + w.nodes)) (weighs (tree_at (trees (items f')) root) w) (eq-eqb _ _ end) (ap (λ d. weighs d w) g.stands ∙ heavy));
        filled = total_push 0 xs (Stated o root w) ∙ omega (arith, g.longer, h.filled);
        others = omega (arith, ap (λ (a : Totals). a.others) more, h.others);
        values = rw (v, k) values;
      }

-- room for one more concept, and what is asked for with it
module _ (f : Forest) (m : ℕ) (xs : List Stored) (c : Concept) (e : sound f m xs ≡ true) where
  pub all_in_force : n_of (in_force f xs) ≡ length (items f)
  all_in_force = ap (λ (a : Totals). a.nodes) (totals_right f m xs e) ∙ all_nodes f m xs e

  module _ (room : length (items f) + nodes c ≤ 256) where
    pub room_for_concept : length xs < 320
    room_for_concept = omega (arith, few_stored f m xs e, few_others f m xs e, some_node c)

    -- no sum that is formed runs over
    pub sums_small : (t : Totals) (w : Counts) → m ≤ 16 → t ≡ totals_of (in_force f xs) → w ≡ counted c
        → (t.valued + w.valued ≤ 512) × ((m * (t.valued + w.valued) ≤ 8192) × (t.comparisons ≤ 256))
    sums_small t w few is one =
        let same = is ∙ totals_right f m xs e in
        let right = counted_right c w one (omega arith) in
        let sum : t.valued + w.valued ≤ 512 =
        omega (arith, ap (λ (a : Totals). a.valued) same, few_asked f m xs e, right.1.0, few_valued c) in
        (sum, (product_small m (t.valued + w.valued) few sum, omega (arith, ap (λ (a : Totals). a.comparisons) same, few_comparisons f m xs e)))

pub values_are : (m : ℕ) (ss : List Statement) (t : Totals) (n : ℕ) → t ≡ totals_of ss → t.comparisons + m * (t.valued + n) ≡ k_of ss + m * (v_of ss + n)
values_are m ss t n is = ap (λ (a : Totals). a.comparisons + m * (a.valued + n)) is

pub values_with : (m : ℕ) (ss : List Statement) (c : Concept) (t : Totals) (n : ℕ) → t ≡ totals_of ss → n ≡ valued_nodes c
    → t.comparisons + m * (t.valued + n) ≡ k_of ss + m * (v_of ss + valued_nodes c)
values_with m ss c t n is one = values_are m ss t n is ∙ ap (λ k. k_of ss + m * (v_of ss + k)) one
