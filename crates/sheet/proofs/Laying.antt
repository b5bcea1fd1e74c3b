-- Statements laid down one after the other: one more, a front of them, and the same ones over another forest.
use Rattle.std.proofs.Common.{◌≡◌, ℕ, zero, suc, ◌+◌, ◌<◌, ◌≤◌, true, ◌&&◌, eqb, List, [], ◌∷◌, ◌++◌, map, take, sum_by, refl, ap, ◌∙◌, ap₂, arith}
use Rattle.std.proofs.lemmas.List.Sums.{sum_by-cons, sum_by-take-le}
use Rattle.std.proofs.lemmas.Bool.{and_parts, and_from, eqb-true}
use Rattle.concept.specs.Concepts.{Concept}
use Rattle.concept.specs.Forests.{tree_at}
use Rattle.sheet.specs.declared.statement.Stored.{Stored}
use Rattle.sheet.specs.declared.statement.Stored.TheVariants.{Apart, Concept as Stated, Link, Compare}
use Rattle.sheet.specs.Layout.{shown, weighs, length_after, laid_one, laid, total_length}
use Rattle.sheet.specs.Statements.Statement.{states}
use Rattle.sheet.specs.Totals.{weight_of}

-- the nodes that a stored statement adds to the forest
abbrev pub stored_nodes : Stored → ℕ
stored_nodes s = (weight_of s).nodes

after_weight : (n : ℕ) (s : Stored) → length_after n s ≡ n + stored_nodes s
after_weight n (Apart o q) = omega arith
after_weight n (Stated o root w) = refl
after_weight n (Link o r q) = omega arith
after_weight n (Compare p a b) = omega arith

pub total_sum : (n : ℕ) (ss : List Stored) → total_length n ss ≡ n + sum_by stored_nodes ss
total_sum n [] = omega arith
total_sum n (s ∷ ss) = total_sum (length_after n s) ss ∙ omega (arith, after_weight n s, sum_by-cons stored_nodes s ss)

pub total_push : (n : ℕ) (ss : List Stored) (s : Stored) → total_length n (ss ++ (s ∷ [])) ≡ length_after (total_length n ss) s
total_push n [] s = refl
total_push n (x ∷ xs) s = total_push (length_after n x) xs s

pub total_take : (k n : ℕ) (ss : List Stored) → total_length n (take k ss) ≤ total_length n ss
total_take k n ss = omega (arith, total_sum n ss, total_sum n (take k ss), sum_by-take-le stored_nodes ss k)

module _ (ts : List Concept) where
  pub laid_push : (n : ℕ) (ss : List Stored) (s : Stored) → laid ts n ss ≡ true → laid_one ts (total_length n ss) s ≡ true → laid ts n (ss ++ (s ∷ [])) ≡ true
  laid_push n [] s h one = and_from (laid_one ts n s) true one refl
  laid_push n (x ∷ xs) s h one =
      let p = and_parts (laid_one ts n x) (laid ts (length_after n x) xs) h in
      and_from (laid_one ts n x) (laid ts (length_after n x) (xs ++ (s ∷ []))) p.0 (laid_push (length_after n x) xs s p.1 one)

  pub laid_take : (k n : ℕ) (ss : List Stored) → laid ts n ss ≡ true → laid ts n (take k ss) ≡ true
  laid_take zero n ss h = refl
  laid_take (suc k) n [] h = refl
  laid_take (suc k) n (x ∷ xs) h =
      let p = and_parts (laid_one ts n x) (laid ts (length_after n x) xs) h in
      and_from (laid_one ts n x) (laid ts (length_after n x) (take k xs)) p.0 (laid_take k (length_after n x) xs p.1)

-- two forests that agree on the places below top
module _ (ts us : List Concept) (top : ℕ) (same : (i : ℕ) → i < top → tree_at us i ≡ tree_at ts i) where
  laid_one_same : (n : ℕ) (s : Stored) → length_after n s ≤ top → laid_one ts n s ≡ true → laid_one us n s ≡ true
  laid_one_same n (Apart o q) h e = refl
  laid_one_same n (Stated o root w) h e =
      let p = and_parts (eqb (root + 1) (n + w.nodes)) (weighs (tree_at ts root) w) e in
      let lt : root < top = omega (arith, eqb-true (root + 1) (n + w.nodes) p.0) in
      ap (λ c. eqb (root + 1) (n + w.nodes) && weighs c w) (same root lt) ∙ e
  laid_one_same n (Link o r q) h e = refl
  laid_one_same n (Compare p a b) h e = refl

  shown_same : (n : ℕ) (s : Stored) → length_after n s ≤ top → laid_one ts n s ≡ true → shown us s ≡ shown ts s
  shown_same n (Apart o q) h e = refl
  shown_same n (Stated o root w) h e =
      let p = and_parts (eqb (root + 1) (n + w.nodes)) (weighs (tree_at ts root) w) e in
      let lt : root < top = omega (arith, eqb-true (root + 1) (n + w.nodes) p.0) in
      ap (states o) (same root lt)
  shown_same n (Link o r q) h e = refl
  shown_same n (Compare p a b) h e = refl

  pub laid_same : (n : ℕ) (ss : List Stored) → total_length n ss ≤ top → laid ts n ss ≡ true → laid us n ss ≡ true
  laid_same n [] h e = refl
  laid_same n (s ∷ ss) h e =
      let p = and_parts (laid_one ts n s) (laid ts (length_after n s) ss) e in
      let le : length_after n s ≤ top = omega (arith, total_sum (length_after n s) ss) in
      and_from (laid_one us n s) (laid us (length_after n s) ss) (laid_one_same n s le p.0) (laid_same (length_after n s) ss h p.1)

  pub map_same : (n : ℕ) (ss : List Stored) → total_length n ss ≤ top → laid ts n ss ≡ true → map (shown us) ss ≡ map (shown ts) ss
  map_same n [] h e = refl
  map_same n (s ∷ ss) h e =
      let p = and_parts (laid_one ts n s) (laid ts (length_after n s) ss) e in
      let le : length_after n s ≤ top = omega (arith, total_sum (length_after n s) ss) in
      ap₂ ◌∷◌ (shown_same n s le p.0) (map_same (length_after n s) ss h p.1)
