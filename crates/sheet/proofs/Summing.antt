-- The totals that are summed up from the stored counts are those of the statements.
use Rattle.std.proofs.Common.{◌≡◌, ℕ, ◌+◌, ◌<◌, ◌≤◌, max, true, ◌&&◌, eqb, List, [], ◌∷◌, map, length, get_or, take, fold, sum_by, sym, refl, ap, ◌∙◌, ap₂, subst, arith}
use Rattle.std.proofs.lemmas.List.Folds.{fold_along}
use Rattle.std.proofs.lemmas.List.Sums.{fold_more, sum_by-cons, sum_by-take-le}
use Rattle.std.proofs.lemmas.Bool.{and_parts, eqb-true}
use Rattle.concept.specs.declared.count.Counts.{Counts}
use Rattle.concept.specs.Concepts.{Concept}
use Rattle.concept.specs.Forests.{tree_at}
use Rattle.concept.specs.Normal.{nodes, valued_nodes, role_depth}
use Rattle.sheet.specs.declared.statement.Stored.{Stored}
use Rattle.sheet.specs.declared.statement.Stored.TheVariants.{Apart, Concept as Stated, Link, Compare}
use Rattle.sheet.specs.declared.totals.Totals.{Totals}
use Rattle.sheet.specs.Layout.{shown, weighs, length_after, laid_one, laid, total_length}
use Rattle.sheet.specs.Statements.{Statement, nodes_of, valued_of, comparisons_of, others_of, depth_of, n_of, v_of, k_of, x_of, r_of}
use Rattle.sheet.specs.Totals.{Small, nothing, weight_of, plus, tally}
use Rattle.sheet.proofs.Bounding.{some_node, few_valued}
use Rattle.sheet.proofs.Laying.{stored_nodes}

abbrev pub stored_valued : Stored → ℕ
stored_valued s = (weight_of s).valued

abbrev pub stored_comparisons : Stored → ℕ
stored_comparisons s = (weight_of s).comparisons

abbrev pub stored_others : Stored → ℕ
stored_others s = (weight_of s).others

abbrev pub stored_depth : Stored → ℕ
stored_depth s = (weight_of s).depth

abbrev step : Totals → Stored → Totals
step t s = plus t (weight_of s)

-- the totals part by part
module _ (ss : List Stored) where
  pub tally_nodes : (tally ss).nodes ≡ sum_by stored_nodes ss
  unfolding tally
  tally_nodes = fold_along step (λ a s. a + stored_nodes s) (λ (t : Totals) a. t.nodes ≡ a) (λ t a s e. ap (λ k. k + stored_nodes s) e) nothing 0 ss refl

  pub tally_valued : (tally ss).valued ≡ sum_by stored_valued ss
  unfolding tally
  tally_valued = fold_along step (λ a s. a + stored_valued s) (λ (t : Totals) a. t.valued ≡ a) (λ t a s e. ap (λ k. k + stored_valued s) e) nothing 0 ss refl

  pub tally_comparisons : (tally ss).comparisons ≡ sum_by stored_comparisons ss
  unfolding tally
  tally_comparisons =
      fold_along step (λ a s. a + stored_comparisons s) (λ (t : Totals) a. t.comparisons ≡ a) (λ t a s e. ap (λ k. k + stored_comparisons s) e) nothing 0 ss refl

  pub tally_others : (tally ss).others ≡ sum_by stored_others ss
  unfolding tally
  tally_others = fold_along step (λ a s. a + stored_others s) (λ (t : Totals) a. t.others ≡ a) (λ t a s e. ap (λ k. k + stored_others s) e) nothing 0 ss refl

  pub tally_depth : (tally ss).depth ≡ fold (λ a s. max a (stored_depth s)) 0 ss
  unfolding tally
  tally_depth = fold_along step (λ a s. max a (stored_depth s)) (λ (t : Totals) a. t.depth ≡ a) (λ t a s e. ap (λ k. max k (stored_depth s)) e) nothing 0 ss refl

  -- one statement more
  pub tally_more : (i : ℕ) (d : Stored) → i < length ss → tally (take (i + 1) ss) ≡ plus (tally (take i ss)) (weight_of (get_or ss i d))
  unfolding tally
  tally_more i d h = fold_more step nothing ss i d h

pub tally_none : tally [] ≡ nothing
unfolding tally
tally_none = refl

-- the totals of a front are no more
module _ (ss : List Stored) (i : ℕ) where
  pub front_nodes : (tally (take i ss)).nodes ≤ (tally ss).nodes
  front_nodes = omega (arith, tally_nodes ss, tally_nodes (take i ss), sum_by-take-le stored_nodes ss i)

  pub front_valued : (tally (take i ss)).valued ≤ (tally ss).valued
  front_valued = omega (arith, tally_valued ss, tally_valued (take i ss), sum_by-take-le stored_valued ss i)

  pub front_comparisons : (tally (take i ss)).comparisons ≤ (tally ss).comparisons
  front_comparisons = omega (arith, tally_comparisons ss, tally_comparisons (take i ss), sum_by-take-le stored_comparisons ss i)

  pub front_others : (tally (take i ss)).others ≤ (tally ss).others
  front_others = omega (arith, tally_others ss, tally_others (take i ss), sum_by-take-le stored_others ss i)

  pub front_small : Small (tally ss) → Small (tally (take i ss))
  front_small h =
      let nodes = h.0 in
      let valued = h.1.0 in
      let comparisons = h.1.1.0 in
      let others = h.1.1.1 in
      (omega (arith, front_nodes), (omega (arith, front_valued), (omega (arith, front_comparisons), omega (arith, front_others))))

-- adding up the totals of a list
module _ (ss : List Stored) (i : ℕ) {t w : Totals} (d : Stored) (lt : i < length ss) (e : t ≡ tally (take i ss)) (one : w ≡ weight_of (get_or ss i d)) where
  pub adds : plus t w ≡ tally (take (i + 1) ss)
  adds = ap₂ plus e one ∙ sym (tally_more ss i d lt)

  pub adds_small : Small (tally ss) → Small (plus t w)
  adds_small h = subst Small (sym adds) (front_small ss (i + 1) h)

-- over the forest
module _ (ts : List Concept) where
  pub one_right : (n o root : ℕ) (w : Counts) → laid_one ts n (Stated o root w) ≡ true
      → (root + 1 ≡ n + w.nodes) × ((nodes (tree_at ts root) ≡ w.nodes) × ((valued_nodes (tree_at ts root) ≡ w.valued) × (role_depth (tree_at ts root) ≡ w.depth)))
  one_right n o root w e =
      let c = tree_at ts root in
      let p = and_parts (eqb (root + 1) (n + w.nodes)) (weighs c w) e in
      let q = and_parts (eqb (nodes c) w.nodes) (eqb (valued_nodes c) w.valued && eqb (role_depth c) w.depth) p.1 in
      let r = and_parts (eqb (valued_nodes c) w.valued) (eqb (role_depth c) w.depth) q.1 in
      (eqb-true (root + 1) (n + w.nodes) p.0, (eqb-true (nodes c) w.nodes q.0, (eqb-true (valued_nodes c) w.valued r.0, eqb-true (role_depth c) w.depth r.1)))

  nodes_right : (n : ℕ) (s : Stored) → laid_one ts n s ≡ true → nodes_of (shown ts s) ≡ stored_nodes s
  nodes_right n (Apart o q) e = refl
  nodes_right n (Stated o root w) e = (one_right n o root w e).1.0
  nodes_right n (Link o r q) e = refl
  nodes_right n (Compare p a b) e = refl

  valued_right : (n : ℕ) (s : Stored) → laid_one ts n s ≡ true → valued_of (shown ts s) ≡ stored_valued s
  valued_right n (Apart o q) e = refl
  valued_right n (Stated o root w) e = (one_right n o root w e).1.1.0
  valued_right n (Link o r q) e = refl
  valued_right n (Compare p a b) e = refl

  comparisons_right : (n : ℕ) (s : Stored) → laid_one ts n s ≡ true → comparisons_of (shown ts s) ≡ stored_comparisons s
  comparisons_right n (Apart o q) e = refl
  comparisons_right n (Stated o root w) e = refl
  comparisons_right n (Link o r q) e = refl
  comparisons_right n (Compare p a b) e = refl

  others_right : (n : ℕ) (s : Stored) → laid_one ts n s ≡ true → others_of (shown ts s) ≡ stored_others s
  others_right n (Apart o q) e = refl
  others_right n (Stated o root w) e = refl
  others_right n (Link o r q) e = refl
  others_right n (Compare p a b) e = refl

  depth_right : (n : ℕ) (s : Stored) → laid_one ts n s ≡ true → depth_of (shown ts s) ≡ stored_depth s
  depth_right n (Apart o q) e = refl
  depth_right n (Stated o root w) e = (one_right n o root w e).1.1.1
  depth_right n (Link o r q) e = refl
  depth_right n (Compare p a b) e = refl

  module _ (h : ℕ → ℕ → ℕ) (f : Statement → ℕ) (g : Stored → ℕ) (right : (n : ℕ) (s : Stored) → laid_one ts n s ≡ true → f (shown ts s) ≡ g s) where
    folded_right : (n a : ℕ) (ss : List Stored) → laid ts n ss ≡ true → fold (λ b x. h b (f x)) a (map (shown ts) ss) ≡ fold (λ b s. h b (g s)) a ss
    folded_right n a [] e = refl
    folded_right n a (s ∷ ss) e =
        let p = and_parts (laid_one ts n s) (laid ts (length_after n s) ss) e in
        ap (λ v. fold (λ b x. h b (f x)) (h a v) (map (shown ts) ss)) (right n s p.0) ∙ folded_right (length_after n s) (h a (g s)) ss p.1

  module _ (ss : List Stored) (e : laid ts 0 ss ≡ true) where
    pub n_right : n_of (map (shown ts) ss) ≡ (tally ss).nodes
    n_right = folded_right ◌+◌ nodes_of stored_nodes nodes_right 0 0 ss e ∙ sym (tally_nodes ss)

    pub v_right : v_of (map (shown ts) ss) ≡ (tally ss).valued
    v_right = folded_right ◌+◌ valued_of stored_valued valued_right 0 0 ss e ∙ sym (tally_valued ss)

    pub k_right : k_of (map (shown ts) ss) ≡ (tally ss).comparisons
    k_right = folded_right ◌+◌ comparisons_of stored_comparisons comparisons_right 0 0 ss e ∙ sym (tally_comparisons ss)

    pub x_right : x_of (map (shown ts) ss) ≡ (tally ss).others
    x_right = folded_right ◌+◌ others_of stored_others others_right 0 0 ss e ∙ sym (tally_others ss)

    pub r_right : r_of (map (shown ts) ss) ≡ (tally ss).depth
    r_right = folded_right max depth_of stored_depth depth_right 0 0 ss e ∙ sym (tally_depth ss)

  -- as many statements as nodes and others, at most
  one_more : (n : ℕ) (s : Stored) → laid_one ts n s ≡ true → n + 1 ≤ length_after n s + stored_others s
  one_more n (Apart o q) e = omega arith
  one_more n (Stated o root w) e = omega (arith, one_right n o root w e, some_node (tree_at ts root))
  one_more n (Link o r q) e = omega arith
  one_more n (Compare p a b) e = omega arith

  pub few_statements : (n : ℕ) (ss : List Stored) → laid ts n ss ≡ true → n + length ss ≤ total_length n ss + sum_by stored_others ss
  few_statements n [] e = omega arith
  few_statements n (s ∷ ss) e =
      let p = and_parts (laid_one ts n s) (laid ts (length_after n s) ss) e in
      omega (arith, one_more n s p.0, few_statements (length_after n s) ss p.1, sum_by-cons stored_others s ss)

  one_valued : (n : ℕ) (s : Stored) → laid_one ts n s ≡ true → stored_valued s ≤ stored_nodes s
  one_valued n (Apart o q) e = omega arith
  one_valued n (Stated o root w) e = omega (arith, one_right n o root w e, few_valued (tree_at ts root))
  one_valued n (Link o r q) e = omega arith
  one_valued n (Compare p a b) e = omega arith

  pub sum_valued : (n : ℕ) (ss : List Stored) → laid ts n ss ≡ true → sum_by stored_valued ss ≤ sum_by stored_nodes ss
  sum_valued n [] e = omega arith
  sum_valued n (s ∷ ss) e =
      let p = and_parts (laid_one ts n s) (laid ts (length_after n s) ss) e in
      omega (arith, one_valued n s p.0, sum_valued (length_after n s) ss p.1, sum_by-cons stored_valued s ss, sum_by-cons stored_nodes s ss)
