-- A completed cluster whose debts are paid has a plant: the cluster, and behind it the garden of the plants that pay.
use Rattle.std.proofs.Common.{◌≡◌, ℕ, ◌+◌, ◌-◌, ◌<◌, ◌≤◌, true, not, ◌||◌, ◌⊎◌, List, sym, refl, ap, ◌∙◌, inl, inr, arith}
use Rattle.std.proofs.lemmas.Bool.{and_from, or_left, or_right, eq-eqb, cases_lt}
use Rattle.domain.specs.Meaning.{Meaning}
use Rattle.concept.specs.Concepts.{Concept}
use Rattle.concept.specs.Concepts.Concept.{atom, neg, conj, disj, some, all, has, lacks, holds, meets, parts}
use Rattle.concept.specs.Plants.{Plant, Proper, leads_to, related, inside}
use Rattle.tableau.specs.Completion.{Claims, Claimed, Complete, Whole, Assembly, Payment}
use Rattle.tableau.proofs.Neighbours.{decides_some, decides_all, by_link, by_role, leads}
use Rattle.tableau.proofs.Embedding.{placed, Carries, defined_carried, holds_carried, meets_carried, parts_carried, embedded}
use Rattle.tableau.proofs.Beside.{split, split_first, split_second, split_behind, beside, beside_closed, beside_typed, first_carried, first_pairs, second_embedded}
use Rattle.tableau.proofs.Garden.{Garden, garden}

module _ (m : Meaning) (kinds : List ℕ) (a : Plant) (k : Claims) (proper : Proper m kinds a) (complete : Complete m a k) (g : Garden m kinds k k.cells) where
  abbrev whole : Plant
  whole = beside a g.plant g.fresh

  carried : Carries a whole (λ x. x)
  carried = first_carried a g.plant g.fresh

  behind : (c : Concept) (t : ℕ) → t < g.plant.count → inside m whole c (a.count + t) ≡ inside m g.plant c t
  behind = embedded m g.plant whole (λ x. a.count + x) g.closed (second_embedded a g.plant g.fresh)

  linked_same : (f x : ℕ) → x < a.count → whole.linked f x ≡ a.linked f x
  linked_same f x h = split_first a.count (a.linked f) (λ x. placed (λ y. a.count + y) (g.plant.linked f x)) x h

  -- from the cluster's things a role leads to its neighbours in the cluster, and to the fresh ones
  role_pairs : (r x y : ℕ) → 256 ≤ r → x < a.count → related whole r x y ≡ split a.count (a.joined r x) (g.fresh r x) y
  role_pairs r x y f h = by_role whole r x y f ∙ first_pairs a g.plant g.fresh r x y h

  neighbour :
      (r x y : ℕ) → x < a.count → related whole r x y ≡ true
      → ((y < a.count) × (related a r x y ≡ true)) ⊎ ((a.count ≤ y) × (g.fresh r x (y - a.count) ≡ true))
  neighbour r x y h s = go (cases_lt r 256) (cases_lt y a.count)
    where
      go : (r < 256) ⊎ (256 ≤ r) → (y < a.count) ⊎ (a.count ≤ y)
          → ((y < a.count) × (related a r x y ≡ true)) ⊎ ((a.count ≤ y) × (g.fresh r x (y - a.count) ≡ true))
      go (inl f) near =
          let t : leads_to (a.linked r x) y ≡ true = ap (λ o. leads_to o y) (sym (linked_same r x h)) ∙ (sym (by_link whole r x y f) ∙ s) in
          inl (proper.links r x y (leads (a.linked r x) y t), by_link a r x y f ∙ t)
      go (inr f) (inl near) =
          let t = sym (split_first a.count (a.joined r x) (g.fresh r x) y near) ∙ (sym (role_pairs r x y f h) ∙ s) in
          inl (near, by_role a r x y f ∙ t)
      go (inr f) (inr far) =
          inr (far, sym (split_second a.count (a.joined r x) (g.fresh r x) y far) ∙ (sym (role_pairs r x y f h) ∙ s))

  -- every claim is true, by induction on its concept
  true_here : (c : Concept) (x : ℕ) → Claimed k c x → inside m whole c x ≡ true
  true_here (atom n) x q = carried.names n x (complete.things (atom n) x q) ∙ complete.done (atom n) x q
  true_here (neg c) x q =
      let d = complete.done (neg c) x q in
      ap (λ c. not (inside m whole c x)) d.1 ∙ ap not (carried.names d.0 x (complete.things (neg c) x q) ∙ d.2)
  true_here (conj c d) x q =
      let both = complete.done (conj c d) x q in
      and_from (inside m whole c x) (inside m whole d x) (true_here c x both.0) (true_here d x both.1)
  true_here (disj c d) x q = go (complete.done (disj c d) x q) (λ p. true_here c x p) (λ p. true_here d x p)
    where
      go : Claimed k c x ⊎ Claimed k d x → (Claimed k c x → inside m whole c x ≡ true) → (Claimed k d x → inside m whole d x ≡ true)
          → (inside m whole c x || inside m whole d x) ≡ true
      go (inl p) left right = or_left (inside m whole c x) (inside m whole d x) (left p)
      go (inr p) left right = or_right (inside m whole c x) (inside m whole d x) (right p)
  true_here (some r c) x q = go (cases_lt r 256) (λ y p. true_here c y p)
    where
      go : (r < 256) ⊎ (256 ≤ r) → ((y : ℕ) → Claimed k c y → inside m whole c y ≡ true) → inside m whole (some r c) x ≡ true
      go (inl f) here =
          let s = complete.done (some r c) x q f in
          let h : s.0 < a.count = proper.links r x s.0 s.1 in
          let n : s.0 < whole.count = omega arith in
          let t = linked_same r x (complete.things (some r c) x q) ∙ s.1 in
          let e = by_link whole r x s.0 f ∙ (ap (λ o. leads_to o s.0) t ∙ eq-eqb s.0 s.0 refl) in
          (decides_some m whole r c x).1 (s.0, n, (e, here s.0 s.2))
      go (inr f) here =
          let s = g.paid r c x f q q.present in
          let h = s.1 in
          let n : a.count + s.0 < whole.count = omega arith in
          let t = role_pairs r x (a.count + s.0) f (complete.things (some r c) x q) in
          let e = t ∙ (split_behind a.count (a.joined r x) (g.fresh r x) s.0 ∙ s.2) in
          (decides_some m whole r c x).1 (a.count + s.0, n, (e, behind c s.0 h ∙ s.3))
  true_here (all r c) x q =
      (decides_all m whole r c x).1 (λ y l s. go y l (neighbour r x y (complete.things (all r c) x q) s) (true_here c y))
    where
      go : (y : ℕ) → y < whole.count → ((y < a.count) × (related a r x y ≡ true)) ⊎ ((a.count ≤ y) × (g.fresh r x (y - a.count) ≡ true))
          → (Claimed k c y → inside m whole c y ≡ true) → inside m whole c y ≡ true
      go y l (inl s) here = here (complete.done (all r c) x q y s.0 s.1)
      go y l (inr s) here =
          let far = s.0 in
          let h : y - a.count < g.plant.count = omega arith in
          let w : y ≡ a.count + (y - a.count) = omega arith in
          ap (inside m whole c) w ∙ (behind c (y - a.count) h ∙ g.due r x (y - a.count) h s.1 c q)
  true_here (has f) x q =
      defined_carried m a whole (λ x. x) proper.links carried f x (complete.things (has f) x q) ∙ complete.done (has f) x q
  true_here (lacks f) x q =
      ap not (defined_carried m a whole (λ x. x) proper.links carried f x (complete.things (lacks f) x q)) ∙ complete.done (lacks f) x q
  true_here (holds p u v) x q =
      holds_carried m a whole (λ x. x) proper.links carried p u v x (complete.things (holds p u v) x q) ∙ complete.done (holds p u v) x q
  true_here (meets u v) x q =
      meets_carried m a whole (λ x. x) proper.links carried u v x (complete.things (meets u v) x q) ∙ complete.done (meets u v) x q
  true_here (parts u v) x q =
      parts_carried m a whole (λ x. x) proper.links carried u v x (complete.things (parts u v) x q) ∙ complete.done (parts u v) x q

  assembled : Whole m kinds a k
  assembled = record {
    plant = whole;
    proper = record {
      something = let h = proper.something in omega arith;
      objects = λ o. let h = proper.objects o in omega arith;
      links = beside_closed a g.plant g.fresh proper.links g.closed;
      values = beside_typed m kinds a g.plant g.fresh proper.values g.typed;
    };
    extends = record {
      things = omega arith;
      names = carried.names;
      links = linked_same;
      values = carried.values;
      pairs = λ r x y h l. first_pairs a g.plant g.fresh r x y h ∙ split_first a.count (a.joined r x) (g.fresh r x) y l;
      objects = λ o. refl;
    };
    claims = true_here;
  }

pub assembly : Assembly
assembly m kinds a k proper complete settled =
    assembled m kinds a k proper complete (garden m kinds k settled k.cells (omega arith))

pub payment : Payment
payment m kinds a k proper complete settled x h =
    let w = assembly m kinds a k proper complete settled in
    let t = w.extends.things in
    record {
      plant = w.plant;
      proper = w.proper;
      thing = x;
      present = omega arith;
      lies = λ c q. w.claims c x q;
    }
