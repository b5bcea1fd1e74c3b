-- The garden: the plants that pay the debts of the first n cells, side by side, and which of their things pay.
use Rattle.std.proofs.Common.{◌≡◌, ℕ, zero, suc, ◌+◌, ◌-◌, ◌<◌, ◌≤◌, Bool, true, false, ◌&&◌, eqb, ◌⊎◌, List, None, sym, refl, ap, ◌∙◌, subst₂, inl, inr, arith}
use Rattle.std.proofs.lemmas.Bool.{and_parts, and_from, eqb-true, eq-eqb, cases_lt, cases_eq, cases_Bool, both_ways}
use Rattle.domain.specs.Meaning.{Meaning}
use Rattle.concept.specs.Concepts.{Concept}
use Rattle.concept.specs.Concepts.Concept.{atom, neg, conj, disj, some, all, has, lacks, holds, meets, parts}
use Rattle.concept.specs.Plants.{Plant, inside}
use Rattle.tableau.specs.Completion.{Claims, Claimed, Possible, Due, Settled}
use Rattle.tableau.proofs.Embedding.{Closed, embedded}
use Rattle.tableau.proofs.Beside.{split, split_first, split_second, split_behind, beside, none, beside_closed, Typed, beside_typed, first_embedded, second_embedded}

-- a thing of the plant that lies in c, where fresh r x t says that the thing t is to be a neighbour of x by the role r
abbrev pub Pays : Meaning → Plant → (ℕ → ℕ → ℕ → Bool) → ℕ → Concept → ℕ → Type 0
Pays m plant fresh r c x = (t : ℕ) × (t < plant.count) × (fresh r x t ≡ true) × (inside m plant c t ≡ true)

pub record Garden (m : Meaning) (kinds : List ℕ) (k : Claims) (n : ℕ) : Type 0 where
  pub plant : Plant
  pub closed : Closed plant
  pub typed : Typed m kinds plant
  pub fresh : ℕ → ℕ → ℕ → Bool
  -- a fresh neighbour lies in what all neighbours are claimed to lie in
  pub due : (r x t : ℕ) → t < plant.count → fresh r x t ≡ true → (d : Concept) → Claimed k (all r d) x → inside m plant d t ≡ true
  -- every debt has one that pays
  pub paid : (r : ℕ) (c : Concept) (x : ℕ) → 256 ≤ r → (q : Claimed k (some r c) x) → q.cell < n → Pays m plant fresh r c x

abbrev bare : Plant
bare = record {
  count = 0;
  named = λ n x. false;
  joined = λ r x y. false;
  linked = λ f x. None;
  valued = λ g x. None;
  stands = λ o. 0;
}

-- a concept is a some, or it is not
some_or_not : (c : Concept) → ((r : ℕ) × (d : Concept) × (c ≡ some r d)) ⊎ ((r : ℕ) (d : Concept) → c ≡ some r d → ⊥)
some_or_not (some r c) = inl (r, c, refl)
some_or_not (atom n) = inr (λ r d e. let z : ◌≡◌ {A = ℕ} 0 1 = cc in omega arith)
some_or_not (neg c) = inr (λ r d e. let z : ◌≡◌ {A = ℕ} 0 1 = cc in omega arith)
some_or_not (conj b c) = inr (λ r d e. let z : ◌≡◌ {A = ℕ} 0 1 = cc in omega arith)
some_or_not (disj b c) = inr (λ r d e. let z : ◌≡◌ {A = ℕ} 0 1 = cc in omega arith)
some_or_not (all q c) = inr (λ r d e. let z : ◌≡◌ {A = ℕ} 0 1 = cc in omega arith)
some_or_not (has f) = inr (λ r d e. let z : ◌≡◌ {A = ℕ} 0 1 = cc in omega arith)
some_or_not (lacks f) = inr (λ r d e. let z : ◌≡◌ {A = ℕ} 0 1 = cc in omega arith)
some_or_not (holds p u v) = inr (λ r d e. let z : ◌≡◌ {A = ℕ} 0 1 = cc in omega arith)
some_or_not (meets u v) = inr (λ r d e. let z : ◌≡◌ {A = ℕ} 0 1 = cc in omega arith)
some_or_not (parts u v) = inr (λ r d e. let z : ◌≡◌ {A = ℕ} 0 1 = cc in omega arith)

module _ (m : Meaning) (kinds : List ℕ) (k : Claims) where
  empty : Garden m kinds k 0
  empty = record {
    plant = bare;
    closed = λ f x y e. let z : ◌≡◌ {A = ℕ} 0 1 = cc in absurd (omega arith);
    typed = λ g x v e. let z : ◌≡◌ {A = ℕ} 0 1 = cc in absurd (omega arith);
    fresh = λ r x t. false;
    due = λ r x t h e d q. absurd (omega arith);
    paid = λ r c x b q h. absurd (omega arith);
  }

  -- the cell n has no debt
  rest : (n : ℕ) → Garden m kinds k n → ((r : ℕ) (c : Concept) → 256 ≤ r → k.active n ≡ true → k.concept n ≡ some r c → ⊥) → Garden m kinds k (suc n)
  rest n g clear = record {
    plant = g.plant;
    closed = g.closed;
    typed = g.typed;
    fresh = g.fresh;
    due = g.due;
    paid = λ r c x b q h. go r c x b q h (cases_eq q.cell n);
  }
    where
      go : (r : ℕ) (c : Concept) (x : ℕ) → 256 ≤ r → (q : Claimed k (some r c) x) → q.cell < suc n → (q.cell ≡ n) ⊎ (q.cell ≡ n → ⊥)
          → Pays m g.plant g.fresh r c x
      go r c x b q h (inl s) = absurd (clear r c b (ap k.active (sym s) ∙ q.active) (ap k.concept (sym s) ∙ q.concept))
      go r c x b q h (inr ne) = g.paid r c x b q (omega arith)

  -- the cell n has a debt, which is paid: the plant that pays stands before the garden
  module _ (n : ℕ) (g : Garden m kinds k n) (r : ℕ) (c : Concept) (is : k.concept n ≡ some r c) (pay : Possible m kinds (Due k r c (k.thing n))) where
    abbrev size : ℕ
    size = pay.plant.count

    abbrev both : Plant
    both = beside pay.plant g.plant none

    -- one more fresh neighbour, of the cell's thing by the role r
    abbrev next : ℕ → ℕ → ℕ → Bool
    next q x t = eqb q r && (eqb x (k.thing n) && eqb t pay.thing)

    abbrev chosen : ℕ → ℕ → ℕ → Bool
    chosen q x = split size (next q x) (g.fresh q x)

    front : (d : Concept) (x : ℕ) → x < size → inside m both d x ≡ inside m pay.plant d x
    front = embedded m pay.plant both (λ x. x) pay.proper.links (first_embedded pay.plant g.plant)

    behind : (d : Concept) (x : ℕ) → x < g.plant.count → inside m both d (size + x) ≡ inside m g.plant d x
    behind = embedded m g.plant both (λ x. size + x) g.closed (second_embedded pay.plant g.plant none)

    all_due : (q x t : ℕ) → t < both.count → chosen q x t ≡ true → (d : Concept) → Claimed k (all q d) x → inside m both d t ≡ true
    all_due q x t h s d claim = go (cases_lt t size)
      where
        go : (t < size) ⊎ (size ≤ t) → inside m both d t ≡ true
        go (inl l) =
            let e = and_parts (eqb q r) (eqb x (k.thing n) && eqb t pay.thing) (sym (split_first size (next q x) (g.fresh q x) t l) ∙ s) in
            let f = and_parts (eqb x (k.thing n)) (eqb t pay.thing) e.1 in
            let here = subst₂ (λ (q x : ℕ). Claimed k (all q d) x) (eqb-true q r e.0) (eqb-true x (k.thing n) f.0) claim in
            front d t l ∙ (ap (inside m pay.plant d) (eqb-true t pay.thing f.1) ∙ pay.lies d (inr here))
        go (inr l) =
            let u : t - size < g.plant.count = omega arith in
            let w : t ≡ size + (t - size) = omega arith in
            ap (inside m both d) w
            ∙ (behind d (t - size) u ∙ g.due q x (t - size) u (sym (split_second size (next q x) (g.fresh q x) t l) ∙ s) d claim)

    all_paid : (p : ℕ) (d : Concept) (x : ℕ) → 256 ≤ p → (q : Claimed k (some p d) x) → q.cell < suc n → Pays m both chosen p d x
    all_paid p d x b q h = go (cases_eq q.cell n)
      where
        go : (q.cell ≡ n) ⊎ (q.cell ≡ n → ⊥) → Pays m both chosen p d x
        go (inl s) =
            let same : some p d ≡ some r c = sym q.concept ∙ (ap k.concept s ∙ is) in
            let role : p ≡ r = cc in
            let part : d ≡ c = cc in
            let thing : x ≡ k.thing n = sym q.thing ∙ ap k.thing s in
            let l = pay.present in
            let this = and_from (eqb x (k.thing n)) _ (eq-eqb x (k.thing n) thing) (eq-eqb pay.thing pay.thing refl) in (
              pay.thing,
              omega arith,
              split_first size (next p x) (g.fresh p x) pay.thing l ∙ and_from (eqb p r) _ (eq-eqb p r role) this,
              front d pay.thing l ∙ pay.lies d (inl part),
            )
        go (inr ne) =
            let old = g.paid p d x b q (omega arith) in
            let l = old.1 in
            (size + old.0, omega arith, split_behind size (next p x) (g.fresh p x) old.0 ∙ old.2, behind d old.0 l ∙ old.3)

    more : Garden m kinds k (suc n)
    more = record {
      plant = both;
      closed = beside_closed pay.plant g.plant none pay.proper.links g.closed;
      typed = beside_typed m kinds pay.plant g.plant none pay.proper.values g.typed;
      fresh = chosen;
      due = all_due;
      paid = all_paid;
    }

  module _ (settled : Settled m kinds k) where
    step : (n : ℕ) → n < k.cells → Garden m kinds k n → Garden m kinds k (suc n)
    step n h g = go (cases_Bool (k.active n)) (some_or_not (k.concept n))
      where
        role : (r : ℕ) (c : Concept) → k.active n ≡ true → k.concept n ≡ some r c → (r < 256) ⊎ (256 ≤ r) → Garden m kinds k (suc n)
        role r c a e (inl l) =
            rest n g (λ q d b a s. let t : some r c ≡ some q d = sym e ∙ s in let same : r ≡ q = cc in omega arith)
        role r c a e (inr l) =
            more n g r c e (settled r c (k.thing n) l (record { cell = n; present = h; active = a; concept = e; thing = refl }))

        go : (k.active n ≡ true) ⊎ (k.active n ≡ false) → ((r : ℕ) × (c : Concept) × (k.concept n ≡ some r c)) ⊎ ((r : ℕ) (c : Concept) → k.concept n ≡ some r c → ⊥)
            → Garden m kinds k (suc n)
        go (inl a) (inl s) = role s.0 s.1 a s.2 (cases_lt s.0 256)
        go (inl a) (inr s) = rest n g (λ r c b a e. s r c e)
        go (inr a) s = rest n g (λ r c b t e. both_ways (k.active n) a t)

    pub garden : (n : ℕ) → n ≤ k.cells → Garden m kinds k n
    garden zero h = empty
    garden (suc n) h = step n h (garden n (omega arith))
