-- A completed cluster has a plant.
--
-- A completion engine builds a cluster: a plant whose things are the objects and what features reach from them. Its cells claim
-- that a thing lies in a concept. Closed under the rules, the cluster itself shows every claim but those of some over a role. Each
-- of these is a debt: a fresh neighbour, found in a plant of its own, pays it. All these plants together make one plant in which
-- every claim is true.
use Rattle.std.specs.Prelude.{◌≡◌, ℕ, ◌<◌, ◌≤◌, Bool, true, false, ◌⊎◌, List, Some}
use Rattle.domain.specs.Meaning.{Meaning}
use Rattle.concept.specs.Concepts.{Concept}
use Rattle.concept.specs.Concepts.Concept.{atom, neg, conj, disj, some, all, has, lacks, holds, meets, parts}
use Rattle.concept.specs.Plants.{Plant, Proper, related, inside}

-- The cells are the numbers below `cells`. An active cell claims that its thing lies in its concept.
pub record Claims : Type 0 where
  pub cells : ℕ
  pub active : ℕ → Bool
  pub concept : ℕ → Concept
  pub thing : ℕ → ℕ

-- some active cell claims that x lies in c
pub record Claimed (k : Claims) (c : Concept) (x : ℕ) : Type 0 where
  pub cell : ℕ
  pub present : cell < k.cells
  pub active : k.active cell ≡ true
  pub concept : k.concept cell ≡ c
  pub thing : k.thing cell ≡ x

-- The rules have nothing left to do for the claim that x lies in the concept: its parts are claimed where it needs them, and
-- what has no parts is true in the cluster. Negation stands before names only. Some over a role (256 and above) is left open.
abbrev pub Done : Meaning → Plant → Claims → Concept → ℕ → Type 0
Done m a k (atom n) x = inside m a (atom n) x ≡ true
Done m a k (neg c) x = (n : ℕ) × (c ≡ atom n) × (inside m a (atom n) x ≡ false)
Done m a k (conj c d) x = Claimed k c x × Claimed k d x
Done m a k (disj c d) x = Claimed k c x ⊎ Claimed k d x
Done m a k (some r c) x = r < 256 → (y : ℕ) × (a.linked r x ≡ Some y) × Claimed k c y
Done m a k (all r c) x = (y : ℕ) → y < a.count → related a r x y ≡ true → Claimed k c y
Done m a k (has f) x = inside m a (has f) x ≡ true
Done m a k (lacks f) x = inside m a (lacks f) x ≡ true
Done m a k (holds p u v) x = inside m a (holds p u v) x ≡ true
Done m a k (meets u v) x = inside m a (meets u v) x ≡ true
Done m a k (parts u v) x = inside m a (parts u v) x ≡ true

-- every claim is of a thing of the cluster, and done
pub record Complete (m : Meaning) (a : Plant) (k : Claims) : Type 0 where
  pub things : (c : Concept) (x : ℕ) → Claimed k c x → x < a.count
  pub done : (c : Concept) (x : ℕ) → Claimed k c x → Done m a k c x

-- a set of concepts is possible: some thing of some proper plant lies in all of them
pub record Possible (m : Meaning) (kinds : List ℕ) (set : Concept → Type 0) : Type 0 where
  pub plant : Plant
  pub proper : Proper m kinds plant
  pub thing : ℕ
  pub present : thing < plant.count
  pub lies : (c : Concept) → set c → inside m plant c thing ≡ true

-- what a fresh neighbour of x by the role r has to lie in to pay for c: in c, and in whatever all neighbours of x by r are
-- claimed to lie in
abbrev pub Due : Claims → ℕ → Concept → ℕ → Concept → Type 0
Due k r c x d = (d ≡ c) ⊎ Claimed k (all r d) x

-- every claim of some over a role can be paid for
abbrev pub Settled : Meaning → List ℕ → Claims → Type 0
Settled m kinds k = (r : ℕ) (c : Concept) (x : ℕ) → 256 ≤ r → Claimed k (some r c) x → Possible m kinds (Due k r c x)

-- w has the things of a, and they have in w the names, links, values and pairs that they have in a; objects stand for the same
pub record Extends (a w : Plant) : Type 0 where
  pub things : a.count ≤ w.count
  pub names : (n x : ℕ) → x < a.count → w.named n x ≡ a.named n x
  pub links : (f x : ℕ) → x < a.count → w.linked f x ≡ a.linked f x
  pub values : (g x : ℕ) → x < a.count → w.valued g x ≡ a.valued g x
  pub pairs : (r x y : ℕ) → x < a.count → y < a.count → w.joined r x y ≡ a.joined r x y
  pub objects : (o : ℕ) → w.stands o ≡ a.stands o

-- a proper plant that extends the cluster and in which every claim is true
pub record Whole (m : Meaning) (kinds : List ℕ) (a : Plant) (k : Claims) : Type 0 where
  pub plant : Plant
  pub proper : Proper m kinds plant
  pub extends : Extends a plant
  pub claims : (c : Concept) (x : ℕ) → Claimed k c x → inside m plant c x ≡ true

-- a completed cluster with its debts paid has a plant
abbrev pub Assembly : Type 0
Assembly =
    (m : Meaning) (kinds : List ℕ) (a : Plant) (k : Claims) → Proper m kinds a → Complete m a k → Settled m kinds k → Whole m kinds a k

-- so all that is claimed of one of its things is possible: such a cluster pays for the debts of another
abbrev pub Payment : Type 0
Payment =
    (m : Meaning) (kinds : List ℕ) (a : Plant) (k : Claims) → Proper m kinds a → Complete m a k → Settled m kinds k
    → (x : ℕ) → x < a.count → Possible m kinds (λ c. Claimed k c x)
