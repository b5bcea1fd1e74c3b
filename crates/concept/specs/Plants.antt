-- Plants, and which things lie in a concept.
use Rattle.std.specs.Prelude.{◌≡◌, ℕ, zero, suc, ◌-◌, ◌<◌, Bool, true, false, cond, not, ◌&&◌, ◌||◌, List, [], ◌∷◌, length, ℤ, is_some, Some, None, Option, ◌==◌, nat_eq, nat_lt}
use Rattle.domain.specs.declared.predicate.Predicate.{Predicate}
use Rattle.domain.specs.Meaning.{Meaning, tested}
use Rattle.concept.specs.Concepts.{Concept, kind_at, is_value}
use Rattle.concept.specs.Concepts.Concept.{atom, neg, conj, disj, some, all, has, lacks, holds, meets, parts}

-- A plant (a finite interpretation). Its things are the numbers below `count`.
pub record Plant : Type 0 where
  pub count : ℕ
  -- the things that have a name
  pub named : ℕ → ℕ → Bool
  -- the pairs of a role
  pub joined : ℕ → ℕ → ℕ → Bool
  -- where a link feature leads, if it is defined
  pub linked : ℕ → ℕ → Option ℕ
  -- the value of a value feature, if it is defined
  pub valued : ℕ → ℕ → Option ℤ
  -- the thing that an object stands for
  pub stands : ℕ → ℕ

-- a value feature has values of its kind; where no kinds are given it has none
abbrev pub typed : Meaning → List ℕ → ℕ → ℤ → Bool
typed m kinds g v = is_value g && (nat_lt (g - 128) (length kinds) && m.within (kind_at kinds g) v)

-- there is a thing, objects and links lead to things, and values are of their feature's kind
pub record Proper (m : Meaning) (kinds : List ℕ) (plant : Plant) : Type 0 where
  pub something : 0 < plant.count
  pub objects : (o : ℕ) → plant.stands o < plant.count
  pub links : (f x y : ℕ) → plant.linked f x ≡ Some y → y < plant.count
  pub values : (g x : ℕ) (v : ℤ) → plant.valued g x ≡ Some v → typed m kinds g v ≡ true

-- some number below n passes; every number below n passes
abbrev pub any_below : (ℕ → Bool) → ℕ → Bool
any_below test zero = false
any_below test (suc n) = test n || any_below test n

abbrev pub all_below : (ℕ → Bool) → ℕ → Bool
all_below test zero = true
all_below test (suc n) = test n && all_below test n

-- go on from where an option leads
abbrev pub onward : {A B : Type 0} → Option A → (A → Option B) → Option B
onward None next = None
onward (Some a) next = next a

-- where a chain of link features leads
abbrev pub walk : Plant → List ℕ → ℕ → Option ℕ
walk plant [] x = Some x
walk plant (f ∷ r) x = onward (plant.linked f x) (walk plant r)

-- the value at the end of a chain
abbrev pub reading : Plant → List ℕ → ℕ → Option ℤ
reading plant [] x = None
reading plant (g ∷ []) x = plant.valued g x
reading plant (f ∷ (g ∷ r)) x = onward (plant.linked f x) (reading plant (g ∷ r))

abbrev pub leads_to : Option ℕ → ℕ → Bool
leads_to None y = false
leads_to (Some z) y = z == y

-- y is a neighbour of x: where the link feature leads, or joined to x by the role
abbrev pub related : Plant → ℕ → ℕ → ℕ → Bool
related plant r x y = cond (nat_lt r 256) (leads_to (plant.linked r x) y) (plant.joined r x y)

abbrev pub defined : Plant → ℕ → ℕ → Bool
defined plant f x = cond (nat_lt f 128) (is_some (plant.linked f x)) (is_some (plant.valued f x))

-- a test of the one or two values that were read
abbrev pub of_one : (ℤ → Bool) → Option ℤ → Bool
of_one test None = false
of_one test (Some a) = test a

abbrev pub of_two : {A : Type 0} → (A → A → Bool) → Option A → Option A → Bool
of_two test None b = false
of_two test (Some a) None = false
of_two test (Some a) (Some b) = test a b

-- the predicate holds of what the chains lead to: one value at arity 1, two at arity 2
abbrev pub measured : Meaning → Predicate → Option ℤ → Option ℤ → Bool
measured m p a b = cond (m.arity p == 1) (of_one (λ x. tested m p x x) a) (of_two (tested m p) a b)

-- the thing x lies in the concept
abbrev pub inside : Meaning → Plant → Concept → ℕ → Bool
inside m plant (atom n) x = plant.named n x
inside m plant (neg c) x = not (inside m plant c x)
inside m plant (conj c d) x = inside m plant c x && inside m plant d x
inside m plant (disj c d) x = inside m plant c x || inside m plant d x
inside m plant (some r c) x = any_below (λ y. related plant r x y && inside m plant c y) plant.count
inside m plant (all r c) x = all_below (λ y. not (related plant r x y) || inside m plant c y) plant.count
inside m plant (has f) x = defined plant f x
inside m plant (lacks f) x = not (defined plant f x)
inside m plant (holds p u v) x = measured m p (reading plant u x) (reading plant v x)
inside m plant (meets u v) x = of_two nat_eq (walk plant u x) (walk plant v x)
inside m plant (parts u v) x = of_two (λ a b. not (a == b)) (walk plant u x) (walk plant v x)
