-- What a concrete domain means: its kinds, their values, and its predicates.
use Rattle.std.specs.Prelude.{◌≡◌, ℕ, ◌^◌, ◌<◌, ◌≤◌, Bool, true, false, not, ◌&&◌, ◌||◌, ℤ, ◌≤ℤ◌, Some, None, Ok, Err, Option, Result, FitsSigned, ◌==◌, nat_lt}
use Rattle.std.specs.Int.{w32}
use Rattle.domain.specs.declared.predicate.Predicate.{Predicate}
use Rattle.domain.specs.declared.predicate.Sample.{Sample}
use Rattle.domain.specs.declared.refusal.Refusal.{Refusal}
use Rattle.domain.specs.declared.refusal.Refusal.TheVariants.{Unknown}

pub record Meaning : Type 0 where
  -- the kinds that it knows
  pub knows : ℕ → Bool
  -- the values of a kind
  pub within : ℕ → ℤ → Bool
  -- one value of a known kind, and a bound on all of them
  pub sample : ℕ → ℤ
  pub top : ℕ → ℤ
  -- 1 or 2 for a known predicate, 0 for any other
  pub arity : Predicate → ℕ
  pub complement : Predicate → Predicate
  -- whether the predicate holds of a value (the second is then ignored), or of two in this order
  pub holds : Predicate → ℤ → ℤ → Bool

-- a predicate is known when it has an arity
abbrev pub known : Meaning → Predicate → Bool
known m p = nat_lt 0 (m.arity p)

-- a predicate and its complement: alike in all but that exactly one of them holds
pub record Complementary (m : Meaning) (p q : Predicate) : Type 0 where
  pub arity : m.arity q ≡ m.arity p
  pub kind : q.kind ≡ p.kind
  pub back : m.complement q ≡ p
  pub turned : (x y : ℤ) → m.within p.kind x ≡ true → m.within p.kind y ≡ true → m.holds q x y ≡ not (m.holds p x y)

-- what every domain owes
pub record Lawful (m : Meaning) : Type 0 where
  -- a kind is an unsigned number of 32 bits, and its values are signed numbers of 32 bits
  pub kinds : (k : ℕ) → m.knows k ≡ true → k < 2 ^ 32
  pub values : (k : ℕ) (x : ℤ) → m.within k x ≡ true → FitsSigned w32 x
  -- only a known kind has values; the sample is one of them, and none exceeds the top
  pub owned : (k : ℕ) (x : ℤ) → m.within k x ≡ true → m.knows k ≡ true
  pub sampled : (k : ℕ) → m.knows k ≡ true → m.within k (m.sample k) ≡ true
  pub topped : (k : ℕ) (x : ℤ) → m.within k x ≡ true → x ≤ℤ m.top k
  -- a known predicate has arity 1 or 2 and a known kind
  pub arities : (p : Predicate) → m.arity p ≤ 2
  pub kinded : (p : Predicate) → known m p ≡ true → m.knows p.kind ≡ true
  -- at arity 1 the second value does not matter
  pub alone : (p : Predicate) (x y z : ℤ) → m.arity p ≡ 1 → m.holds p x y ≡ m.holds p x z
  -- the law of complements
  pub complements : (p : Predicate) → known m p ≡ true → Complementary m p (m.complement p)

-- the predicate is known, the values are of its kind, and it holds of them; at arity 1 the second value is ignored
abbrev pub tested : Meaning → Predicate → ℤ → ℤ → Bool
tested m p x y = known m p && (m.within p.kind x && ((m.arity p == 1 || m.within p.kind y) && m.holds p x y))

abbrev pub when_known : {A : Type 0} → Bool → A → Option A
when_known true a = Some a
when_known false a = None

-- what is told of a kind: nothing of an unknown one
abbrev pub sample_of : Meaning → ℕ → Option Sample
sample_of m k = when_known (m.knows k) (record { value = m.sample k; top = m.top k })

abbrev pub known_or : {A : Type 0} → Bool → A → Refusal → Result A Refusal
known_or true a e = Ok a
known_or false a e = Err e

-- the complement of a known predicate, and refusal 16 for any other
abbrev pub complement_of : Meaning → Predicate → Result Predicate Refusal
complement_of m p = known_or (known m p) (m.complement p) (Unknown p)
