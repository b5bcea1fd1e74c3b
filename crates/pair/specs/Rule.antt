-- The rule of a pair, kind by kind, and worked examples of it.
use Rattle.std.specs.Prelude.{◌≡◌, ℕ, ◌+◌, ◌*◌, ◌^◌, ◌≤◌, false, ℤ}
use Rattle.domain.specs.declared.predicate.Predicate.{Predicate}
use Rattle.domain.specs.Meaning.{Meaning}
use Rattle.pair.specs.Paired.{up, paired}

-- a predicate by its kind, its form and its constant
abbrev pub predicate_of : ℕ → ℕ → ℤ → Predicate
predicate_of k form constant = record { kind = k; form = form; constant = constant }

-- the domain m has its kind k as the domain n has its kind j: the same values, sample and top, and the same predicates
pub record Alike (m : Meaning) (k : ℕ) (n : Meaning) (j : ℕ) : Type 0 where
  pub knows : m.knows k ≡ n.knows j
  pub within : (x : ℤ) → m.within k x ≡ n.within j x
  pub sample : m.sample k ≡ n.sample j
  pub top : m.top k ≡ n.top j
  pub arity : (f : ℕ) (c : ℤ) → m.arity (predicate_of k f c) ≡ n.arity (predicate_of j f c)
  pub complement : (f : ℕ) (c : ℤ) → m.complement (predicate_of k f c) ≡ up k (n.complement (predicate_of j f c))
  pub holds : (f : ℕ) (c x y : ℤ) → m.holds (predicate_of k f c) x y ≡ n.holds (predicate_of j f c) x y

-- kind 2k is kind k of the left, kind 2k + 1 is kind k of the right, and there are no others
pub record Rule (l r : Meaning) : Type 0 where
  pub even : (k : ℕ) → k ≤ 2147483647 → Alike (paired l r) (2 * k) l k
  pub odd : (k : ℕ) → k ≤ 2147483647 → Alike (paired l r) (2 * k + 1) r k
  pub beyond : (k : ℕ) → 2 ^ 32 ≤ k → (paired l r).knows k ≡ false

-- the first and the last kinds of a pair, and the first ones of a pair that holds a pair on its left
pub record Examples (l r s : Meaning) : Type 0 where
  pub first_left : Alike (paired l r) 0 l 0
  pub first_right : Alike (paired l r) 1 r 0
  pub last_left : Alike (paired l r) 4294967294 l 2147483647
  pub last_right : Alike (paired l r) 4294967295 r 2147483647
  pub one_too_many : (paired l r).knows 4294967296 ≡ false
  pub nested_left : Alike (paired (paired l r) s) 0 l 0
  pub nested_right : Alike (paired (paired l r) s) 2 r 0
  pub nested_beside : Alike (paired (paired l r) s) 1 s 0
