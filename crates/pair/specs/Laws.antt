-- A pair of lawful domains is lawful.
use Rattle.std.specs.Prelude.{◌≡◌, ℕ, ◌/◌, ◌%◌, ◌^◌, ◌<◌, Bool, true, false, cond, ◌==◌, nat_lt, refl}
use Rattle.std.proofs.Common.{⊎_elim, sym, ap, ◌∙◌, arith}
use Rattle.std.proofs.lemmas.Bool.{false≢true, cases_lt, le-ltb}
use Rattle.domain.specs.declared.predicate.Predicate.{Predicate}
use Rattle.domain.specs.Meaning.{Meaning, known, Complementary, Lawful}
use Rattle.pair.specs.Paired.{nothing, half, side, down, up, paired}

nothing_lawful : Lawful nothing
nothing_lawful =
    record {
      kinds = λ k h. absurd (false≢true h);
      values = λ k x h. absurd (false≢true h);
      owned = λ k x h. h;
      sampled = λ k h. h;
      topped = λ k x h. absurd (false≢true h);
      arities = λ p. omega arith;
      kinded = λ p h. absurd (false≢true h);
      alone = λ p x y z h. refl;
      complements = λ p h. absurd (false≢true h);
    }

module _ (l r : Meaning) (left : Lawful l) (right : Lawful r) where
  pub half_lawful : (s : ℕ) → Lawful (half l r s)
  half_lawful s = go (s == 0)
    where
      go : (b : Bool) → Lawful (cond b l r)
      go true = left
      go false = right

  side_lawful : (k : ℕ) → Lawful (side l r k)
  side_lawful k = go (nat_lt k (2 ^ 32))
    where
      go : (b : Bool) → Lawful (cond b (half l r (k % 2)) nothing)
      go true = half_lawful (k % 2)
      go false = nothing_lawful

  fits : (k : ℕ) → (side l r k).knows (k / 2) ≡ true → k < 2 ^ 32
  fits k h = ⊎_elim (λ lt. lt) (λ le. absurd (false≢true (rw (le-ltb k (2 ^ 32) le) at h))) (cases_lt k (2 ^ 32))

  module _ (p : Predicate) (h : known (paired l r) p ≡ true) where
    below : Complementary (side l r p.kind) (down p) ((side l r p.kind).complement (down p))
    below = (side_lawful p.kind).complements (down p) h

    -- a side's complement keeps its kind, so that moving it up and down again changes nothing
    there : down (up p.kind ((side l r p.kind).complement (down p))) ≡ (side l r p.kind).complement (down p)
    there = ap (λ (k : ℕ). record { kind = k; form = ((side l r p.kind).complement (down p)).form; constant = ((side l r p.kind).complement (down p)).constant }) (sym below.kind)

    complementary : Complementary (paired l r) p ((paired l r).complement p)
    complementary =
        record {
          arity = ap (side l r p.kind).arity there ∙ below.arity;
          kind = refl;
          back = ap (λ q. up p.kind ((side l r p.kind).complement q)) there ∙ ap (up p.kind) below.back;
          turned = λ x y hx hy. ap (λ q. (side l r p.kind).holds q x y) there ∙ below.turned x y hx hy;
        }

  pub pair_lawful : Lawful (paired l r)
  pair_lawful =
      record {
        kinds = fits;
        values = λ k. (side_lawful k).values (k / 2);
        owned = λ k. (side_lawful k).owned (k / 2);
        sampled = λ k. (side_lawful k).sampled (k / 2);
        topped = λ k. (side_lawful k).topped (k / 2);
        arities = λ p. (side_lawful p.kind).arities (down p);
        kinded = λ p. (side_lawful p.kind).kinded (down p);
        alone = λ p. (side_lawful p.kind).alone (down p);
        complements = complementary;
      }
