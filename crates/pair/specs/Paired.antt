-- Two domains as one: the left side has the even kinds, the right side the odd ones.
use Rattle.std.specs.Prelude.{ℕ, ◌/◌, ◌%◌, ◌^◌, false, cond, pos, Ok, Err, Result, ◌==◌, nat_lt}
use Rattle.domain.specs.declared.predicate.Predicate.{Predicate}
use Rattle.domain.specs.declared.refusal.Refusal.{Refusal}
use Rattle.domain.specs.declared.refusal.Refusal.TheVariants.{Unknown}
use Rattle.domain.specs.Meaning.{Meaning}

-- a domain that knows nothing
abbrev pub nothing : Meaning
nothing =
    record {
      knows = λ _. false;
      within = λ _ _. false;
      sample = λ _. pos 0;
      top = λ _. pos 0;
      arity = λ _. 0;
      complement = λ p. p;
      holds = λ _ _ _. false;
    }

-- a side by its number: 0 is the left, and 1 the right
abbrev pub half : Meaning → Meaning → ℕ → Meaning
half l r s = cond (s == 0) l r

-- the side that has a kind of the pair; a kind beyond 32 bits is on neither
abbrev pub side : Meaning → Meaning → ℕ → Meaning
side l r k = cond (nat_lt k (2 ^ 32)) (half l r (k % 2)) nothing

-- a predicate of the pair as its side knows it
abbrev pub down : Predicate → Predicate
down p = record { kind = p.kind / 2; form = p.form; constant = p.constant }

-- a predicate of a side as the pair knows it, under a kind of the pair
abbrev pub up : ℕ → Predicate → Predicate
up k p = record { kind = k; form = p.form; constant = p.constant }

-- the pair: each kind k is as its side has the kind k / 2, and each predicate as its side has it
abbrev pub paired : Meaning → Meaning → Meaning
paired l r =
    record {
      knows = λ k. (side l r k).knows (k / 2);
      within = λ k x. (side l r k).within (k / 2) x;
      sample = λ k. (side l r k).sample (k / 2);
      top = λ k. (side l r k).top (k / 2);
      arity = λ p. (side l r p.kind).arity (down p);
      complement = λ p. up p.kind ((side l r p.kind).complement (down p));
      holds = λ p x y. (side l r p.kind).holds (down p) x y;
    }

-- what a side answers when asked for the complement of the pair's predicate p, as the pair answers it
abbrev pub lifted : Predicate → Result Predicate Refusal → Result Predicate Refusal
lifted p (Ok q) = Ok (up p.kind q)
lifted p (Err e) = Err (Unknown p)
