-- A pair follows its rule, and the worked examples.
use Rattle.std.proofs.Common.{◌≡◌, ℕ, ◌+◌, ◌*◌, ◌/◌, ◌%◌, ◌^◌, ◌<◌, refl, arith}
use Rattle.std.proofs.lemmas.Bool.{le-ltb}
use Rattle.domain.specs.Meaning.{Meaning}
use Rattle.pair.specs.Paired.{half, side, paired}
use Rattle.pair.specs.Rule.{Alike, Rule, Examples}
use Rattle.pair.proofs.Having.{side_is}

alike : (l r : Meaning) (k s j : ℕ) → k < 2 ^ 32 → k % 2 ≡ s → k / 2 ≡ j → Alike (paired l r) k (half l r s) j
alike l r k s j h e d =
    let its : side l r k ≡ half l r s = side_is l r k s h e in
    record {
      knows = rw (its, d);
      within = λ x. rw (its, d);
      sample = rw (its, d);
      top = rw (its, d);
      arity = λ f c. rw (its, d);
      complement = λ f c. rw (its, d);
      holds = λ f c x y. rw (its, d);
    }

pub rule : (l r : Meaning) → Rule l r
rule l r =
    record {
      even = λ k h. alike l r (2 * k) 0 k (omega arith) (omega arith) (omega arith);
      odd = λ k h. alike l r (2 * k + 1) 1 k (omega arith) (omega arith) (omega arith);
      beyond = λ k h. rw (le-ltb k (2 ^ 32) h);
    }

pub examples : (l r s : Meaning) → Examples l r s
examples l r s =
    record {
      first_left = alike l r 0 0 0 (omega arith) refl refl;
      first_right = alike l r 1 1 0 (omega arith) refl refl;
      last_left = alike l r 4294967294 0 2147483647 (omega arith) refl refl;
      last_right = alike l r 4294967295 1 2147483647 (omega arith) refl refl;
      one_too_many = refl;
      nested_left =
          record {
            knows = refl;
            within = λ x. refl;
            sample = refl;
            top = refl;
            arity = λ f c. refl;
            complement = λ f c. refl;
            holds = λ f c x y. refl;
          };
      nested_right =
          record {
            knows = refl;
            within = λ x. refl;
            sample = refl;
            top = refl;
            arity = λ f c. refl;
            complement = λ f c. refl;
            holds = λ f c x y. refl;
          };
      nested_beside = alike (paired l r) s 1 1 0 (omega arith) refl refl;
    }
