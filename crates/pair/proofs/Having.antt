-- Which side has a kind.
use Rattle.std.proofs.Common.{◌≡◌, ℕ, ◌%◌, ◌^◌, ◌<◌, ap, ◌∙◌}
use Rattle.std.proofs.lemmas.Bool.{lt-ltb, cond-true}
use Rattle.domain.specs.Meaning.{Meaning}
use Rattle.pair.specs.Paired.{half, side}

-- the side of a kind that fits 32 bits, by its number
pub side_is : (l r : Meaning) (k s : ℕ) → k < 2 ^ 32 → k % 2 ≡ s → side l r k ≡ half l r s
side_is l r k s h e = cond-true _ _ _ (lt-ltb k (2 ^ 32) h) ∙ ap (half l r) e
