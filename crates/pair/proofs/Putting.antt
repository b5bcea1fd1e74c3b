-- A loop that puts a side's values back, one variable after another.
use Rattle.std.proofs.Common.{◌≡◌, ℕ, ◌+◌, ◌<◌, true, false, ◌≢◌, List, length, get_or, set, ℤ, pos, sym, ◌∙◌, arith, below_more}
use Rattle.std.proofs.lemmas.List.{get_or-set_same, get_or-set_other}
use Rattle.std.proofs.lemmas.Bool.{false≢true}
use Rattle.pair.specs.Split.{on, PutBack}
use Rattle.pair.proofs.Rests.{same_here, same_after, same_after_set}

module _ (s : ℕ) (kinds places : List ℕ) (found before after : List ℤ) (i : ℕ) (so_far : PutBack s kinds places found before i after) where
  pub put_more :
      (v : ℤ) → i < length after → on s (get_or kinds i 0) ≡ true → v ≡ get_or found (get_or places i 0) (pos 0)
      → PutBack s kinds places found before (i + 1) (set after i v)
  put_more v h t e =
      record {
        put =
            below_more _ _
            (λ k lt u. let ne : k ≢ i = omega arith in rw get_or-set_other (so_far.put k lt u))
            (λ u. get_or-set_same after i v (pos 0) h ∙ e);
        kept =
            below_more _ _
            (λ k lt u. let ne : k ≢ i = omega arith in rw get_or-set_other (so_far.kept k lt u))
            (λ u. absurd (false≢true (sym u ∙ t)));
        rest = same_after_set after before i so_far.rest v;
      }

  pub put_skip : on s (get_or kinds i 0) ≡ false → PutBack s kinds places found before (i + 1) after
  put_skip t =
      record {
        put = below_more _ _ so_far.put (λ u. absurd (false≢true (sym t ∙ u)));
        kept = below_more _ _ so_far.kept (λ u. same_here after before i so_far.rest (pos 0));
        rest = same_after after before i so_far.rest;
      }
