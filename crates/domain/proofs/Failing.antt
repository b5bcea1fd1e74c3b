-- No element fails a test exactly when every element passes it.
use Rattle.std.proofs.Common.{◌≡◌, ℕ, ◌<◌, ◌≤◌, Bool, not, List, [], ◌∷◌, length, pos, None, inl, inr, ◌⊎◌, Some, sym, refl, arith}
use Rattle.std.specs.List.{AllPass, position_or_len}
use Rattle.std.proofs.lemmas.Bool.{cases_lt, cond_below, cond_above, not-false, not_from_true}
use Rattle.std.proofs.lemmas.List.Sums.{fails_before_first, position_or_len_is}
use Rattle.domain.specs.declared.predicate.Row.{Row}
use Rattle.domain.specs.Solving.{first_failing}

-- a default for reads of a list of rows
abbrev pub no_row : Row
no_row = record { predicate = record { kind = 0; form = 0; constant = pos 0 }; first = 0; second = 0 }

module _ {A : Type 0} (test : A → Bool) where
  abbrev fails : A → Bool
  fails x = not (test x)

  pub all_pass : (xs : List A) → first_failing test xs ≡ None → AllPass test xs
  all_pass xs e k d h = not-false _ (fails_before_first fails xs k d (go (cases_lt (position_or_len fails xs) (length xs))))
    where
      go : (position_or_len fails xs < length xs) ⊎ (length xs ≤ position_or_len fails xs) → k < position_or_len fails xs
      go (inl inside) = let z : ◌≡◌ {A = ℕ} 0 1 = cc (cond_below (position_or_len fails xs) (length xs) (Some (position_or_len fails xs)) None inside, e) in absurd (omega arith)
      go (inr past) = omega arith

  pub none_fails : (xs : List A) → AllPass test xs → first_failing test xs ≡ None
  none_fails [] all = refl
  none_fails (x ∷ xs) all = sym (cond_above (position_or_len fails (x ∷ xs)) (length (x ∷ xs)) (Some (position_or_len fails (x ∷ xs))) None None (omega (arith, last)) refl)
    where
      last : position_or_len fails (x ∷ xs) ≡ length (x ∷ xs)
      last = position_or_len_is fails (x ∷ xs) (length (x ∷ xs)) x (omega arith) (λ k h. not_from_true _ (all k x h)) (λ h. absurd (omega arith))
