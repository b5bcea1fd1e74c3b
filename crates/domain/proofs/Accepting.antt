-- No refusal applies exactly when the lists are in order.
use Rattle.std.proofs.Common.{◌≡◌, ℕ, Bool, true, false, ◌||◌, ltb, List, length, Some, None, Option, refl, arith}
use Rattle.std.proofs.lemmas.Bool.{ltb-false, le-ltb, or_parts, or_from}
use Rattle.domain.specs.declared.predicate.Row.{Row}
use Rattle.domain.specs.declared.refusal.Refusal.{Refusal}
use Rattle.domain.specs.declared.refusal.Refusal.TheVariants.{TooMany, UnknownKind, UnfitRow, ShortBuffer}
use Rattle.domain.specs.Meaning.{Meaning}
use Rattle.domain.proofs.Failing.{all_pass, none_fails}
use Rattle.domain.specs.Solving.{first_failing, else_at, else_if, fit, refusal_of, Accepted}

past_if : (b : Bool) (r : Refusal) (next : Option Refusal) → else_if b r next ≡ None → (b ≡ false) × (next ≡ None)
past_if true r next e = let z : ◌≡◌ {A = ℕ} 0 1 = cc in absurd (omega arith)
past_if false r next e = (refl, e)

past_at : (o : Option ℕ) (f : ℕ → Refusal) (next : Option Refusal) → else_at o f next ≡ None → (o ≡ None) × (next ≡ None)
past_at None f next e = (refl, e)
past_at (Some i) f next e = let z : ◌≡◌ {A = ℕ} 0 1 = cc in absurd (omega arith)

module _ (m : Meaning) (kinds : List ℕ) (rows : List Row) (room : ℕ) where
  pub accepted : refusal_of m kinds rows room ≡ None → Accepted m kinds rows room
  unfolding refusal_of
  accepted e =
      let p = past_if (ltb 256 (length rows) || ltb 512 (length kinds)) TooMany _ e in
      let q = past_at (first_failing m.knows kinds) UnknownKind _ p.1 in
      let r = past_at (first_failing (fit m kinds) rows) UnfitRow _ q.1 in
      let s = past_if (ltb room (length kinds)) ShortBuffer None r.1 in
      let few = or_parts _ _ p.0 in
      record {
        few_rows = ltb-false _ _ few.0;
        few_variables = ltb-false _ _ few.1;
        known_kinds = all_pass m.knows kinds q.0;
        fit_rows = all_pass (fit m kinds) rows r.0;
        enough_room = ltb-false _ _ s.0;
      }

  pub not_refused : Accepted m kinds rows room → refusal_of m kinds rows room ≡ None
  unfolding refusal_of
  not_refused a =
      rw (
        or_from _ _ (le-ltb 256 (length rows) a.few_rows) (le-ltb 512 (length kinds) a.few_variables),
        none_fails m.knows kinds a.known_kinds,
        none_fails (fit m kinds) rows a.fit_rows,
        le-ltb room (length kinds) a.enough_room,
      )
