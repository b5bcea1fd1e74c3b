-- One call: the answer is right, and the sheet and the tokens are what the call makes of them.
use Rattle.std.proofs.Common.{◌≡◌, ℕ, ◌+◌, [], ◌∷◌, ◌++◌, Some, None, sym, ap, ◌∙◌}
use Rattle.domain.specs.Meaning.{Meaning}
use Rattle.sheet.specs.declared.sheet.Sheet.{Sheet}
use Rattle.sheet.specs.Showing.{view}
use Rattle.sheet.specs.Views.{View, open_refusal, with_trial}
use Rattle.history.specs.declared.call.Call.TheVariants.{Open}
use Rattle.history.specs.declared.call.Answer.TheVariants.{Opened}
use Rattle.history.specs.Playing.{Purse, opened_or}
use Rattle.history.specs.Runs.{Performed}

module _ {D : Type 0} (m : Meaning) (before now : Sheet D) (p : Purse) where
  pub opened_right :
      (rest : Purse) (n : ℕ) → open_refusal (view before) ≡ None → view now ≡ with_trial (view before) → now.domain ≡ before.domain
      → n ≡ now.opened → rest ≡ p ++ (Some n ∷ []) → Performed m before p Open now rest (Opened n)
  opened_right rest n none shows same number tokens =
      record {
        answer =
            ap Opened (number ∙ ap (λ (v : View). v.opened) shows)
            ∙ sym (ap (λ r. opened_or r ((view before).opened + 1)) none);
        shows = shows;
        tokens = tokens;
        domain = same;
      }
