-- What one performed call, and a whole run, promise.
use Rattle.std.specs.Prelude.{◌≡◌, ℕ, ◌+◌, ◌≤◌, List, [], ◌∷◌, ◌++◌, Some, None, vec_items, vec_len, vec_capacity, Option, Vec}
use Rattle.std.specs.Borrow.{MutBor}
use Rattle.std.specs.Fn.{Once}
use Rattle.std.specs.declared.alloc.Global.{Global}
use Rattle.domain.specs.Meaning.{Meaning}
use Rattle.sheet.specs.declared.sheet.Sheet.{Sheet}
use Rattle.sheet.specs.declared.trial.Token.{Token}
use Rattle.sheet.specs.Showing.{view}
use Rattle.history.specs.declared.call.Call.{Call}
use Rattle.history.specs.declared.call.Answer.{Answer}
use Rattle.history.specs.declared.call.Answer.TheVariants.{NoToken, Closed}
use Rattle.history.specs.declared.run.Run.{Run}
use Rattle.history.specs.Playing.{Purse, answer_to, event_of, then_purse, after_event, history_after, purse_after, AllRight}
use Rattle.history.specs.Tokens.{numbers}
use Rattle.history.specs.Views.{view_of}

-- the answer is right, and the sheet and the tokens are what the call makes of them
pub record Performed {D : Type 0} (m : Meaning) (before : Sheet D) (purse : Purse) (call : Call) (after : Sheet D) (rest : Purse) (a : Answer) : Type 0 where
  pub answer : a ≡ answer_to m (view before) purse call
  pub shows : view after ≡ after_event m (event_of call a) (view before)
  pub tokens : rest ≡ then_purse purse call a
  pub domain : after.domain ≡ before.domain

-- at a sheet and a token, a function that closes trials may say n and leave the sheet so
pub record Gives {F D : Type 0} (g : Once F (MutBor (Sheet D) × (Token × Unit {0})) (ℕ × (MutBor (Sheet D) × Unit {0}))) (close : F) (before : Sheet D) (t : Token) (n : ℕ) (after : Sheet D) : Type 0 where
  pub lent : MutBor (Sheet D)
  pub shows : lent.now ≡ before
  pub left : MutBor (Sheet D)
  pub met : g.post close (lent, (t, tt)) (n, (left, tt))
  pub leaves : left.now ≡ after

-- the trial of the token with this number was closed by that function; where there is no token, nothing was called
abbrev pub ClosedBy : {F D : Type 0} → Once F (MutBor (Sheet D) × (Token × Unit {0})) (ℕ × (MutBor (Sheet D) × Unit {0})) → F → Sheet D → Option ℕ → Sheet D → Answer → Type 0
ClosedBy g close before None after a = (a ≡ NoToken) × (after ≡ before)
ClosedBy g close before (Some k) after a = (t : Token) × (n : ℕ) × (t.number ≡ k) × (a ≡ Closed k n) × Gives g close before t n after

-- one call more in a run: it was performed, and its answer stands last
pub record Recorded {D : Type 0} (m : Meaning) (before : Run D) (call : Call) (after : Run D) : Type 0 where
  pub answer : Answer
  pub last : vec_items after.answers ≡ vec_items before.answers ++ (answer ∷ [])
  pub performed : Performed m before.sheet (numbers (vec_items before.tokens)) call after.sheet (numbers (vec_items after.tokens)) answer

-- n calls more can be recorded: each takes a place for its answer, and one for the token that it may give
abbrev pub HasRoom : {D : Type 0} → ℕ → Run D → Type 0
HasRoom n run = (vec_len run.tokens + n ≤ vec_capacity run.tokens) × (vec_len run.answers + n ≤ vec_capacity run.answers)

-- what a call takes of that
abbrev pub AtMostOneMore : {A : Type 0} → Vec A Global → Vec A Global → Type 0
AtMostOneMore before after = (vec_len after ≤ vec_len before + 1) × (vec_capacity before ≤ vec_capacity after)

-- every answer is right, and the sheet holds just what is in force after the history of all calls
pub record Sound {D : Type 0} (m : Meaning) (purse : Purse) (calls : List Call) (run : Run D) : Type 0 where
  pub right : AllRight m [] purse calls (vec_items run.answers)
  pub holds : view run.sheet ≡ view_of m (history_after [] calls (vec_items run.answers))
  pub tokens : numbers (vec_items run.tokens) ≡ purse_after purse calls (vec_items run.answers)
