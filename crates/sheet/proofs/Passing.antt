-- Refusals in order, and views that differ in their statements and trials only.
use Rattle.std.proofs.Common.{◌≡◌, ℕ, ◌<◌, Bool, true, false, ◌&&◌, leb, List, get_or, Some, Option, sym, ap, ap₂, arith}
use Rattle.std.proofs.lemmas.Bool.{and_parts, leb-true}
use Rattle.sheet.specs.declared.refusal.Refusal.{Refusal}
use Rattle.sheet.specs.declared.trial.Trial.{Trial}
use Rattle.sheet.specs.Statements.{Statement}
use Rattle.sheet.specs.Views.{View, unless, is_object, trial_place, cut_to, no_trial, dropped_at, dropped}

module _ {b : Bool} (e : Refusal) (next : Option Refusal) where
  pub passes : b ≡ true → unless b e next ≡ next
  passes h = ap (λ x. unless x e next) h

  pub stops : b ≡ false → unless b e next ≡ Some e
  stops h = ap (λ x. unless x e next) h

-- the view with other statements, trials and number opened
abbrev pub put : View → List Statement → List Trial → ℕ → View
put v ss ts n = record { objects = v.objects; kinds = v.kinds; statements = ss; trials = ts; opened = n }

pub same_view : (v : View) (n : ℕ) {ss ss' : List Statement} {ts ts' : List Trial} → ss ≡ ss' → ts ≡ ts' → put v ss ts n ≡ put v ss' ts' n
same_view v n p q = ap₂ (λ a b. put v a b n) p q

-- where there is an object, the sheet is set up
pub some_object : (v : View) (o : ℕ) → is_object v o ≡ true → 0 < v.objects
some_object v o h =
    let r = and_parts (leb 1 o) (leb o v.objects) h in
    omega (arith, leb-true 1 o r.0, leb-true o v.objects r.1)

pub some_objects : (v : View) (o q : ℕ) → (is_object v o && is_object v q) ≡ true → 0 < v.objects
some_objects v o q h = some_object v o (and_parts (is_object v o) (is_object v q) h).0

-- dropping the trial at place i
pub drops : (v : View) (n i : ℕ) → Some i ≡ trial_place v n → dropped v n ≡ cut_to v i (get_or v.trials i no_trial).mark
drops v n i e = ap (dropped_at v) (sym e)
