use Rattle.std.proofs.Common.{◌≡◌, ◌+◌, [], ◌∷◌, ◌++◌, length, ap, ◌∙◌, arith, rules}
use Rattle.sheet.specs.Layout.{rising}
use Rattle.sheet.specs.Showing.{view}
use Rattle.sheet.proofs.Keeping.{length_in_force}
use Rattle.sheet.proofs.Marking.{rising_push}
use Rattle.sheet.proofs.sheet.Sheet.open_trial.Goals as goal

pub invariant_of-self-2 : goal.invariant_of-self-2
invariant_of-self-2 g c =
    let s = c.args.self.now in
    let n = length s.statements.items in
    record {
      few_objects = s.few_objects;
      few_opened = omega arith;
      few_open = search rules;
      few = s.few;
      ready = s.ready;
      held = s.held;
      marked =
          ap (rising 0 n) (c.push.ensures.items ∙ ap (λ k. s.trials.items ++ (record { number = s.opened + 1; mark = k } ∷ [])) c.len.ensures.value)
          ∙ rising_push 0 n (s.opened + 1) s.trials.items s.marked;
    }

pub returns-clause-acts : goal.returns-clause-acts
returns-clause-acts g c =
    let s = c.args.self.now in
    let long : length (view s).statements ≡ length s.statements.items = length_in_force s.forest s.statements.items in
    search rules
