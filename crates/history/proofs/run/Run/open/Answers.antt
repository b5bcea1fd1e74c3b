use Rattle.std.proofs.Common.{◌≡◌, [], ◌∷◌, ◌++◌, Some, vec_items, sym, ap, ◌∙◌, rules}
use Rattle.std.proofs.lemmas.List.{map_push}
use Rattle.history.specs.Tokens.{numbers, number_in}
use Rattle.history.proofs.Performing.{opened_right}
use Rattle.history.proofs.run.Run.open.Goals as goal

pub returns-in-Ok-push-clause-done : goal.returns-in-Ok-push-clause-done
returns-in-Ok-push-clause-done g c =
    let h = c.in-Ok.ensures in
    let old = vec_items c.args.self.now.tokens in
    let items : vec_items c.push.new.self ≡ old ++ (Some c.in-Ok.token ∷ []) = search rules in
    let told : c.number-number.result ≡ c.in-Ok.token.number = c.number-number.ensures in
    opened_right (g.D.Domain.meaning c.args.self.now.sheet.domain) c.args.self.now.sheet c.open_trial.new.self (numbers old) (numbers (vec_items c.push.new.self))
    c.number-number.result h.acts.0 h.acts.1.0 h.acts.1.1 (told ∙ h.number)
    (ap numbers items ∙ (map_push number_in old (Some c.in-Ok.token) ∙ ap (λ n. numbers old ++ (Some n ∷ [])) (sym told)))
