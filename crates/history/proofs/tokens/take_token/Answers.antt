use Rattle.std.proofs.Common.{◌≤◌, length, set, None, sym, ap, ◌∙◌, arith}
use Rattle.std.proofs.lemmas.List.{get_or_past, set_past, length-map, get_or-map, map-set}
use Rattle.history.specs.Tokens.{numbers, number_in}
use Rattle.history.proofs.tokens.take_token.Goals as goal

pub returns-then-place-tokens : goal.returns-then-place-tokens
returns-then-place-tokens c =
    let past : length (numbers c.args.tokens.now) ≤ c.args.place = omega (arith, length-map c.args.tokens.now number_in) in
    record {
      taken = sym (get_or_past (numbers c.args.tokens.now) c.args.place None past);
      left = sym (set_past (numbers c.args.tokens.now) c.args.place None past);
    }

pub returns : goal.returns
returns c =
    record {
      taken = ap number_in c.take.ensures.value ∙ sym (get_or-map number_in c.args.tokens.now c.args.place None None c.if-place-tokens.false);
      left =
          map-set number_in c.args.tokens.now c.args.place c.take.new.self
          ∙ ap (λ o. set (numbers c.args.tokens.now) c.args.place (number_in o)) c.take.ensures.after;
    }
