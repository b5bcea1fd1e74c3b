-- The numbers of tokens at hand.
use Rattle.std.specs.Prelude.{ℕ, List, map, Some, None, Option}
use Rattle.sheet.specs.declared.trial.Token.{Token}

abbrev pub number_in : Option Token → Option ℕ
number_in None = None
number_in (Some t) = Some t.number

-- place by place, the number of the token that is there; a token that was spent has left its place empty
abbrev pub numbers : List (Option Token) → List (Option ℕ)
numbers ts = map number_in ts
