use Rattle.std.proofs.Common.{◌≡◌, None, rules}
use Rattle.domain.specs.Solving.{refusal_of}
use Rattle.domain.proofs.Accepting.{accepted}
use Rattle.domain.proofs.lists.check_lists.Goals as goal

pub returns-then-too_many : goal.returns-then-too_many
unfolding refusal_of
returns-then-too_many g c = search rules

pub returns-in-Some : goal.returns-in-Some
unfolding refusal_of
returns-in-Some g c = search rules

pub returns-in-Some-first_unfit_row : goal.returns-in-Some-first_unfit_row
unfolding refusal_of
returns-in-Some-first_unfit_row g c = search rules

pub returns-then-room-kinds : goal.returns-then-room-kinds
unfolding refusal_of
returns-then-room-kinds g c = search rules

pub returns : goal.returns
unfolding refusal_of
returns g c =
    let none : refusal_of (g.W.Words.spoken c.args.words.now) c.args.kinds.now c.args.rows.now c.args.room ≡ None = search rules in
    record { first = none; accepted = accepted (g.W.Words.spoken c.args.words.now) c.args.kinds.now c.args.rows.now c.args.room none }
