use Rattle.std.proofs.Common.{◌≡◌, ◌+◌, ◌≤◌, length, get_or, take, vec_items, vec_len, vec_capacity, ap, subst, arith, rules}
use Rattle.std.proofs.lemmas.List.{take_more, take_all, length-take-le}
use Rattle.history.specs.declared.call.Call.TheVariants.{Open}
use Rattle.history.specs.Runs.{Recorded}
use Rattle.history.specs.Tokens.{numbers}
use Rattle.history.proofs.Running.{started, continued, finished}
use Rattle.history.proofs.play.play.Goals as goal

pub loop-call-init : goal.loop-call-init
loop-call-init g c =
    let fresh = c.in-Ok.ensures in
    let len = fresh.len in
    let capacity = fresh.capacity in
    let spare : vec_len c.reserve.new.self + length c.args.calls.now ≤ vec_capacity c.reserve.new.self = search rules in
    started (g.D.Domain.meaning c.new.result.domain) (length c.args.calls.now)
    (record { sheet = c.new.result; tokens = c.reserve.new.self; answers = c.in-Ok.answers })
    c.new.ensures.0 fresh.items (spare, omega arith)

pub perform-requires : goal.perform-requires
perform-requires g c =
    let room = c.loop-call.invariant.room in
    let here = c.loop-call-test.true in
    let long : length (take c.loop-call.call-index c.args.calls.now) ≡ c.loop-call.call-index = length-take-le _ _ (omega arith) in
    (omega (arith, room.0), omega (arith, room.1))

pub loop-call-preserved : goal.loop-call-preserved
loop-call-preserved g c =
    let calls = c.args.calls.now in
    let i = c.loop-call.call-index in
    let here = c.loop-call-test.true in
    let long : length (take i calls) ≡ i = length-take-le _ _ (omega arith) in
    let u = c.loop-call.invariant in
    rw (take_more calls i Open here)
    (continued (g.D.Domain.meaning c.new.result.domain) (length calls) c.new.result.domain (numbers (vec_items c.reserve.new.self)) (take i calls) c.loop-call.run
    c.perform.new.self (get_or calls i Open) u (omega arith)
    (subst (λ m. Recorded m c.loop-call.run (get_or calls i Open) c.perform.new.self) (ap g.D.Domain.meaning u.same) c.perform.ensures.done)
    c.perform.ensures.room)

pub returns : goal.returns
returns g c =
    let calls = c.args.calls.now in
    let whole : take c.loop-call.call-index calls ≡ calls = take_all c.loop-call.call-index calls c.loop-call-test.false in
    let tokens : vec_items c.reserve.new.self ≡ vec_items c.args.tokens = c.reserve.ensures.items in
    finished g.D.Domain.meaning c.new.result.domain c.args.domain (numbers (vec_items c.reserve.new.self)) (numbers (vec_items c.args.tokens))
    (length calls) (take c.loop-call.call-index calls) calls c.loop-call.run c.new.ensures.1 (ap numbers tokens) whole c.loop-call.invariant
