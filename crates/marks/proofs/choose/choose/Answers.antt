use Rattle.std.proofs.Common.{◌≡◌, ℕ, get_or, MatchOption, List, None, Option, sym, subst, rules}
use Rattle.domain.specs.declared.predicate.Row.{Row}
use Rattle.marks.specs.Choices.{Hopeless, Settled}
use Rattle.marks.specs.Rows.{Allowed}
use Rattle.marks.proofs.Choosing.{allowed_equal, allowed_unequal, none_allowed, some_allowed}
use Rattle.marks.proofs.choose.choose.Goals as goal

none_to_find :
    (sets : List ℕ) (rows : List Row) (r : Option (List ℕ)) → r ≡ None → ((f : ℕ → ℕ) → Allowed sets rows f → ⊥)
    → MatchOption r ((f : ℕ → ℕ) → Allowed sets rows f → ⊥) (λ choice. Allowed sets rows (λ v. get_or choice v 0))
none_to_find sets rows r e none = subst (λ r. MatchOption r ((f : ℕ → ℕ) → Allowed sets rows f → ⊥) (λ choice. Allowed sets rows (λ v. get_or choice v 0))) (sym e) none

pub returns-in_err-joined : goal.returns-in_err-joined
returns-in_err-joined c =
    none_to_find c.args.sets.now c.args.rows.now.list.now _ c.from_residual.ensures
    (λ f a. c.in_err-joined.ensures f (c.join-roots.ensures.rooted f (allowed_equal c.args.sets.now c.args.rows.now.list.now f a)) a.within)

pub returns-in_err-pairs : goal.returns-in_err-pairs
returns-in_err-pairs c =
    none_to_find c.args.sets.now c.args.rows.now.list.now _ c.from_residual-in_err-pairs.ensures
    (λ f a. c.in_err-pairs.ensures f
    (allowed_unequal c.args.sets.now c.args.rows.now.list.now f a c.join-roots.result.of
    (c.join-roots.ensures.rooted f (allowed_equal c.args.sets.now c.args.rows.now.list.now f a)) c.args.rows.now.ready))

pub returns-then-any_crowded : goal.returns-then-any_crowded
returns-then-any_crowded c =
    none_allowed c.args.sets.now c.args.rows.now.list.now c.join-roots.result.of c.in_ok-joined.joined c.in_ok-pairs.pairs.items
    c.join-roots.ensures c.in_ok-joined.ensures c.in_ok-pairs.ensures c.args.rows.now.ready
    (subst (Hopeless c.in_ok-joined.joined) c.deref.ensures.0 c.if-any_crowded.ensures)

pub search-requires : goal.search-requires
search-requires c = c.in_ok-joined.ensures.full

pub returns-in_err-settled : goal.returns-in_err-settled
returns-in_err-settled c =
    none_to_find c.args.sets.now c.args.rows.now.list.now _ c.from_residual-in_err-settled.ensures
    (none_allowed c.args.sets.now c.args.rows.now.list.now c.join-roots.result.of c.in_ok-joined.joined c.in_ok-pairs.pairs.items
    c.join-roots.ensures c.in_ok-joined.ensures c.in_ok-pairs.ensures c.args.rows.now.ready
    (subst (Hopeless c.in_ok-joined.joined) c.deref-2.ensures.0 c.in_err-settled.ensures))

pub returns : goal.returns
returns c =
    some_allowed c.args.sets.now c.args.rows.now.list.now c.join-roots.result.of c.in_ok-joined.joined c.in_ok-pairs.pairs.items
    c.join-roots.ensures c.in_ok-joined.ensures c.in_ok-pairs.ensures c.args.rows.now.ready
    c.in_ok-settled.settled c.read_off.result c.told-sets (search rules)
    (subst (λ ps. Settled c.in_ok-joined.joined ps c.in_ok-settled.settled) c.deref-2.ensures.0 c.in_ok-settled.ensures) c.read_off.ensures
