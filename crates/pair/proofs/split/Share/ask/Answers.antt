use Rattle.std.proofs.Common.{◌≡◌, ℕ, List, Some, None, arith, rules}
use Rattle.domain.specs.declared.predicate.Row.{Row}
use Rattle.domain.specs.declared.refusal.Refusal.{Refusal}
use Rattle.domain.specs.Meaning.{Meaning}
use Rattle.domain.specs.Solving.{Accepted, refusal_of}
use Rattle.domain.proofs.Accepting.{not_refused}
use Rattle.pair.proofs.split.Share.ask.Goals as goal

-- lists that are in order are not refused
never_refused : (m : Meaning) (kinds : List ℕ) (rows : List Row) (room : ℕ) (e : Refusal) → Accepted m kinds rows room → refusal_of m kinds rows room ≡ Some e → ⊥
never_refused m kinds rows room e ok refused =
    let none : refusal_of m kinds rows room ≡ None = not_refused m kinds rows room ok in
    let z : ◌≡◌ {A = ℕ} 0 1 = cc in
    omega arith

pub unreachable-requires : goal.unreachable-requires
unreachable-requires g c = never_refused _ c.args.self.now.kinds.items c.args.self.now.rows.items 512 c.in-Err.field-0 c.requires (search rules)
