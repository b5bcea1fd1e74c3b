-- What the answer to a list promises.
use Rattle.std.specs.Prelude.{◌≡◌, List, length, ℤ, Some, None, Ok, Err, vec_items, Option, Result, Vec}
use Rattle.std.specs.declared.alloc.Global.{Global}
use Rattle.domain.specs.Meaning.{Meaning}
use Rattle.domain.specs.Solving.{Chosen, refusal_of}
use Rattle.limit_list.specs.declared.answering.Unanswered.{Unanswered}
use Rattle.limit_list.specs.declared.answering.Unanswered.TheVariants.{Memory, Refused}
use Rattle.limit_list.specs.declared.list.LimitList.{LimitList}

-- one value for each reading so that every limit is kept, or that there are no such values, or the domain's refusal; nothing is
-- said where memory fails
abbrev pub Answers : Meaning → LimitList → Result (Option (Vec ℤ Global)) Unanswered → Type 0
Answers m l (Ok (Some vs)) = Chosen m (vec_items l.kinds) (vec_items l.rows) (vec_items vs)
Answers m l (Ok None) = (vs : List ℤ) → Chosen m (vec_items l.kinds) (vec_items l.rows) vs → ⊥
Answers m l (Err (Refused e)) = refusal_of m (vec_items l.kinds) (vec_items l.rows) (length (vec_items l.kinds)) ≡ Some e
Answers m l (Err Memory) = Unit {0}
