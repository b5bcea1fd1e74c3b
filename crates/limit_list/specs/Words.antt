-- Faults and refusals in words.
use Rattle.std.specs.Prelude.{ℕ, List, [], ◌∷◌, ◌++◌, Some, None, Option, codes}
use Rattle.std.specs.Fmt.{decimal}
use Rattle.domain.specs.Refusals.{number_of}
use Rattle.domain.specs.declared.refusal.Refusal.{Refusal}
use Rattle.domain.specs.declared.refusal.Refusal.TheVariants.{TooMany}
use Rattle.limit_list.specs.declared.answering.Unanswered.{Unanswered}
use Rattle.limit_list.specs.declared.answering.Unanswered.TheVariants.{Memory, Refused}
use Rattle.limit_list.specs.declared.fault.Expected.{Expected}
use Rattle.limit_list.specs.declared.fault.Expected.TheVariants as expected
use Rattle.limit_list.specs.declared.limit.Operator.{Operator}
use Rattle.limit_list.specs.declared.limit.Operator.TheVariants.{AtMost, Below, AtLeast, Above}

-- the numbers that fit an operator
abbrev pub range_text : Operator → List ℕ
range_text AtMost = codes "a whole number from -65536 to 65536"
range_text Below = codes "a whole number from -65535 to 65537"
range_text AtLeast = codes "a whole number from -65535 to 65537"
range_text Above = codes "a whole number from -65536 to 65536"

abbrev pub expected_text : Expected → List ℕ
expected_text expected.Name = codes "the name of a reading"
expected_text expected.MinusOrOperator = codes "-, <=, <, >= or >"
expected_text expected.Operator = codes "<=, <, >= or >"
expected_text (expected.Number o) = range_text o
expected_text expected.EndOfLine = codes "the end of the line"

-- what follows the number of a refusal
abbrev pub reason_text : Refusal → List ℕ
reason_text TooMany = codes "): more than 256 limits"
reason_text _ = codes ")"

-- a refusal ends with a line feed of its own
abbrev pub unanswered_text : Unanswered → List ℕ
unanswered_text Memory = codes "memory allocation failed"
unanswered_text (Refused r) = codes "refused (" ++ (decimal (number_of r) ++ (reason_text r ++ 10 ∷ []))

-- an answer that there are no values; of a list of values no text is promised
abbrev pub answered_text : {V : Type 0} → Option V → Option (List ℕ)
answered_text None = Some (codes "no whole tenths satisfy all limits" ++ 10 ∷ [])
answered_text (Some values) = None
