-- What a node's line says, field by field.
use Rattle.std.specs.Prelude.{◌≡◌, ℕ, pos, Bool, cond, List, drop, slice_index, Some}
use Rattle.concept.specs.declared.node.Chain.{Chain}
use Rattle.concept.specs.declared.node.Node.{Node}
use Rattle.text.specs.declared.bytes.Class.TheVariants.{Digit, Letter}
use Rattle.text.specs.Bytes.{in_class, run}
use Rattle.concept_text.specs.declared.form.Form.{Form}
use Rattle.concept_text.specs.declared.form.Form.TheVariants.{Name, Not, And, Or, Some as form-some, All, Has, Lacks, Holds, Meets, Parts}
use Rattle.concept_text.specs.Reading.{number, past, has_sign, past_sign, constant}
use Rattle.concept_text.specs.Words.{form_of}

-- the number at the front, and what follows it; 0 where no number is written
abbrev pub step : List ℕ → ℕ
step s = cond (in_class Digit (slice_index s 0)) (number s) 0

abbrev pub past_step : List ℕ → List ℕ
past_step s = cond (in_class Digit (slice_index s 0)) (past Digit s) s

-- up to three steps, and what follows them
abbrev pub chain : List ℕ → Chain
chain s = record { first = step s; second = step (past_step s); third = step (past_step (past_step s)) }

abbrev pub past_chain : List ℕ → List ℕ
past_chain s = past_step (past_step (past_step s))

abbrev pub no_chain : Chain
no_chain = record { first = 0; second = 0; third = 0 }

-- whether a second chain follows a bar, what it is, and what follows it
abbrev pub is_paired : List ℕ → Bool
is_paired s = has_sign 124 s

abbrev pub second_chain : List ℕ → Chain
second_chain s = cond (is_paired s) (chain (past_sign s)) no_chain

abbrev pub past_second_chain : List ℕ → List ℕ
past_second_chain s = cond (is_paired s) (past_chain (past_sign s)) s

-- the form of a comparison: `>` and `<=` by themselves, any other after the word `form`
abbrev pub comparison : Bool → List ℕ → ℕ
comparison two s = cond (has_sign 62 s) (cond two 4 2) (cond (has_sign 60 s) (cond two 3 1) (number (past Letter s)))

abbrev pub past_comparison : List ℕ → List ℕ
past_comparison s = cond (has_sign 62 s) (past_sign s) (cond (has_sign 60 s) (past_sign (drop 1 s)) (past Digit (past Letter s)))

-- a form's number
abbrev pub form_number : Form → ℕ
form_number Name = 1
form_number Not = 2
form_number And = 3
form_number Or = 4
form_number form-some = 5
form_number All = 6
form_number Has = 7
form_number Lacks = 8
form_number Holds = 9
form_number Meets = 10
form_number Parts = 11

-- a node without fields
abbrev pub blank : Form → Node
blank f =
    record { form = form_number f; name = 0; left = 0; right = 0; relation = 0; u = no_chain; v = no_chain; predicate = 0; constant = pos 0 }

-- a node with the fields of a comparison
abbrev pub with_holds : Node → List ℕ → Node
with_holds n s =
    let t = past_chain s in
    let r = past_second_chain t in
    record n { u = chain s; v = second_chain t; predicate = comparison (is_paired t) r; constant = constant (past_comparison r) }

-- the node of a form, from what follows its word
abbrev pub node_of : Form → List ℕ → Node
node_of Name s = record (blank Name) { name = number s }
node_of Not s = record (blank Not) { left = number s }
node_of And s = record (blank And) { left = number s; right = number (past Digit s) }
node_of Or s = record (blank Or) { left = number s; right = number (past Digit s) }
node_of form-some s = record (blank form-some) { relation = number s; left = number (past Digit s) }
node_of All s = record (blank All) { relation = number s; left = number (past Digit s) }
node_of Has s = record (blank Has) { relation = number s }
node_of Lacks s = record (blank Lacks) { relation = number s }
node_of Holds s = with_holds (blank Holds) s
node_of Meets s = record (blank Meets) { u = chain s; v = chain (past_sign (past_chain s)) }
node_of Parts s = record (blank Parts) { u = chain s; v = chain (past_sign (past_chain s)) }

-- the node is what the line says: the word of a form, and its fields
abbrev pub Says : List ℕ → Node → Type 0
Says s n = (f : Form) × (form_of (run Letter s) ≡ Some f) × (n ≡ node_of f (past Letter s))
