-- What forests and checked tables hold, and when a tree is added to a forest.
use Rattle.std.specs.Prelude.{◌≡◌, ℕ, ◌+◌, ◌-◌, ◌<◌, ◌≤◌, true, List, length, take, Ok, Err, Result}
use Rattle.concept.specs.declared.checked.Checked.{Checked}
use Rattle.concept.specs.declared.forest.Forest.{Forest}
use Rattle.concept.specs.declared.normal.Normal.{Normal}
use Rattle.concept.specs.declared.term.Term.{Term}
use Rattle.concept.specs.Concepts.{Concept}
use Rattle.concept.specs.Forests.{Grown}
use Rattle.concept.specs.Normal.{nodes}
use Rattle.concept.specs.Terms.{Forms, forms, forms_at, term_forms, lower}

-- the nodes of a forest
abbrev pub items : Forest → List Normal
items f = take f.len f.nodes

-- the two forms that each place of a checked table stands for
unfoldable pub table_forms : Checked → List Forms
table_forms table = forms (take table.len table.terms)

abbrev pub forms_of : Checked → ℕ → Forms
forms_of table place = forms_at (table_forms table) place

-- a table stands for what its last place stands for
abbrev pub root_forms : Checked → Forms
root_forms table = forms_of table (table.len - 1)

-- the term at a place names lower places, and says what the place stands for
pub record Says (table : Checked) (place : ℕ) (term : Term) : Type 0 where
  pub lower_only : lower place term ≡ true
  pub form : forms_of table place ≡ term_forms (table_forms table) term

-- the tree of c is added exactly where it has room among 256 nodes; else the forest is handed back as it was
abbrev pub Added : Forest → Concept → Result (Forest × ℕ) Forest → Type 0
Added before c (Ok p) = (length (items before) + nodes c ≤ 256) × Grown (items before) (items p.0) p.1 c
Added before c (Err after) = (256 < length (items before) + nodes c) × (after ≡ before)
