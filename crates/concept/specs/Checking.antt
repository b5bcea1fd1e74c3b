-- What the check promises of a table that passes.
use Rattle.std.specs.Prelude.{◌≡◌, ℕ, ◌-◌, true, List, take, None}
use Rattle.domain.specs.Meaning.{Meaning}
use Rattle.concept.specs.declared.checked.Checked.{Checked}
use Rattle.concept.specs.declared.node.Node.{Node}
use Rattle.concept.specs.Agreement.{Agrees}
use Rattle.concept.specs.Concepts.{formed}
use Rattle.concept.specs.Normal.{normal, negated}
use Rattle.concept.specs.Tables.{concept_of, table_fault}
use Rattle.concept.specs.Terms.{Forms, forms, forms_at}

-- the two forms of the last place of a checked table
abbrev pub root_forms : Checked → Forms
root_forms checked = forms_at (forms (take checked.len checked.terms)) (checked.len - 1)

-- the table has no fault, and its concept is well-formed; the forms at the root are the normal form of that concept and that
-- of its negation, and these agree with the concept in every proper plant
pub record Passes (m : Meaning) (kinds : List ℕ) (table : List Node) (checked : Checked) : Type 0 where
  pub unrefused : table_fault m kinds table ≡ None
  pub well_formed : formed m kinds (concept_of kinds table) ≡ true
  pub plain : (root_forms checked).plain ≡ normal m (concept_of kinds table)
  pub turned : (root_forms checked).turned ≡ negated m (concept_of kinds table)
  pub agrees : Agrees m kinds (concept_of kinds table)
