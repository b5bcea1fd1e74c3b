-- Stating, refusal by refusal.
use Rattle.std.proofs.Common.{◌≡◌, ℕ, ◌+◌, ◌*◌, ◌<◌, ◌≤◌, true, cond, eqb, leb, List, [], Some, None, Option, sym, refl, ap, ◌∙◌, arith}
use Rattle.std.proofs.lemmas.Bool.{cond-false, le-leb, lt-leb, ne_eqb}
use Rattle.domain.specs.Meaning.{Meaning}
use Rattle.concept.specs.declared.checked.Checked.{Checked}
use Rattle.concept.specs.declared.fault.TableFault.{TableFault}
use Rattle.concept.specs.declared.node.Node.{Node}
use Rattle.concept.specs.Checking as checking
use Rattle.concept.specs.Concepts.{Concept}
use Rattle.concept.specs.Held.{root_forms, table_forms}
use Rattle.concept.specs.Normal.{normal, nodes, valued_nodes}
use Rattle.concept.specs.Tables.{concept_of, table_fault}
use Rattle.concept.specs.Terms.{Forms}
use Rattle.sheet.specs.declared.refusal.Refusal.{Refusal}
use Rattle.sheet.specs.declared.refusal.Refusal.TheVariants.{Object, Stating, Nodes, Values}
use Rattle.sheet.specs.Statements.{n_of, v_of, k_of}
use Rattle.sheet.specs.Statements.Statement.{states}
use Rattle.sheet.specs.Views.{View, unless, is_object, at_table, state_refusal, stated}
use Rattle.sheet.proofs.Passing.{passes, stops}

-- the form at the root of a table, as the check and as the forest name it
pub root_same : (t : Checked) → checking.root_forms t ≡ root_forms t
unfolding table_forms
root_same t = refl

-- what is refused once the table has passed
abbrev room : View → Concept → Option Refusal
room v c =
    unless (leb (n_of v.statements + nodes c) 256) Nodes
    (unless (leb (k_of v.statements + v.objects * (v_of v.statements + valued_nodes c)) 256) Values None)

abbrev over : Meaning → View → ℕ → List Node → List ℕ → Option Refusal
over m v o table kinds = unless (is_object v o) Object (at_table (table_fault m kinds table) (room v (normal m (concept_of kinds table))))

module _ (m : Meaning) (v : View) (kinds : List ℕ) (o : ℕ) (table : List Node) (ks : v.kinds ≡ kinds) (here : is_object v o ≡ true) where
  checked_by : state_refusal m v o table ≡ at_table (table_fault m kinds table) (room v (normal m (concept_of kinds table)))
  checked_by = ap (over m v o table) ks ∙ passes Object (at_table (table_fault m kinds table) (room v (normal m (concept_of kinds table)))) here

  pub at_fault : (e : TableFault) → Some e ≡ table_fault m kinds table → state_refusal m v o table ≡ Some (Stating e)
  at_fault e h = checked_by ∙ ap (λ f. at_table f (room v (normal m (concept_of kinds table)))) (sym h)

  module _ (c : Concept) (is : normal m (concept_of kinds table) ≡ c) where
    pub stated_is : stated m v o table ≡ states o c
    stated_is = ap (λ k. states o (normal m (concept_of k table))) ks ∙ ap (states o) is

    module _ (none : None ≡ table_fault m kinds table) where
      left_over : state_refusal m v o table ≡ room v c
      left_over = checked_by ∙ (ap (λ f. at_table f (room v (normal m (concept_of kinds table)))) (sym none) ∙ ap (room v) is)

      pub no_room : 256 < n_of v.statements + nodes c → state_refusal m v o table ≡ Some Nodes
      no_room h = left_over ∙ stops Nodes _ (lt-leb (n_of v.statements + nodes c) 256 h)

      module _ (fits : n_of v.statements + nodes c ≤ 256) where
        pub no_values : 256 < k_of v.statements + v.objects * (v_of v.statements + valued_nodes c) → state_refusal m v o table ≡ Some Values
        no_values h = left_over ∙ (passes Nodes _ (le-leb (n_of v.statements + nodes c) 256 fits) ∙ stops Values None (lt-leb _ 256 h))

        pub accepts : k_of v.statements + v.objects * (v_of v.statements + valued_nodes c) ≤ 256 → state_refusal m v o table ≡ None
        accepts h = left_over ∙ (passes Nodes _ (le-leb (n_of v.statements + nodes c) 256 fits) ∙ passes Values None (le-leb _ 256 h))

-- once the sheet is set up, the kinds are those that were given
pub kinds_set : (n : ℕ) (kinds : List ℕ) → 0 < n → cond (eqb n 0) [] kinds ≡ kinds
kinds_set n kinds h = cond-false (eqb n 0) [] kinds (ne_eqb n 0 (λ e. omega arith))

-- the form at the root of a table that passed
pub root_is : (m : Meaning) (kinds : List ℕ) (table : List Node) (t : Checked) → checking.Passes m kinds table t → normal m (concept_of kinds table) ≡ (root_forms t).plain
root_is m kinds table t p = sym p.plain ∙ ap (λ (f : Forms). f.plain) (root_same t)
