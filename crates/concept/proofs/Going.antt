-- The check on its way through a table: what is left of the table decides the answer, and the terms so far are those of the
-- nodes so far.
use Rattle.std.proofs.Common.{◌≡◌, ℕ, ◌+◌, ◌<◌, true, List, [], ◌∷◌, ◌++◌, map, length, get_or, take, drop, set, Some, None, sym, ap, ◌∙◌, ap₂, arith}
use Rattle.std.proofs.lemmas.List.{length-set, take_all, take_more_set, map_more}
use Rattle.domain.specs.Meaning.{Meaning, Lawful}
use Rattle.concept.specs.declared.checked.Checked.{Checked}
use Rattle.concept.specs.declared.fault.TableFault.{TableFault}
use Rattle.concept.specs.declared.node.Node.{Node}
use Rattle.concept.specs.declared.term.Term.{Term}
use Rattle.concept.specs.Tables.{node_fault, first_fault, length_fits, table_fault}
use Rattle.concept.specs.Terms.{all_lower}
use Rattle.concept.specs.Checking.{Passes}
use Rattle.concept.specs.Translating.{term_of}
use Rattle.concept.proofs.Passing.{passes, lower_grown}
use Rattle.concept.proofs.Refusing.{no_node, fault_at, fault_nowhere, few_nodes, of_the_nodes}

pub record Going (m : Meaning) (kinds : List ℕ) (table : List Node) (terms : List Term) (i : ℕ) : Type 0 where
  pub left : first_fault m kinds 0 table ≡ first_fault m kinds i (drop i table)
  pub so_far : take i terms ≡ map (term_of m kinds) (take i table)
  pub room : length terms ≡ 64

module _ (m : Meaning) (kinds : List ℕ) (table : List Node) (fits : true ≡ length_fits (length table)) (terms : List Term) (i : ℕ)
    (here : Going m kinds table terms i) where
  pub going_on :
      i < length table → (t : Term) → None ≡ node_fault m kinds i (get_or table i no_node) → t ≡ term_of m kinds (get_or table i no_node)
      → Going m kinds table (set terms i t) (i + 1)
  going_on h t e is =
      let room : i < length terms = omega (arith, here.room, few_nodes (length table) fits) in
      record {
        left = here.left ∙ fault_at m kinds table i h None e;
        so_far = take_more_set terms i t room
            ∙ (ap₂ (λ l x. l ++ (x ∷ [])) here.so_far is ∙ sym (map_more (term_of m kinds) table i no_node h));
        room = length-set terms i t ∙ here.room;
      }

  pub stopped : i < length table → (e : TableFault) → Some e ≡ node_fault m kinds i (get_or table i no_node) → Some e ≡ table_fault m kinds table
  stopped h e q = sym (of_the_nodes m kinds table fits ∙ (here.left ∙ fault_at m kinds table i h (Some e) q))

  module _ (end : i ≡ length table) where
    none_left : first_fault m kinds 0 table ≡ None
    none_left = here.left ∙ fault_nowhere m kinds table i (omega arith)

    all_terms : take (length table) terms ≡ map (term_of m kinds) table
    all_terms = ap (λ n. take n terms) (sym end) ∙ (here.so_far ∙ ap (map (term_of m kinds)) (take_all i table (omega arith)))

    pub unrefused : None ≡ table_fault m kinds table
    unrefused = sym (of_the_nodes m kinds table fits ∙ none_left)

    pub all_are_lower : all_lower 0 (take (length table) terms) ≡ true
    all_are_lower = ap (all_lower 0) all_terms ∙ lower_grown m kinds 0 table none_left

    pub arrived : Lawful m → (checked : Checked) → checked.len ≡ length table → checked.terms ≡ terms → Passes m kinds table checked
    arrived lawful checked long same = passes m lawful kinds table checked fits long (ap₂ take long same ∙ all_terms) none_left
