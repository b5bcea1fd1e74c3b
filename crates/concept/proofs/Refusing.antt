-- The first fault of a table, looked for from the front.
use Rattle.std.proofs.Common.{◌≡◌, ℕ, ◌+◌, ◌<◌, ◌≤◌, true, false, leb, List, length, get_or, drop, pos, Some, None, Option, sym, ap, ◌∙◌}
use Rattle.std.proofs.lemmas.List.{at_drop_more, at_drop_all}
use Rattle.std.proofs.lemmas.Bool.{and_parts, cond-true, cond-false, leb-true}
use Rattle.domain.specs.Meaning.{Meaning}
use Rattle.concept.specs.declared.fault.TableFault.{TableFault}
use Rattle.concept.specs.declared.fault.TableFault.TheVariants.{Length}
use Rattle.concept.specs.declared.node.Node.{Node}
use Rattle.concept.specs.Tables.{node_fault, or_else, first_fault, length_fits, table_fault}

-- a default for reads of a table
abbrev pub no_node : Node
no_node = record {
  form = 0;
  name = 0;
  left = 0;
  right = 0;
  relation = 0;
  u = record { first = 0; second = 0; third = 0 };
  v = record { first = 0; second = 0; third = 0 };
  predicate = 0;
  constant = pos 0;
}

-- 1 to 64 nodes
pub some_nodes : (n : ℕ) → true ≡ length_fits n → 0 < n
some_nodes n e = leb-true 1 n (and_parts (leb 1 n) (leb n 64) (sym e)).0

pub few_nodes : (n : ℕ) → true ≡ length_fits n → n ≤ 64
few_nodes n e = leb-true n 64 (and_parts (leb 1 n) (leb n 64) (sym e)).1

module _ (m : Meaning) (kinds : List ℕ) (table : List Node) where
  -- the fault of the node at i, or else that of what follows
  pub fault_at :
      (i : ℕ) → i < length table → (o : Option TableFault) → o ≡ node_fault m kinds i (get_or table i no_node)
      → first_fault m kinds i (drop i table) ≡ or_else o (first_fault m kinds (i + 1) (drop (i + 1) table))
  fault_at i h o e =
      at_drop_more (first_fault m kinds i) table i no_node h ∙ ap (λ q. or_else q (first_fault m kinds (i + 1) (drop (i + 1) table))) (sym e)

  pub fault_nowhere : (i : ℕ) → length table ≤ i → first_fault m kinds i (drop i table) ≡ None
  fault_nowhere i h = at_drop_all (first_fault m kinds i) table i h

  -- the length comes first
  pub of_the_nodes : true ≡ length_fits (length table) → table_fault m kinds table ≡ first_fault m kinds 0 table
  unfolding table_fault
  of_the_nodes e = cond-true (length_fits (length table)) _ _ (sym e)

  pub of_the_length : false ≡ length_fits (length table) → Some Length ≡ table_fault m kinds table
  unfolding table_fault
  of_the_length e = sym (cond-false (length_fits (length table)) (first_fault m kinds 0 table) (Some Length) (sym e))
