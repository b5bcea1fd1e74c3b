-- Concept tables: what a table says, and when it is refused.
use Rattle.std.specs.Prelude.{ℕ, ◌+◌, ◌-◌, Bool, false, cond, ◌&&◌, ◌||◌, List, [], ◌∷◌, length, Some, None, Option, ◌==◌, nat_le, nat_lt, slice_index_or}
use Rattle.domain.specs.declared.predicate.Predicate.{Predicate}
use Rattle.domain.specs.declared.refusal.Refusal.TheVariants.{Unknown as UnknownPredicate}
use Rattle.domain.specs.Meaning.{Meaning}
use Rattle.concept.specs.declared.node.Node.{Node}
use Rattle.concept.specs.declared.fault.PredicateFault.{PredicateFault}
use Rattle.concept.specs.declared.fault.PredicateFault.TheVariants.{Unknown, Arity}
use Rattle.concept.specs.declared.fault.TableFault.{TableFault}
use Rattle.concept.specs.declared.fault.TableFault.TheVariants.{Length, Broken, Unfit}
use Rattle.concept.specs.Concepts.{Concept, is_name, is_feature, is_relation, is_empty, end_kind}
use Rattle.concept.specs.Concepts.Concept.{atom, neg, conj, disj, some, all, has, lacks, holds, meets, parts}
use Rattle.concept.specs.Chains.{steps, no_chain, to_thing, to_value}
use Rattle.concept.specs.Growing.{grow}

-- the predicate of a holds node: its kind is that of the end of u
abbrev pub predicate_at : List ℕ → Node → Predicate
predicate_at kinds n = record { kind = end_kind kinds (steps n.u); form = n.predicate; constant = n.constant }

abbrev pub below_at : List Concept → ℕ → Concept
below_at below i = slice_index_or below i (atom 0)

-- what a node says, given what the places below it say
abbrev pub reads : List ℕ → List Concept → Node → Concept
reads kinds below n =
    cond (n.form == 1) (atom n.name)
    (cond (n.form == 2) (neg (below_at below n.left))
    (cond (n.form == 3) (conj (below_at below n.left) (below_at below n.right))
    (cond (n.form == 4) (disj (below_at below n.left) (below_at below n.right))
    (cond (n.form == 5) (some n.relation (below_at below n.left))
    (cond (n.form == 6) (all n.relation (below_at below n.left))
    (cond (n.form == 7) (has n.relation)
    (cond (n.form == 8) (lacks n.relation)
    (cond (n.form == 9) (holds (predicate_at kinds n) (steps n.u) (steps n.v))
    (cond (n.form == 10) (meets (steps n.u) (steps n.v))
    (parts (steps n.u) (steps n.v)))))))))))

-- the concepts of the nodes, each read from those at lower places
abbrev pub concepts : List ℕ → List Node → List Concept
concepts kinds table = grow (reads kinds) [] table

-- a table says what its last node says
abbrev pub concept_of : List ℕ → List Node → Concept
concept_of kinds table = below_at (concepts kinds table) (length table - 1)

-- the node at place i is not broken: its form and the fields that the form uses are in range
abbrev pub whole : List ℕ → ℕ → Node → Bool
whole kinds i n =
    cond (n.form == 1) (is_name n.name)
    (cond (n.form == 2) (nat_lt n.left i)
    (cond (n.form == 3 || n.form == 4) (nat_lt n.left i && nat_lt n.right i)
    (cond (n.form == 5 || n.form == 6) (is_relation n.relation && nat_lt n.left i)
    (cond (n.form == 7 || n.form == 8) (is_feature n.relation)
    (cond (n.form == 9)
    (to_value n.u && (no_chain n.v || (to_value n.v && end_kind kinds (steps n.u) == end_kind kinds (steps n.v))))
    (cond (n.form == 10 || n.form == 11) (to_thing n.u && to_thing n.v) false))))))

-- what is wrong with a predicate beside one chain (lone) or two: it is unknown, or its arity asks for other chains
abbrev pub misfit : Meaning → Predicate → Bool → Option PredicateFault
misfit m p lone =
    cond (m.arity p == 0) (Some (Unknown (UnknownPredicate p)))
    (cond (m.arity p == 1) (cond lone None (Some (Arity p 1))) (cond lone (Some (Arity p (m.arity p))) None))

abbrev pub unfit : Meaning → List ℕ → Node → Option PredicateFault
unfit m kinds n = cond (n.form == 9) (misfit m (predicate_at kinds n) (is_empty (steps n.v))) None

abbrev pub unfit_at : ℕ → Option PredicateFault → Option TableFault
unfit_at i None = None
unfit_at i (Some e) = Some (Unfit i e)

-- the refusal of one node, at place i: broken comes before unfit
abbrev pub node_fault : Meaning → List ℕ → ℕ → Node → Option TableFault
node_fault m kinds i n = cond (whole kinds i n) (unfit_at i (unfit m kinds n)) (Some (Broken i))

abbrev pub or_else : Option TableFault → Option TableFault → Option TableFault
or_else None next = next
or_else (Some e) next = Some e

-- the first refusal of the nodes, from place i on
abbrev pub first_fault : Meaning → List ℕ → ℕ → List Node → Option TableFault
first_fault m kinds i [] = None
first_fault m kinds i (n ∷ ns) = or_else (node_fault m kinds i n) (first_fault m kinds (i + 1) ns)

-- a table has 1 to 64 nodes
abbrev pub length_fits : ℕ → Bool
length_fits n = nat_le 1 n && nat_le n 64

-- the refusal of a table, if any: its length first, then node by node
unfoldable pub table_fault : Meaning → List ℕ → List Node → Option TableFault
table_fault m kinds table = cond (length_fits (length table)) (first_fault m kinds 0 table) (Some Length)
