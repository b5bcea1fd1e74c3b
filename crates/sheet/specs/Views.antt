-- What a sheet holds, and what each call makes of it.
use Rattle.std.specs.Prelude.{ℕ, ◌+◌, ◌-◌, ◌*◌, Bool, true, false, ◌&&◌, List, [], ◌∷◌, ◌++◌, length, take, ℤ, Some, None, Option, ◌==◌, nat_le, nat_lt, slice_index_or}
use Rattle.std.specs.List.{position}
use Rattle.domain.specs.declared.predicate.Predicate.{Predicate}
use Rattle.domain.specs.Meaning.{Meaning}
use Rattle.domain.specs.Solving.{first_failing}
use Rattle.concept.specs.declared.node.Node.{Node}
use Rattle.concept.specs.declared.fault.PredicateFault.{PredicateFault}
use Rattle.concept.specs.declared.fault.TableFault.{TableFault}
use Rattle.concept.specs.Concepts.{is_value, is_relation, kind_at}
use Rattle.concept.specs.Normal.{normal, nodes, valued_nodes}
use Rattle.concept.specs.Tables.{concept_of, table_fault, misfit}
use Rattle.sheet.specs.declared.refusal.Refusal.{Refusal}
use Rattle.sheet.specs.declared.refusal.Refusal.TheVariants.{SetUpBefore, Objects, Kinds, Object, Stating, Comparing, Nodes, Values, Relation, Others, Feature, Trials}
use Rattle.sheet.specs.declared.trial.Trial.{Trial}
use Rattle.sheet.specs.Statements.{Statement, n_of, v_of, k_of, x_of}
use Rattle.sheet.specs.Statements.Statement.{states}

-- a sheet: the number of objects (M, 0 before setting up), the kinds of the value features (none before setting up), the
-- statements in force with their concepts in normal form, oldest first, the open trials, oldest first, and how many were opened
pub record View : Type 0 where
  pub objects : ℕ
  pub kinds : List ℕ
  pub statements : List Statement
  pub trials : List Trial
  pub opened : ℕ

abbrev pub new_view : View
new_view = record { objects = 0; kinds = []; statements = []; trials = []; opened = 0 }

-- one statement more, at the end
abbrev pub with_statement : View → Statement → View
with_statement v s = record {
  objects = v.objects;
  kinds = v.kinds;
  statements = v.statements ++ (s ∷ []);
  trials = v.trials;
  opened = v.opened;
}

-- refusals in order: the first that applies
abbrev pub unless : Bool → Refusal → Option Refusal → Option Refusal
unless true e next = next
unless false e next = Some e

abbrev pub is_object : View → ℕ → Bool
is_object v o = nat_le 1 o && nat_le o v.objects

-- setting up: already done, a number of objects not 1 to 16, not 128 kinds or an unknown one
abbrev pub at_kinds : Option ℕ → Option Refusal
at_kinds None = None
at_kinds (Some i) = Some (Kinds i)

unfoldable pub set_up_refusal : Meaning → View → ℕ → List ℕ → Option Refusal
set_up_refusal m v objects kinds =
    unless (v.objects == 0) SetUpBefore
    (unless (nat_le 1 objects && nat_le objects 16) Objects
    (unless (length kinds == 128) (Kinds 128) (at_kinds (first_failing m.knows kinds))))

abbrev pub set_up : View → ℕ → List ℕ → View
set_up v objects kinds = record {
  objects = objects;
  kinds = kinds;
  statements = v.statements;
  trials = v.trials;
  opened = v.opened;
}

-- stating: no object, the table check, more than 256 nodes, too many values
abbrev pub at_table : Option TableFault → Option Refusal → Option Refusal
at_table None next = next
at_table (Some e) next = Some (Stating e)

abbrev pub state_refusal : Meaning → View → ℕ → List Node → Option Refusal
state_refusal m v o table =
    unless (is_object v o) Object
    (at_table (table_fault m v.kinds table)
    (unless (nat_le (n_of v.statements + nodes (normal m (concept_of v.kinds table))) 256) Nodes
    (unless (nat_le (k_of v.statements + v.objects * (v_of v.statements + valued_nodes (normal m (concept_of v.kinds table)))) 256) Values None)))

abbrev pub stated : Meaning → View → ℕ → List Node → Statement
stated m v o table = states o (normal m (concept_of v.kinds table))

-- linking, setting apart
abbrev pub link_refusal : View → ℕ → ℕ → ℕ → Option Refusal
link_refusal v o r q =
    unless (is_object v o && is_object v q) Object (unless (is_relation r) Relation (unless (nat_lt (x_of v.statements) 64) Others None))

abbrev pub apart_refusal : View → ℕ → ℕ → Option Refusal
apart_refusal v o q = unless (is_object v o && is_object v q) Object (unless (nat_lt (x_of v.statements) 64) Others None)

-- comparing: the predicate has the kind of both features
abbrev pub compared_by : View → ℕ → ℕ → ℤ → Predicate
compared_by v g form constant = record { kind = kind_at v.kinds g; form = form; constant = constant }

abbrev pub at_predicate : Option PredicateFault → Option Refusal → Option Refusal
at_predicate None next = next
at_predicate (Some e) next = Some (Comparing e)

abbrev pub compare_refusal : Meaning → View → Predicate → ℕ → ℕ → ℕ → ℕ → Option Refusal
compare_refusal m v p o g q h =
    unless (is_object v o && is_object v q) Object
    (unless (is_value g && (is_value h && kind_at v.kinds g == kind_at v.kinds h)) Feature
    (at_predicate (misfit m p false)
    (unless (nat_le (k_of v.statements + 1 + v.objects * v_of v.statements) 256) Values
    (unless (nat_lt (x_of v.statements) 64) Others None))))

-- opening: eight open, or 65,535 opened
abbrev pub open_refusal : View → Option Refusal
open_refusal v = unless (nat_lt (length v.trials) 8 && nat_lt v.opened 65535) Trials None

abbrev pub with_trial : View → View
with_trial v = record {
  objects = v.objects;
  kinds = v.kinds;
  statements = v.statements;
  trials = v.trials ++ (record { number = v.opened + 1; mark = length v.statements } ∷ []);
  opened = v.opened + 1;
}

-- the place of the trial of this number among the open ones
abbrev pub trial_place : View → ℕ → Option ℕ
trial_place v n = position (λ t. t.number == n) v.trials

-- closing: the trial of this number and all opened after it, none where it is not open
abbrev pub closed_from : ℕ → Option ℕ → ℕ
closed_from nesting None = 0
closed_from nesting (Some i) = nesting - i

abbrev pub how_many_close : View → ℕ → ℕ
how_many_close v n = closed_from (length v.trials) (trial_place v n)

abbrev pub cut_to : View → ℕ → ℕ → View
cut_to v i mark = record {
  objects = v.objects;
  kinds = v.kinds;
  statements = take mark v.statements;
  trials = take i v.trials;
  opened = v.opened;
}

abbrev pub no_trial : Trial
no_trial = record { number = 0; mark = 0 }

-- keeping leaves the statements, dropping leaves those that were in force when the trial was opened
abbrev pub kept_at : View → Option ℕ → View
kept_at v None = v
kept_at v (Some i) = cut_to v i (length v.statements)

abbrev pub dropped_at : View → Option ℕ → View
dropped_at v None = v
dropped_at v (Some i) = cut_to v i (slice_index_or v.trials i no_trial).mark

abbrev pub kept : View → ℕ → View
kept v n = kept_at v (trial_place v n)

abbrev pub dropped : View → ℕ → View
dropped v n = dropped_at v (trial_place v n)
