-- Stating over a sheet: which refusal applies, and what is stored.
use Rattle.std.proofs.Common.{◌≡◌, ℕ, ◌+◌, ◌*◌, ◌<◌, ◌≤◌, true, List, [], ◌∷◌, ◌++◌, length, Some, None, sym, ap, ◌∙◌, arith}
use Rattle.domain.specs.Meaning.{Meaning}
use Rattle.concept.specs.declared.checked.Checked.{Checked}
use Rattle.concept.specs.declared.count.Counts.{Counts}
use Rattle.concept.specs.declared.fault.TableFault.{TableFault}
use Rattle.concept.specs.declared.forest.Forest.{Forest}
use Rattle.concept.specs.declared.node.Node.{Node}
use Rattle.concept.specs.Checking.{Passes}
use Rattle.concept.specs.Concepts.{Concept}
use Rattle.concept.specs.Counts.{counted}
use Rattle.concept.specs.Forests.{Grown}
use Rattle.concept.specs.Held.{items, root_forms}
use Rattle.concept.specs.Normal.{nodes, valued_nodes}
use Rattle.concept.specs.Tables.{table_fault}
use Rattle.sheet.specs.declared.refusal.Refusal.TheVariants.{Stating, Nodes, Values}
use Rattle.sheet.specs.declared.sheet.Sheet.{Sheet}
use Rattle.sheet.specs.declared.statement.Stored.TheVariants.{Concept as Stated}
use Rattle.sheet.specs.declared.totals.Totals.{Totals}
use Rattle.sheet.specs.Layout.{in_force, sound, weighs}
use Rattle.sheet.specs.Showing.{view}
use Rattle.sheet.specs.Statements.{n_of, v_of, k_of}
use Rattle.sheet.specs.Totals.{totals_of}
use Rattle.sheet.specs.Views.{is_object, state_refusal, stated}
use Rattle.sheet.proofs.Accepting.{at_fault, no_room, no_values, accepts, stated_is, kinds_set, root_is}
use Rattle.sheet.proofs.Bounding.{counted_right}
use Rattle.sheet.proofs.Passing.{some_object}
use Rattle.sheet.proofs.Replanting.{all_in_force, sums_small, values_are, values_with, grown_shown, grown_sound}

module _ {D : Type 0} (m : Meaning) (s : Sheet D) (o : ℕ) (table : List Node) (here : is_object (view s) o ≡ true) where
  set : (view s).kinds ≡ s.kinds
  set = kinds_set s.objects s.kinds (some_object (view s) o here)

  pub faulty : (e : TableFault) → Some e ≡ table_fault m s.kinds table → state_refusal m (view s) o table ≡ Some (Stating e)
  faulty = at_fault m (view s) s.kinds o table set here

  module _ (t : Checked) (p : Passes m s.kinds table t) where
    abbrev form : Concept
    form = (root_forms t).plain

    none : None ≡ table_fault m s.kinds table
    none = sym p.unrefused

    in_all : length (items s.forest) + nodes form ≡ n_of (view s).statements + nodes form
    in_all = omega (arith, all_in_force s.forest s.objects s.statements.items form s.held)

    pub full : 256 < length (items s.forest) + nodes form → state_refusal m (view s) o table ≡ Some Nodes
    full over = no_room m (view s) s.kinds o table set here form (root_is m s.kinds table t p) none (omega (arith, in_all))

    module _ (room : length (items s.forest) + nodes form ≤ 256) (a : Totals) (w : Counts) (all : a ≡ totals_of (view s).statements) (one : w ≡ counted form) where
      fits : n_of (view s).statements + nodes form ≤ 256
      fits = omega (arith, in_all)

      right : (w.nodes ≡ nodes form) × ((w.valued ≡ valued_nodes form) × (weighs form w ≡ true))
      right = counted_right form w one (omega arith)

      asked : a.comparisons + s.objects * (a.valued + w.valued) ≡ k_of (view s).statements + s.objects * (v_of (view s).statements + valued_nodes form)
      asked = values_with s.objects (view s).statements form a w.valued all right.1.0

      -- no sum that is formed runs over
      pub small : (a.valued + w.valued ≤ 512) × ((s.objects * (a.valued + w.valued) ≤ 8192) × (a.comparisons ≤ 256))
      small = sums_small s.forest s.objects s.statements.items form s.held room a w s.few_objects all one

      pub crowded : 256 < a.comparisons + s.objects * (a.valued + w.valued) → state_refusal m (view s) o table ≡ Some Values
      crowded over = no_values m (view s) s.kinds o table set here form (root_is m s.kinds table t p) none fits (omega (arith, asked))

      module _ (few : a.comparisons + s.objects * (a.valued + w.valued) ≤ 256) where
        pub passed : state_refusal m (view s) o table ≡ None
        passed = accepts m (view s) s.kinds o table set here form (root_is m s.kinds table t p) none fits (omega (arith, asked))

        module _ (f : Forest) {root : ℕ} (grown : Grown (items s.forest) (items f) root form) where
          pub stored_sound : sound f s.objects (s.statements.items ++ (Stated o root w ∷ [])) ≡ true
          stored_sound =
              grown_sound s.forest f s.objects s.statements.items o w s.held grown right.0 right.1.1
              (omega (arith, values_are s.objects (view s).statements a w.valued all))

          pub stored_shown : in_force f (s.statements.items ++ (Stated o root w ∷ [])) ≡ (view s).statements ++ (stated m (view s) o table ∷ [])
          stored_shown =
              grown_shown s.forest f s.objects s.statements.items o w s.held grown
              ∙ ap (λ x. (view s).statements ++ (x ∷ [])) (sym (stated_is m (view s) s.kinds o table set here form (root_is m s.kinds table t p)))
