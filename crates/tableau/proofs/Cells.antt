-- To show something of every claim, show it of every active cell.
use Rattle.std.proofs.Common.{◌≡◌, ℕ, ◌<◌, ◌≤◌, true, List, subst, subst₂}
use Rattle.domain.specs.Meaning.{Meaning}
use Rattle.concept.specs.Concepts.{Concept}
use Rattle.concept.specs.Concepts.Concept.{some}
use Rattle.concept.specs.Plants.{Plant}
use Rattle.tableau.specs.Completion.{Claims, Done, Complete, Possible, Due, Settled}

module _ (k : Claims) where
  pub cells_complete :
      (m : Meaning) (a : Plant)
      → ((i : ℕ) → i < k.cells → k.active i ≡ true → (k.thing i < a.count) × Done m a k (k.concept i) (k.thing i))
      → Complete m a k
  cells_complete m a each = record {
    things = λ c x q. subst (λ (x : ℕ). x < a.count) q.thing (each q.cell q.present q.active).0;
    done = λ c x q. subst₂ (λ (c : Concept) (x : ℕ). Done m a k c x) q.concept q.thing (each q.cell q.present q.active).1;
  }

  pub cells_settled :
      (m : Meaning) (kinds : List ℕ)
      → ((i r : ℕ) (c : Concept) → i < k.cells → k.active i ≡ true → k.concept i ≡ some r c → 256 ≤ r → Possible m kinds (Due k r c (k.thing i)))
      → Settled m kinds k
  cells_settled m kinds each r c x b q =
      subst (λ (x : ℕ). Possible m kinds (Due k r c x)) q.thing (each q.cell r c q.present q.active q.concept b)
