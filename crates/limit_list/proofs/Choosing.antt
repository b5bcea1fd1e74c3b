-- A solved list has a value for each reading.
use Rattle.std.proofs.Common.{◌≡◌, ℕ, List, ◌++◌, length, take, drop, ℤ, Ok, sym, ap, ◌∙◌, subst, arith}
use Rattle.std.proofs.lemmas.List.{take_all, take_at}
use Rattle.domain.specs.declared.predicate.Outcome.{Outcome}
use Rattle.domain.specs.declared.predicate.Outcome.TheVariants.{Solved}
use Rattle.domain.specs.declared.predicate.Row.{Row}
use Rattle.domain.specs.Meaning.{Meaning}
use Rattle.domain.specs.Solving.{Chosen, Solves}

module _ (m : Meaning) (ks kinds : List ℕ) (rs rows : List Row) (old new items : List ℤ) (n : ℕ) where
  pub chosen_all :
      (o : Outcome) → o ≡ Solved → Solves m ks rs old new (Ok o) → ks ≡ kinds → rs ≡ rows → length new ≡ n → n ≡ length kinds
      → Chosen m kinds rows (take n (new ++ drop (length new) items))
  chosen_all o e s k r long each =
      let whole : take (length ks) new ≡ take n (new ++ drop (length new) items) = take_all (length ks) new (omega (arith, ap length k)) ∙ sym (take_at new (drop (length new) items) n long) in
      let solved = subst (λ x. Solves m ks rs old new (Ok x)) e s in
      subst (λ x. Chosen m x rows (take n (new ++ drop (length new) items))) k
      (subst (λ x. Chosen m ks x (take n (new ++ drop (length new) items))) r (subst (Chosen m ks rs) whole solved.1))
