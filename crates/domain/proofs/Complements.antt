-- The law of complements, for tests: of values of the kind, a predicate passes exactly when its complement does not.
use Rattle.std.proofs.Common.{◌≡◌, true, not, ◌&&◌, ◌||◌, eqb, ltb, ◌⊎◌, ℤ, sym, ap, ◌∙◌, ap₂, inl, inr}
use Rattle.std.proofs.lemmas.Bool.{eq-eqb, or_left, or_right}
use Rattle.domain.specs.declared.predicate.Predicate.{Predicate}
use Rattle.domain.specs.Meaning.{Meaning, Lawful, Complementary, known, tested}

module _ (m : Meaning) where
  -- of values of the kind a known predicate passes exactly when it holds
  pub tested_holds :
      (p : Predicate) (x y : ℤ) → known m p ≡ true → m.within p.kind x ≡ true → (eqb (m.arity p) 1 || m.within p.kind y) ≡ true
      → tested m p x y ≡ m.holds p x y
  tested_holds p x y k a b =
      ap₂ ◌&&◌ k (ap₂ ◌&&◌ a (ap (λ t. t && m.holds p x y) b))

  module _ (lawful : Lawful m) (p : Predicate) (k : known m p ≡ true) where
    -- at arity 1 the second value is any, at arity 2 it is of the kind
    pub tested_turned :
        (x y : ℤ) → m.within p.kind x ≡ true → (m.arity p ≡ 1) ⊎ (m.within p.kind y ≡ true)
        → tested m (m.complement p) x y ≡ not (tested m p x y)
    tested_turned x y a b = go b
      where
        pair : Complementary m p (m.complement p)
        pair = lawful.complements p k

        known_too : known m (m.complement p) ≡ true
        known_too = ap (λ n. ltb 0 n) pair.arity ∙ k

        inside : (z : ℤ) → m.within p.kind z ≡ true → m.within (m.complement p).kind z ≡ true
        inside z e = ap (λ n. m.within n z) pair.kind ∙ e

        go : (m.arity p ≡ 1) ⊎ (m.within p.kind y ≡ true) → tested m (m.complement p) x y ≡ not (tested m p x y)
        go (inl one) =
            let one' : m.arity (m.complement p) ≡ 1 = pair.arity ∙ one in
            tested_holds (m.complement p) x y known_too (inside x a) (or_left _ _ (eq-eqb _ 1 one'))
            ∙ (lawful.alone (m.complement p) x y x one'
            ∙ (pair.turned x x a a
            ∙ ap not (lawful.alone p x x y one ∙ sym (tested_holds p x y k a (or_left _ _ (eq-eqb _ 1 one))))))
        go (inr within) =
            tested_holds (m.complement p) x y known_too (inside x a) (or_right _ _ (inside y within))
            ∙ (pair.turned x y a within ∙ ap not (sym (tested_holds p x y k a (or_right _ _ within))))
