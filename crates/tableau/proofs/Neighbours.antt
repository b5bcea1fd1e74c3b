-- What some and all say of the neighbours of a thing.
use Rattle.std.proofs.Common.{◌≡◌, ℕ, ◌<◌, ◌≤◌, Bool, true, false, not, ◌&&◌, ◌||◌, ltb, Some, None, Decides, Option, refl, ap, arith}
use Rattle.std.proofs.lemmas.Bool.{cond-true, cond-false, lt-ltb, le-ltb, eqb-true}
use Rattle.std.proofs.lemmas.Bool.Decides.{Decides-below_and, Decides-below_or, Decides-and}
use Rattle.domain.specs.Meaning.{Meaning}
use Rattle.concept.specs.Concepts.{Concept}
use Rattle.concept.specs.Concepts.Concept.{some, all}
use Rattle.concept.specs.Plants.{Plant, any_below, all_below, leads_to, related, inside}

decides_itself : (b : Bool) → Decides b (b ≡ true)
decides_itself b = ((λ e. e), (λ e. e))

decides_implied : (a b : Bool) → Decides (not a || b) (a ≡ true → b ≡ true)
decides_implied true true = ((λ e h. refl), (λ h. refl))
decides_implied true false = ((λ e h. e), (λ h. h refl))
decides_implied false true = ((λ e h. refl), (λ h. refl))
decides_implied false false = ((λ e h. h), (λ h. refl))

module _ (m : Meaning) (p : Plant) (r : ℕ) (c : Concept) (x : ℕ) where
  pub decides_some : Decides (inside m p (some r c) x) ((y : ℕ) × (y < p.count) × ((related p r x y ≡ true) × (inside m p c y ≡ true)))
  decides_some =
      Decides-below_or (λ y. related p r x y && inside m p c y) (λ y. (related p r x y ≡ true) × (inside m p c y ≡ true))
      (any_below (λ y. related p r x y && inside m p c y))
      (λ y. Decides-and (related p r x y) (inside m p c y) (decides_itself (related p r x y)) (decides_itself (inside m p c y)))
      refl (λ n. refl) p.count

  pub decides_all : Decides (inside m p (all r c) x) ((y : ℕ) → y < p.count → related p r x y ≡ true → inside m p c y ≡ true)
  decides_all =
      Decides-below_and (λ y. not (related p r x y) || inside m p c y) (λ y. related p r x y ≡ true → inside m p c y ≡ true)
      (all_below (λ y. not (related p r x y) || inside m p c y))
      (λ y. decides_implied (related p r x y) (inside m p c y))
      refl (λ n. refl) p.count

module _ (p : Plant) (r x y : ℕ) where
  pub by_link : r < 256 → related p r x y ≡ leads_to (p.linked r x) y
  by_link h = cond-true (ltb r 256) (leads_to (p.linked r x) y) (p.joined r x y) (lt-ltb r 256 h)

  pub by_role : 256 ≤ r → related p r x y ≡ p.joined r x y
  by_role h = cond-false (ltb r 256) (leads_to (p.linked r x) y) (p.joined r x y) (le-ltb r 256 h)

pub leads : (o : Option ℕ) (y : ℕ) → leads_to o y ≡ true → o ≡ Some y
leads None y e = let z : ◌≡◌ {A = ℕ} 0 1 = cc in absurd (omega arith)
leads (Some z) y e = ap Some (eqb-true z y e)
