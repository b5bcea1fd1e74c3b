-- What writing a normal form into a forest asks for.
use Rattle.std.proofs.Common.{◌≡◌, ℕ, true, eqb, List, [], ◌∷◌, length, is_some, sym, ap, ◌∙◌, subst}
use Rattle.std.proofs.lemmas.Bool.{cond-true, cond-false, eq-eqb, ne_eqb}
use Rattle.concept.specs.declared.forest.Forest.{Forest}
use Rattle.concept.specs.declared.node.Chain.{Chain}
use Rattle.concept.specs.declared.normal.Normal.{Normal}
use Rattle.concept.specs.Chains.{steps, until_zero}
use Rattle.concept.specs.Concepts.{Concept}
use Rattle.concept.specs.Concepts.Concept.{all, lacks}
use Rattle.concept.specs.Forests.{roots, rooted, children, Grown}
use Rattle.concept.specs.Held.{items}
use Rattle.concept.specs.Normal.{undefined}
use Rattle.concept.specs.Terms.{Forms}
use Rattle.concept.proofs.Trees.{one_fits, two_fit}

ordered : (f : Forest) → is_some (roots (items f)) ≡ true
ordered f = f.ordered

-- a node finds its children among the newest roots: one tree, or two
pub takes_tree : {mid : List Normal} {l : ℕ} {c : Concept} (f : Forest) (n : Normal) → Grown (items f) mid l c → children n ≡ (l ∷ []) → is_some (rooted (length mid) n (roots mid)) ≡ true
takes_tree {mid} f n g e = one_fits (length mid) n g e (ordered f)

pub takes_trees : {mid late : List Normal} {l r : ℕ} {c d : Concept} (f : Forest) (n : Normal) → Grown (items f) mid l c → Grown mid late r d → children n ≡ (r ∷ (l ∷ []))
    → is_some (rooted (length late) n (roots late)) ≡ true
takes_trees {mid} {late} f n g h e = two_fit (length late) n g h e (ordered f)

-- the chains of no step, of one, of two, and of three
ended : (f : ℕ) (r : List ℕ) → f ≡ 0 → until_zero (f ∷ r) ≡ []
ended f r e = cond-true (eqb f 0) [] (f ∷ until_zero r) (eq-eqb f 0 e)

going : (f : ℕ) (r : List ℕ) → (f ≡ 0 → ⊥) → until_zero (f ∷ r) ≡ f ∷ until_zero r
going f r ne = cond-false (eqb f 0) [] (f ∷ until_zero r) (ne_eqb f 0 ne)

pub undefined_none : (c : Chain) → c.first ≡ 0 → undefined (steps c) ≡ lacks 0
undefined_none c e = ap undefined (ended c.first (c.second ∷ (c.third ∷ [])) e)

pub undefined_one : (c : Chain) → (c.first ≡ 0 → ⊥) → c.second ≡ 0 → undefined (steps c) ≡ lacks c.first
undefined_one c a e =
    ap undefined (going c.first (c.second ∷ (c.third ∷ [])) a ∙ ap (λ r. c.first ∷ r) (ended c.second (c.third ∷ []) e))

pub undefined_two : (c : Chain) → (c.first ≡ 0 → ⊥) → (c.second ≡ 0 → ⊥) → c.third ≡ 0 → undefined (steps c) ≡ all c.first (lacks c.second)
undefined_two c a b e =
    ap undefined (going c.first (c.second ∷ (c.third ∷ [])) a ∙ ap (λ r. c.first ∷ r) (going c.second (c.third ∷ []) b ∙ ap (λ r. c.second ∷ r) (ended c.third [] e)))

pub undefined_three : (c : Chain) → (c.first ≡ 0 → ⊥) → (c.second ≡ 0 → ⊥) → (c.third ≡ 0 → ⊥) → undefined (steps c) ≡ all c.first (all c.second (lacks c.third))
undefined_three c a b e =
    ap undefined (going c.first (c.second ∷ (c.third ∷ [])) a ∙ ap (λ r. c.first ∷ r) (going c.second (c.third ∷ []) b ∙ ap (λ r. c.second ∷ r) (going c.third [] e)))

-- the same tree under another name
pub grown_as : {before after : List Normal} {root : ℕ} {c d : Concept} → d ≡ c → Grown before after root c → Grown before after root d
grown_as {before} {after} {root} e g = subst (Grown before after root) (sym e) g

-- the two halves of equal forms
pub plain_of : {f g : Forms} → f ≡ g → f.plain ≡ g.plain
plain_of e = ap (λ (f : Forms). f.plain) e

pub turned_of : {f g : Forms} → f ≡ g → f.turned ≡ g.turned
turned_of e = ap (λ (f : Forms). f.turned) e
