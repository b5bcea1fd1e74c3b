-- What mentioning a name leaves.
use Rattle.std.proofs.Common.{◌≡◌, ℕ, ◌<◌, ◌≤◌, List, [], ◌∷◌, ◌++◌, map, length, replicate, Some, None, vec_items, sym, refl, ap, ◌∙◌, subst, ⊎_elim, arith, Bor}
use Rattle.std.proofs.lemmas.List.{map_push, length_push, replicate_more}
use Rattle.std.proofs.lemmas.Bool.{cond-true, cond-false, lt-ltb, le-ltb, cases_lt}
use lib.ListN.{length-map}
use Rattle.std.specs.List.{position}
use Rattle.std.specs.Str.{bytes_eq}
use Rattle.limit_list.specs.declared.list.LimitList.{LimitList}
use Rattle.limit_list.specs.declared.limit.Quantity.TheVariants.{Difference}
use Rattle.limit_list.specs.Adding.{Mentioned, Placed}
use Rattle.limit_list.specs.Listing.{place, mention, names_in}
use Rattle.limit_list.proofs.Places.{place_le, place_push, place_push_other, found, missing}

pub mention_known : (ns : List (List ℕ)) (x : List ℕ) → place ns x < length ns → mention ns x ≡ ns
mention_known ns x h = cond-true _ _ _ (lt-ltb _ _ h)

pub mention_new : (ns : List (List ℕ)) (x : List ℕ) → length ns ≤ place ns x → mention ns x ≡ ns ++ x ∷ []
mention_new ns x h = cond-false _ _ _ (le-ltb _ _ h)

module _ (old : LimitList) (name : Bor (List ℕ)) (p : ℕ) where
  pub already : position (λ other. bytes_eq other.now name.now) (vec_items old.names) ≡ Some p → Mentioned old name.now old p
  already h =
      let at = found (vec_items old.names) name.now p h in
      record { names = sym (mention_known (names_in old) name.now at.1); at = at.0; kinds = λ e. e; rows = refl }

  pub added_name :
      (new : LimitList)
      → position (λ other. bytes_eq other.now name.now) (vec_items old.names) ≡ None
      → p ≡ length (vec_items old.names)
      → vec_items new.names ≡ vec_items old.names ++ name ∷ []
      → vec_items new.kinds ≡ vec_items old.kinds ++ 0 ∷ []
      → vec_items new.rows ≡ vec_items old.rows
      → Mentioned old name.now new p
  added_name new none last names kinds rows =
      let more : names_in new ≡ names_in old ++ name.now ∷ [] = ap (map (λ x. x.now)) names ∙ map_push (λ x. x.now) (vec_items old.names) name in
      let at = missing (vec_items old.names) name.now none in
      record {
        names = more ∙ sym (mention_new (names_in old) name.now (omega (arith, at)));
        at = last ∙ sym (length-map (vec_items old.names) (λ x. x.now)) ∙ sym at ∙ sym (place_push (names_in old) name.now) ∙ ap (λ ns. place ns name.now) (sym more);
        kinds = λ e. kinds ∙ ap (λ ks. ks ++ 0 ∷ []) e ∙ replicate_more (length (names_in old)) 0 ∙ ap (λ n. replicate n 0) (sym (ap length more ∙ length_push (names_in old) name.now));
        rows = rows;
      }

-- a name that was mentioned keeps its place
abbrev pub Extends : List (List ℕ) → List (List ℕ) → Type 0
Extends ns ms = (y : List ℕ) → place ns y < length ns → (place ms y ≡ place ns y) × (place ms y < length ms)

pub extends_self : (ns : List (List ℕ)) → Extends ns ns
extends_self ns y h = (refl, h)

pub extends_mention : (ns : List (List ℕ)) (z : List ℕ) → Extends ns (mention ns z)
extends_mention ns z y h =
    ⊎_elim (λ k. rw (mention_known ns z k) (refl, h))
    (λ k. rw (mention_new ns z k) (let e = place_push_other ns y z h in (e, omega (arith, length_push ns z))))
    (cases_lt (place ns z) (length ns))

pub extends_more : (ns ms ks : List (List ℕ)) → Extends ns ms → Extends ms ks → Extends ns ks
extends_more ns ms ks f g y h = ((g y (f y h).1).0 ∙ (f y h).0, (g y (f y h).1).1)

pub known_here : (ns : List (List ℕ)) (x : List ℕ) → place (mention ns x) x < length (mention ns x)
known_here ns x =
    ⊎_elim (λ k. rw (mention_known ns x k) k)
    (λ k. rw (mention_new ns x k) (omega (arith, place_push ns x, place_le ns x, length_push ns x)))
    (cases_lt (place ns x) (length ns))

-- both readings of a difference are mentioned
module _ (a b d : LimitList) (x y : Bor (List ℕ)) (i j : ℕ) where
  pub placed_two :
      Mentioned a x.now b i → Mentioned b y.now d j
      → Placed a (Difference x y) d (Difference i j)
  placed_two p q =
      let here : place (names_in b) x.now < length (names_in b) = subst (λ ns. place ns x.now < length ns) (sym p.names) (known_here (names_in a) x.now) in
      record {
        names = q.names ∙ ap (λ ns. mention ns y.now) p.names;
        at = (p.at ∙ sym (extends_mention (names_in b) y.now x.now here).0 ∙ ap (λ ns. place ns x.now) (sym q.names), q.at);
        kinds = λ h. q.kinds (p.kinds h);
        rows = q.rows ∙ p.rows;
      }
