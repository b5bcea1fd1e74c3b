-- Trees added to a forest: a leaf, a node over one tree, a node over two.
use Rattle.std.proofs.Common.{◌≡◌, ℕ, ◌+◌, ◌<◌, ◌≤◌, true, eqb, List, [], ◌∷◌, length, take, is_some, Some, None, Option, sym, refl, ap, ◌∙◌, ap₂, arith}
use Rattle.std.proofs.lemmas.List.{length_push, get_or_push, take-append-le, take_all, take-take}
use Rattle.std.proofs.lemmas.Bool.{cond-true, eq-eqb}
use Rattle.concept.specs.declared.normal.Normal.{Normal}
use Rattle.concept.specs.declared.normal.Normal.TheVariants.{Atom, NotAtom, And, Or, Exists, Forall, Has, Lacks, Holds, Meets, Parts}
use Rattle.concept.specs.Concepts.{Concept}
use Rattle.concept.specs.Concepts.Concept.{atom, neg, conj, disj, some, all, has, lacks, holds, meets, parts}
use Rattle.concept.specs.Chains.{steps}
use Rattle.concept.specs.Forests.{tree_at, tree, trees, children, taken, onto, rooted, roots, Pushed, Grown}
use Rattle.concept.specs.Normal.{nodes}
use Rattle.concept.proofs.Growing.{grow_push, grow_below, length_grow}
use Rattle.concept.proofs.Postfix.{roots_push}

same_taken : (l : ℕ) (cs rs : List ℕ) → taken (l ∷ cs) (l ∷ rs) ≡ taken cs rs
same_taken l cs rs = cond-true (eqb l l) (taken cs rs) None (eq-eqb l l refl)

-- a node takes the newest roots off
takes_none : (i : ℕ) (n : Normal) (o : Option (List ℕ)) → children n ≡ [] → rooted i n o ≡ onto i o
takes_none i n None e = refl
takes_none i n (Some rs) e = ap (λ cs. onto i (taken cs rs)) e

takes_one : (i l : ℕ) (n : Normal) (o : Option (List ℕ)) → children n ≡ (l ∷ []) → rooted i n (onto l o) ≡ onto i o
takes_one i l n None e = refl
takes_one i l n (Some rs) e = ap (λ cs. onto i (taken cs (l ∷ rs))) e ∙ ap (onto i) (same_taken l [] rs)

takes_two : (i l r : ℕ) (n : Normal) (o : Option (List ℕ)) → children n ≡ (r ∷ (l ∷ [])) → rooted i n (onto r (onto l o)) ≡ onto i o
takes_two i l r n None e = refl
takes_two i l r n (Some rs) e =
    ap (λ cs. onto i (taken cs (r ∷ (l ∷ rs)))) e ∙ ap (onto i) (same_taken r (l ∷ []) (l ∷ rs) ∙ same_taken l [] rs)

is_onto : (i : ℕ) (o : Option (List ℕ)) → is_some o ≡ true → is_some (onto i o) ≡ true
is_onto i (Some rs) e = refl
is_onto i None e = e

-- the tree at the last place after a push
pushed_tree : {before after : List Normal} {place : ℕ} {n : Normal} → Pushed before after place n → tree_at (trees after) place ≡ tree (trees before) n
pushed_tree {before} {after} {place} {n} p =
    ap (λ l. tree_at (trees l) place) p.longer ∙ (ap (λ l. tree_at l place) (grow_push tree [] before n)
    ∙ get_or_push (trees before) (tree (trees before) n) (atom 0) place (length_grow tree [] before ∙ omega (arith, p.last)))

pushed_length : {before after : List Normal} {place : ℕ} {n : Normal} → Pushed before after place n → length after ≡ length before + 1
pushed_length {before} {after} {place} {n} p = ap length p.longer ∙ length_push before n

pushed_roots : {before after : List Normal} {place : ℕ} {n : Normal} → Pushed before after place n → roots after ≡ rooted place n (roots before)
pushed_roots {before} {after} {place} {n} p =
    ap roots p.longer ∙ (roots_push before n ∙ ap (λ k. rooted k n (roots before)) (sym p.last))

-- an earlier place stands for what it stood for
module _ {before after : List Normal} {root : ℕ} {c : Concept} (g : Grown before after root c) where
  pub grown_at : (i : ℕ) → i < length before → tree_at (trees after) i ≡ tree_at (trees before) i
  grown_at i h =
      sym (grow_below tree after i (length before) (atom 0) h (omega (arith, g.longer))) ∙ ap (λ l. tree_at (trees l) i) g.kept

module _ {before after : List Normal} {root : ℕ} {n : Normal} (c : Concept) where
  -- a leaf
  pub leaf_grown : children n ≡ [] → tree (trees before) n ≡ c → nodes c ≡ 1 → Pushed before after root n → Grown before after root c
  leaf_grown e t one p = record {
    kept = ap (take (length before)) p.longer ∙ (take-append-le (length before) before (n ∷ []) (omega arith) ∙ take_all (length before) before (omega arith));
    longer = pushed_length p ∙ omega arith;
    last = omega (arith, pushed_length p, p.last);
    stands = pushed_tree p ∙ t;
    newest = pushed_roots p ∙ takes_none root n (roots before) e;
  }

module _ {before mid after : List Normal} {l root : ℕ} {n : Normal} {c : Concept} (d : Concept) where
  -- a node over one tree
  pub over_one : Grown before mid l c → children n ≡ (l ∷ []) → tree (trees mid) n ≡ d → nodes d ≡ 1 + nodes c → Pushed mid after root n → Grown before after root d
  over_one g e t more p =
      let le : length before ≤ length mid = omega (arith, g.longer) in
      record {
        kept = ap (take (length before)) p.longer ∙ (take-append-le (length before) mid (n ∷ []) le ∙ g.kept);
        longer = omega (arith, pushed_length p, g.longer);
        last = omega (arith, pushed_length p, p.last);
        stands = pushed_tree p ∙ t;
        newest = pushed_roots p ∙ (ap (rooted root n) g.newest ∙ takes_one root l n (roots before) e);
      }

module _ {before mid late after : List Normal} {l r root : ℕ} {n : Normal} {c d : Concept} (e : Concept) where
  -- a node over two trees
  pub over_two : Grown before mid l c → Grown mid late r d → children n ≡ (r ∷ (l ∷ [])) → tree (trees late) n ≡ e → nodes e ≡ 1 + (nodes c + nodes d) → Pushed late after root n
      → Grown before after root e
  over_two g h cs t more p =
      let le : length before ≤ length late = omega (arith, g.longer, h.longer) in
      let le' : length before ≤ length mid = omega (arith, g.longer) in
      record {
        kept = ap (take (length before)) p.longer ∙ (take-append-le (length before) late (n ∷ []) le ∙ (sym (take-take (length before) (length mid) late le') ∙ (ap (take (length before)) h.kept ∙ g.kept)));
        longer = omega (arith, pushed_length p, g.longer, h.longer);
        last = omega (arith, pushed_length p, p.last);
        stands = pushed_tree p ∙ t;
        newest = pushed_roots p ∙ (ap (rooted root n) (h.newest ∙ ap (onto r) g.newest) ∙ takes_two root l r n (roots before) cs);
      }

-- a leaf that reads no place
pub leaf_as : {before after : List Normal} {root : ℕ} (n : Normal) → children n ≡ [] → Pushed before after root n → Grown before after root (tree [] n)
leaf_as (Atom n) e p = leaf_grown (atom n) refl refl refl p
leaf_as (NotAtom n) e p = leaf_grown (neg (atom n)) refl refl refl p
leaf_as (And l r) e p = let z : ◌≡◌ {A = ℕ} 0 1 = cc in absurd (omega arith)
leaf_as (Or l r) e p = let z : ◌≡◌ {A = ℕ} 0 1 = cc in absurd (omega arith)
leaf_as (Exists r l) e p = let z : ◌≡◌ {A = ℕ} 0 1 = cc in absurd (omega arith)
leaf_as (Forall r l) e p = let z : ◌≡◌ {A = ℕ} 0 1 = cc in absurd (omega arith)
leaf_as (Has f) e p = leaf_grown (has f) refl refl refl p
leaf_as (Lacks f) e p = leaf_grown (lacks f) refl refl refl p
leaf_as (Holds k u v) e p = leaf_grown (holds k (steps u) (steps v)) refl refl refl p
leaf_as (Meets u v) e p = leaf_grown (meets (steps u) (steps v)) refl refl refl p
leaf_as (Parts u v) e p = leaf_grown (parts (steps u) (steps v)) refl refl refl p

-- the four nodes over trees
module _ {before mid after : List Normal} {l root : ℕ} {c : Concept} (r : ℕ) (g : Grown before mid l c) where
  pub some_grown : Pushed mid after root (Exists r l) → Grown before after root (some r c)
  some_grown p = over_one (some r c) g refl (ap (some r) g.stands) refl p

  pub all_grown : Pushed mid after root (Forall r l) → Grown before after root (all r c)
  all_grown p = over_one (all r c) g refl (ap (all r) g.stands) refl p

module _ {before mid late : List Normal} {l r : ℕ} {c d : Concept} (g : Grown before mid l c) (h : Grown mid late r d) where
  first_still : tree_at (trees late) l ≡ c
  first_still = grown_at h l (omega (arith, g.last)) ∙ g.stands

  pub conj_grown : {after : List Normal} {root : ℕ} → Pushed late after root (And l r) → Grown before after root (conj c d)
  conj_grown p = over_two (conj c d) g h refl (ap₂ conj first_still h.stands) refl p

  pub disj_grown : {after : List Normal} {root : ℕ} → Pushed late after root (Or l r) → Grown before after root (disj c d)
  disj_grown p = over_two (disj c d) g h refl (ap₂ disj first_still h.stands) refl p

-- such nodes may be pushed
pub one_fits : {before mid : List Normal} {l : ℕ} {c : Concept} (i : ℕ) (n : Normal) → Grown before mid l c → children n ≡ (l ∷ []) → is_some (roots before) ≡ true
    → is_some (rooted i n (roots mid)) ≡ true
one_fits {before} {mid} {l} i n g e h =
    ap (λ o. is_some (rooted i n o)) g.newest ∙ (ap is_some (takes_one i l n (roots before) e) ∙ is_onto i (roots before) h)

pub two_fit : {before mid late : List Normal} {l r : ℕ} {c d : Concept} (i : ℕ) (n : Normal) → Grown before mid l c → Grown mid late r d → children n ≡ (r ∷ (l ∷ []))
    → is_some (roots before) ≡ true → is_some (rooted i n (roots late)) ≡ true
two_fit {before} {mid} {late} {l} {r} i n g k e h =
    ap (λ o. is_some (rooted i n o)) (k.newest ∙ ap (onto r) g.newest) ∙ (ap is_some (takes_two i l r n (roots before) e) ∙ is_onto i (roots before) h)
