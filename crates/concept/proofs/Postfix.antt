-- Postfix order: a table whose every node takes the newest roots for its children is a forest.
use Rattle.std.proofs.Common.{◌≡◌, ℕ, ◌+◌, ◌<◌, ◌≤◌, true, false, cond, eqb, ltb, ◌⊎◌, List, [], ◌∷◌, ◌++◌, length, take, drop, is_some as option_is_some, Some, None, Option, sym, refl, ap, ◌∙◌, inl, inr, arith}
use Rattle.std.proofs.lemmas.List.{take-append-drop}
use Rattle.std.proofs.lemmas.Bool.{cases_Bool, and_parts, and_from, eqb-true, ltb-true, lt-ltb, cond-true, cond-false}
use Rattle.std.proofs.lemmas.Bool.Decides.{nat_tests}
use Rattle.concept.specs.declared.normal.Normal.{Normal}
use Rattle.concept.specs.Forests.{children, taken, onto, rooted, roots_after, roots, occurrences, parents, each_below, children_lower}

-- 1 for the places below n, 0 for the others
abbrev pub below : ℕ → ℕ → ℕ
below n c = cond (ltb c n) 1 0

below_more : (n c : ℕ) → below n c + cond (eqb c n) 1 0 ≡ below (n + 1) c
below_more n c = grind (arith, nat_tests)

none_some : {A : Type 0} (P : Type 0) (x : A) → None ≡ Some x → P
none_some P x e = let z : ◌≡◌ {A = ℕ} 0 1 = cc in absurd (omega arith)

both_taken : (a r : ℕ) (cs rs rest : List ℕ) → taken (a ∷ cs) (r ∷ rs) ≡ Some rest → (a ≡ r) × (taken cs rs ≡ Some rest)
both_taken a r cs rs rest e = go (cases_Bool (eqb a r))
  where
    go : (eqb a r ≡ true) ⊎ (eqb a r ≡ false) → (a ≡ r) × (taken cs rs ≡ Some rest)
    go (inl t) = (eqb-true a r t, sym (cond-true (eqb a r) (taken cs rs) None t) ∙ e)
    go (inr f) = none_some _ rest (sym (cond-false (eqb a r) (taken cs rs) None f) ∙ e)

-- what is taken off the front was there
taken_count : (c : ℕ) (cs rs rest : List ℕ) → taken cs rs ≡ Some rest → occurrences c rs ≡ occurrences c cs + occurrences c rest
taken_count c [] rs rest e = let same : rs ≡ rest = cc in ap (occurrences c) same ∙ omega arith
taken_count c (a ∷ cs) [] rest e = none_some _ rest e
taken_count c (a ∷ cs) (r ∷ rs) rest e =
    let p = both_taken a r cs rs rest e in
    let later = taken_count c cs rs rest p.1 in
    let once : ℕ → ℕ = λ k. cond (eqb c k) 1 0 in
    let same : once a ≡ once r = ap once p.0 in omega arith

taken_below : (i : ℕ) (cs rs rest : List ℕ) → taken cs rs ≡ Some rest → each_below i rs ≡ true → (each_below i cs ≡ true) × (each_below i rest ≡ true)
taken_below i [] rs rest e h = let same : rs ≡ rest = cc in (refl, ap (each_below i) (sym same) ∙ h)
taken_below i (a ∷ cs) [] rest e h = none_some _ rest e
taken_below i (a ∷ cs) (r ∷ rs) rest e h =
    let p = both_taken a r cs rs rest e in
    let q = and_parts (ltb r i) (each_below i rs) h in
    let later = taken_below i cs rs rest p.1 q.1 in
    (and_from (ltb a i) (each_below i cs) (ap (λ k. ltb k i) p.0 ∙ q.0) later.0, later.1)

below_later : (i : ℕ) (cs : List ℕ) → each_below i cs ≡ true → each_below (i + 1) cs ≡ true
below_later i [] h = refl
below_later i (c ∷ cs) h =
    let p = and_parts (ltb c i) (each_below i cs) h in
    let lt : c < i = ltb-true c i p.0 in
    and_from (ltb c (i + 1)) (each_below (i + 1) cs) (lt-ltb c (i + 1) (omega arith)) (below_later i cs p.1)

never_rooted : (i : ℕ) (items : List Normal) (out : List ℕ) → roots_after None i items ≡ Some out → ⊥
never_rooted i [] out e = none_some ⊥ out e
never_rooted i (n ∷ ns) out e = never_rooted (i + 1) ns out e

-- where all items are rooted, the first was, and took its children
first_taken : (i : ℕ) (n : Normal) (ns : List Normal) (rs out : List ℕ) → roots_after (Some rs) i (n ∷ ns) ≡ Some out
    → (rest : List ℕ) × (taken (children n) rs ≡ Some rest) × (roots_after (Some (i ∷ rest)) (i + 1) ns ≡ Some out)
first_taken i n ns rs out e = go (taken (children n) rs) refl
  where
    go : (o : Option (List ℕ)) → taken (children n) rs ≡ o → (rest : List ℕ) × (taken (children n) rs ≡ Some rest) × (roots_after (Some (i ∷ rest)) (i + 1) ns ≡ Some out)
    go None t = absurd (never_rooted (i + 1) ns out (sym (ap (λ o. roots_after (onto i o) (i + 1) ns) t) ∙ e))
    go (Some rest) t = (rest, t, sym (ap (λ o. roots_after (onto i o) (i + 1) ns) t) ∙ e)

-- each place below the end is a child once or is a root once, whatever the places before i are
counted_from : (c i : ℕ) (items : List Normal) (rs out : List ℕ) (before : ℕ) → before + occurrences c rs ≡ below i c → roots_after (Some rs) i items ≡ Some out
    → (before + parents items c) + occurrences c out ≡ below (i + length items) c
counted_from c i [] rs out before h e =
    let same : rs ≡ out = cc in
    let z : occurrences c rs ≡ occurrences c out = ap (occurrences c) same in
    let n : below (i + 0) c ≡ below i c = ap (λ k. below k c) (omega arith) in omega arith
counted_from c i (n ∷ ns) rs out before h e =
    let f = first_taken i n ns rs out e in
    let t = taken_count c (children n) rs f.0 f.1 in
    let m = below_more i c in
    let start : (before + occurrences c (children n)) + occurrences c (i ∷ f.0) ≡ below (i + 1) c = omega arith in
    let rec = counted_from c (i + 1) ns (i ∷ f.0) out (before + occurrences c (children n)) start f.2 in
    let last : below ((i + 1) + length ns) c ≡ below (i + length (n ∷ ns)) c = ap (λ k. below k c) (omega arith) in omega arith

lower_from : (i : ℕ) (items : List Normal) (rs out : List ℕ) → each_below i rs ≡ true → roots_after (Some rs) i items ≡ Some out → children_lower i items ≡ true
lower_from i [] rs out h e = refl
lower_from i (n ∷ ns) rs out h e =
    let f = first_taken i n ns rs out e in
    let t = taken_below i (children n) rs f.0 f.1 h in
    let new : each_below (i + 1) (i ∷ f.0) ≡ true = and_from (ltb i (i + 1)) (each_below (i + 1) f.0) (lt-ltb i (i + 1) (omega arith)) (below_later i f.0 t.1) in
    and_from (each_below i (children n)) (children_lower (i + 1) ns) t.0 (lower_from (i + 1) ns (i ∷ f.0) out new f.2)

is_some : {A : Type 0} (o : Option A) → option_is_some o ≡ true → (x : A) × (o ≡ Some x)
is_some None e = let z : ◌≡◌ {A = ℕ} 0 1 = cc in absurd (omega arith)
is_some (Some x) e = (x, refl)

module _ (items : List Normal) (rs : List ℕ) (e : roots items ≡ Some rs) where
  -- every place is a child once or a root once
  pub counted : (c : ℕ) → parents items c + occurrences c rs ≡ below (length items) c
  counted c =
      let start : 0 + 0 ≡ below 0 c = grind (arith, nat_tests) in
      let n : below (0 + length items) c ≡ below (length items) c = ap (λ k. below k c) (omega arith) in
      let h = counted_from c 0 items [] rs 0 start e in omega arith

  pub lower : children_lower 0 items ≡ true
  lower = lower_from 0 items [] rs refl e

  pub single : (c : ℕ) → parents items c ≤ 1
  single c = let h = counted c in let le : below (length items) c ≤ 1 = grind (arith, nat_tests) in omega arith

-- one node more, and fewer nodes
roots_append : (o : Option (List ℕ)) (i : ℕ) (xs ys : List Normal) → roots_after o i (xs ++ ys) ≡ roots_after (roots_after o i xs) (i + length xs) ys
roots_append o i [] ys = ap (λ k. roots_after o k ys) (omega arith)
roots_append o i (x ∷ xs) ys =
    roots_append (rooted i x o) (i + 1) xs ys ∙ ap (λ k. roots_after (roots_after (rooted i x o) (i + 1) xs) k ys) (omega arith)

pub roots_push : (items : List Normal) (n : Normal) → roots (items ++ (n ∷ [])) ≡ rooted (length items) n (roots items)
roots_push items n = roots_append (Some []) 0 items (n ∷ []) ∙ ap (λ k. rooted k n (roots items)) (omega arith)

pub roots_front : (k : ℕ) (items : List Normal) → option_is_some (roots items) ≡ true → option_is_some (roots (take k items)) ≡ true
roots_front k items h = go (roots (take k items)) refl
  where
    go : (o : Option (List ℕ)) → roots (take k items) ≡ o → option_is_some o ≡ true
    go (Some x) e = refl
    go None e =
        let p = is_some (roots items) h in
        let split = roots_append (Some []) 0 (take k items) (drop k items) in
        let whole : roots (take k items ++ drop k items) ≡ Some p.0 = ap roots (take-append-drop k items) ∙ p.1 in
        absurd (never_rooted (0 + length (take k items)) (drop k items) p.0 (sym (ap (λ o. roots_after o (0 + length (take k items)) (drop k items)) e) ∙ (sym split ∙ whole)))

-- what a forest's ghost fields ask
pub ordered_lower : (items : List Normal) → option_is_some (roots items) ≡ true → children_lower 0 items ≡ true
ordered_lower items h = let p = is_some (roots items) h in lower items p.0 p.1

pub ordered_single : (items : List Normal) → option_is_some (roots items) ≡ true → (c : ℕ) → parents items c ≤ 1
ordered_single items h = let p = is_some (roots items) h in single items p.0 p.1
