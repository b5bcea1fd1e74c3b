-- The place of a name among names, and how it stays when names are added.
use Rattle.std.proofs.Common.{◌≡◌, ℕ, ◌+◌, ◌<◌, ◌≤◌, true, cond, not, List, [], ◌∷◌, ◌++◌, map, length, Some, None, refl, ap, arith, Bor}
use lib.ListN.{length-map}
use Rattle.std.specs.List.{position, position_or_len}
use Rattle.std.proofs.lemmas.List.Folds.{position_or_len_push}
use Rattle.std.proofs.lemmas.List.Sums.{prefix_len-le-length}
use Rattle.std.proofs.lemmas.Slice.Eq.{bytes_eq-Decides}
use Rattle.std.specs.Str.{bytes_eq}
use Rattle.limit_list.specs.Listing.{place}

same_self : (x : List ℕ) → bytes_eq x x ≡ true
same_self x = (bytes_eq-Decides x x).1 refl

pub place_le : (ns : List (List ℕ)) (x : List ℕ) → place ns x ≤ length ns
place_le ns x = prefix_len-le-length (λ n. not (bytes_eq n x)) ns

pub place_push : (ns : List (List ℕ)) (x : List ℕ) → place (ns ++ x ∷ []) x ≡ place ns x
place_push ns x = grind (arith, position_or_len_push (λ n. bytes_eq n x) ns x, same_self x)

pub place_push_other : (ns : List (List ℕ)) (y z : List ℕ) → place ns y < length ns → place (ns ++ z ∷ []) y ≡ place ns y
place_push_other ns y z h = grind (arith, position_or_len_push (λ n. bytes_eq n y) ns z)

-- the place among the spelt names, told among the names
place_spelt : (ns : List (Bor (List ℕ))) (x : List ℕ) → place (map (λ n. n.now) ns) x ≡ position_or_len (λ n. bytes_eq n.now x) ns
place_spelt [] x = refl
place_spelt (n ∷ ns) x = ap (λ k. cond (not (bytes_eq n.now x)) (1 + k) 0) (place_spelt ns x)

pub found :
    (ns : List (Bor (List ℕ))) (x : List ℕ) (i : ℕ) → position (λ n. bytes_eq n.now x) ns ≡ Some i
    → (i ≡ place (map (λ n. n.now) ns) x) × (place (map (λ n. n.now) ns) x < length (map (λ n. n.now) ns))
found ns x i h =
    let e = place_spelt ns x in
    let l = length-map ns (λ n. n.now) in
    grind (arith)

pub missing :
    (ns : List (Bor (List ℕ))) (x : List ℕ) → position (λ n. bytes_eq n.now x) ns ≡ None
    → place (map (λ n. n.now) ns) x ≡ length (map (λ n. n.now) ns)
missing ns x h =
    let e = place_spelt ns x in
    let l = length-map ns (λ n. n.now) in
    let k = place_le (map (λ n. n.now) ns) x in
    grind (arith)
