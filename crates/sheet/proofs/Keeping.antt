-- What a sheet always holds of its stored statements, and how it is kept.
use Rattle.std.proofs.Common.{◌≡◌, ℕ, ◌+◌, ◌*◌, ◌<◌, ◌≤◌, true, eqb, leb, List, [], ◌∷◌, ◌++◌, map, length, sym, refl, ap, ◌∙◌, ap₂, mul-zero, arith}
use Rattle.std.proofs.lemmas.List.{length-map, length-take, map_push}
use Rattle.std.proofs.lemmas.List.Sums.{fold_push}
use Rattle.std.proofs.lemmas.Bool.{and_parts, and_from, eqb-true, eq-eqb, leb-true, le-leb}
use Rattle.concept.specs.declared.forest.Forest.{Forest}
use Rattle.concept.specs.Concepts.{Concept}
use Rattle.concept.specs.Forests.{trees}
use Rattle.concept.specs.Held.{items}
use Rattle.sheet.specs.declared.statement.Stored.{Stored}
use Rattle.sheet.specs.declared.statement.Stored.TheVariants.{Apart, Concept as Stated, Link, Compare}
use Rattle.sheet.specs.declared.totals.Totals.{Totals}
use Rattle.sheet.specs.Layout.{shown, in_force, length_after, laid_one, laid, total_length, sound}
use Rattle.sheet.specs.Statements.{comparisons_of, others_of, v_of, k_of, x_of}
use Rattle.sheet.specs.Totals.{Small, totals_of, nothing, weight_of, plus, tally}
use Rattle.sheet.proofs.Laying.{total_sum, total_push, laid_push}
use Rattle.sheet.proofs.Summing.{tally_none, tally_nodes, tally_valued, tally_others, n_right, v_right, k_right, x_right, r_right, few_statements, sum_valued}

-- the parts of soundness, by the stored counts
pub record Sound (f : Forest) (m : ℕ) (xs : List Stored) : Type 0 where
  pub planted : laid (trees (items f)) 0 xs ≡ true
  pub filled : total_length 0 xs ≡ length (items f)
  pub others : (tally xs).others ≤ 64
  pub values : (tally xs).comparisons + m * (tally xs).valued ≤ 256

pub few_items : (f : Forest) → length (items f) ≤ 256
few_items f = omega (arith, length-take f.len f.nodes, f.few)

pub length_in_force : (f : Forest) (xs : List Stored) → length (in_force f xs) ≡ length xs
unfolding in_force
length_in_force f xs = length-map xs (shown (trees (items f)))

abbrev five : ℕ → ℕ → ℕ → ℕ → ℕ → Totals
five n v k x r = record { nodes = n; valued = v; comparisons = k; others = x; depth = r }

same_five : {n n' v v' k k' x x' r r' : ℕ} → n ≡ n' → v ≡ v' → k ≡ k' → x ≡ x' → r ≡ r' → five n v k x r ≡ five n' v' k' x' r'
same_five {n} {n'} {v} {v'} {k} {k'} {x} {x'} {r} {r'} a b c d e =
    ap₂ (λ p q. five p q k x r) a b ∙ (ap₂ (λ p q. five n' v' p q r) c d ∙ ap (five n' v' k' x') e)

module _ (f : Forest) (xs : List Stored) (e : laid (trees (items f)) 0 xs ≡ true) where
  totals_planted : totals_of (in_force f xs) ≡ tally xs
  unfolding in_force
  totals_planted =
      let ts = trees (items f) in
      same_five (n_right ts xs e) (v_right ts xs e) (k_right ts xs e) (x_right ts xs e) (r_right ts xs e)

module _ (f : Forest) (m : ℕ) (xs : List Stored) where
  pub sound_parts : sound f m xs ≡ true → Sound f m xs
  unfolding sound
  sound_parts e =
      let p = and_parts (laid (trees (items f)) 0 xs) _ e in
      let q = and_parts (eqb (total_length 0 xs) (length (items f))) _ p.1 in
      let r = and_parts (leb (x_of (in_force f xs)) 64) _ q.1 in
      let t = totals_planted f xs p.0 in
      record {
        planted = p.0;
        filled = eqb-true (total_length 0 xs) (length (items f)) q.0;
        others = let h : x_of (in_force f xs) ≤ 64 = leb-true _ 64 r.0 in omega (arith, ap (λ (a : Totals). a.others) t);
        values =
            let h : k_of (in_force f xs) + m * v_of (in_force f xs) ≤ 256 = leb-true _ 256 r.1 in
            rw (sym (ap (λ (a : Totals). a.comparisons) t), sym (ap (λ (a : Totals). a.valued) t)) h;
      }

  pub sound_from : Sound f m xs → sound f m xs ≡ true
  unfolding sound
  sound_from s =
      let t = totals_planted f xs s.planted in
      let x : x_of (in_force f xs) ≤ 64 = omega (arith, s.others, ap (λ (a : Totals). a.others) t) in
      let k : k_of (in_force f xs) + m * v_of (in_force f xs) ≤ 256 =
      rw (ap (λ (a : Totals). a.comparisons) t, ap (λ (a : Totals). a.valued) t) s.values in
      and_from (laid (trees (items f)) 0 xs) _ s.planted
      (and_from (eqb (total_length 0 xs) (length (items f))) _ (eq-eqb _ _ s.filled)
      (and_from (leb (x_of (in_force f xs)) 64) _ (le-leb _ 64 x) (le-leb _ 256 k)))

  module _ (e : sound f m xs ≡ true) where
    pub totals_right : totals_of (in_force f xs) ≡ tally xs
    totals_right = totals_planted f xs (sound_parts e).planted

    pub all_nodes : (tally xs).nodes ≡ length (items f)
    all_nodes = omega (arith, tally_nodes xs, total_sum 0 xs, (sound_parts e).filled)

    -- sums of totals stay small
    pub few_nodes : (tally xs).nodes ≤ 256
    few_nodes = omega (arith, all_nodes, few_items f)

    pub few_valued : (tally xs).valued ≤ 256
    few_valued = omega (arith, few_nodes, tally_nodes xs, tally_valued xs, sum_valued (trees (items f)) 0 xs (sound_parts e).planted)

    pub few_comparisons : (tally xs).comparisons ≤ 256
    few_comparisons = omega (arith, (sound_parts e).values)

    pub few_others : (tally xs).others ≤ 64
    few_others = (sound_parts e).others

    pub all_small : Small (tally xs)
    all_small =
        (omega (arith, few_nodes), (omega (arith, few_valued), (omega (arith, few_comparisons), omega (arith, few_others))))

    -- and so does their number
    pub few_stored : length xs ≤ length (items f) + (tally xs).others
    few_stored = omega (arith, few_statements (trees (items f)) 0 xs (sound_parts e).planted, (sound_parts e).filled, tally_others xs)

pub tally_push : (xs : List Stored) (s : Stored) → tally (xs ++ (s ∷ [])) ≡ plus (tally xs) (weight_of s)
unfolding tally
tally_push xs s = fold_push (λ t x. plus t (weight_of x)) nothing xs s

-- a stored statement that is no concept
record Other (ts : List Concept) (n : ℕ) (s : Stored) : Type 0 where
  same : shown ts s ≡ shown [] s
  lies : laid_one ts n s ≡ true
  after : length_after n s ≡ n
  one : (weight_of s).others ≡ 1
  plain : (weight_of s).valued ≡ 0
  compared : (weight_of s).comparisons ≡ comparisons_of (shown [] s)

other : (ts : List Concept) (n : ℕ) (s : Stored) → others_of (shown [] s) ≡ 1 → Other ts n s
other ts n (Apart o q) e = record { same = refl; lies = refl; after = refl; one = refl; plain = refl; compared = refl }
other ts n (Stated o root w) e = absurd (omega arith)
other ts n (Link o r q) e = record { same = refl; lies = refl; after = refl; one = refl; plain = refl; compared = refl }
other ts n (Compare p a b) e = record { same = refl; lies = refl; after = refl; one = refl; plain = refl; compared = refl }

module _ (f : Forest) (m : ℕ) (xs : List Stored) (s : Stored) (o : others_of (shown [] s) ≡ 1) where
  pub other_shown : in_force f (xs ++ (s ∷ [])) ≡ in_force f xs ++ (shown [] s ∷ [])
  unfolding in_force
  other_shown =
      map_push (shown (trees (items f))) xs s ∙ ap (λ x. map (shown (trees (items f))) xs ++ (x ∷ [])) (other (trees (items f)) 0 s o).same

  pub other_sound :
      sound f m xs ≡ true → x_of (in_force f xs) < 64 → k_of (in_force f xs) + comparisons_of (shown [] s) + m * v_of (in_force f xs) ≤ 256
      → sound f m (xs ++ (s ∷ [])) ≡ true
  other_sound e room values =
      let h = sound_parts f m xs e in
      let is = other (trees (items f)) (total_length 0 xs) s o in
      let t = totals_right f m xs e in
      let more = tally_push xs s in
      let x = ap (λ (a : Totals). a.others) t in
      let k = ap (λ (a : Totals). a.comparisons) t in
      let v = ap (λ (a : Totals). a.valued) t in
      let v' : (tally (xs ++ (s ∷ []))).valued ≡ v_of (in_force f xs) = omega (arith, ap (λ (a : Totals). a.valued) more, is.plain, v) in
      let k' : (tally (xs ++ (s ∷ []))).comparisons ≡ k_of (in_force f xs) + comparisons_of (shown [] s) = omega (arith, ap (λ (a : Totals). a.comparisons) more, is.compared, k) in
      sound_from f m (xs ++ (s ∷ []))
      record {
        planted = laid_push (trees (items f)) 0 xs s h.planted is.lies;
        filled = total_push 0 xs s ∙ (is.after ∙ h.filled);
        others = omega (arith, ap (λ (a : Totals). a.others) more, is.one, x);
        values = rw (v', k') values;
      }

-- nothing is stored
pub none_in_force : (f : Forest) → in_force f [] ≡ []
unfolding in_force
none_in_force f = refl

pub none_sound : (f : Forest) (m : ℕ) → length (items f) ≡ 0 → sound f m [] ≡ true
none_sound f m e =
    sound_from f m []
    record {
      planted = refl;
      filled = sym e;
      others = omega (arith, ap (λ (a : Totals). a.others) tally_none);
      values =
          rw (ap (λ (a : Totals). a.comparisons) tally_none, ap (λ (a : Totals). a.valued) tally_none)
          (omega (arith, mul-zero m));
    }

-- where fewer than 64 are no concepts, there is room for one more
pub room_for_other : (f : Forest) (m : ℕ) (xs : List Stored) → sound f m xs ≡ true → x_of (in_force f xs) < 64 → length xs < 320
room_for_other f m xs e room =
    omega (arith, few_stored f m xs e, few_items f, ap (λ (a : Totals). a.others) (totals_right f m xs e))

pub values_kept : (f : Forest) (m : ℕ) (xs : List Stored) → sound f m xs ≡ true → k_of (in_force f xs) + m * v_of (in_force f xs) ≤ 256
values_kept f m xs e =
    let t = totals_right f m xs e in
    rw (ap (λ (a : Totals). a.comparisons) t, ap (λ (a : Totals). a.valued) t) (sound_parts f m xs e).values

-- before setting up nothing is stored, so any number of objects will do
pub unstated_sound : (f : Forest) (m m' : ℕ) (xs : List Stored) → length xs ≡ 0 → sound f m xs ≡ true → sound f m' xs ≡ true
unstated_sound f m m' [] e h = none_sound f m' (sym (sound_parts f m [] h).filled)
unstated_sound f m m' (x ∷ xs) e h = absurd (omega arith)

pub values_small : (f : Forest) (m : ℕ) (xs : List Stored) (t : Totals) → sound f m xs ≡ true → t ≡ totals_of (in_force f xs) → t.comparisons + m * t.valued ≤ 256
values_small f m xs t e is = rw is (values_kept f m xs e)
