-- The marks of open trials: one trial more, a front of them, and a later or an earlier top.
use Rattle.std.proofs.Common.{◌≡◌, ℕ, zero, suc, ◌<◌, ◌≤◌, true, leb, List, [], ◌∷◌, ◌++◌, length, get_or, take, arith}
use Rattle.std.proofs.lemmas.Bool.{and_parts, and_from, leb-true, le-leb}
use Rattle.sheet.specs.declared.trial.Trial.{Trial}
use Rattle.sheet.specs.Layout.{rising}

pub rising_low : (low top : ℕ) (ts : List Trial) → rising low top ts ≡ true → low ≤ top
rising_low low top [] h = leb-true low top h
rising_low low top (t ∷ ts) h =
    let p = and_parts (leb low t.mark) (rising t.mark top ts) h in
    omega (arith, leb-true low t.mark p.0, rising_low t.mark top ts p.1)

pub rising_push : (low top n : ℕ) (ts : List Trial) → rising low top ts ≡ true → rising low top (ts ++ (record { number = n; mark = top } ∷ [])) ≡ true
rising_push low top n [] h = and_from (leb low top) (leb top top) h (le-leb top top (omega arith))
rising_push low top n (t ∷ ts) h =
    let p = and_parts (leb low t.mark) (rising t.mark top ts) h in
    and_from (leb low t.mark) (rising t.mark top (ts ++ (record { number = n; mark = top } ∷ []))) p.0 (rising_push t.mark top n ts p.1)

pub rising_more : (low top more : ℕ) (ts : List Trial) → top ≤ more → rising low top ts ≡ true → rising low more ts ≡ true
rising_more low top more [] le h = le-leb low more (omega (arith, leb-true low top h))
rising_more low top more (t ∷ ts) le h =
    let p = and_parts (leb low t.mark) (rising t.mark top ts) h in
    and_from (leb low t.mark) (rising t.mark more ts) p.0 (rising_more t.mark top more ts le p.1)

pub rising_take : (low top i : ℕ) (ts : List Trial) → rising low top ts ≡ true → rising low top (take i ts) ≡ true
rising_take low top zero ts h = le-leb low top (rising_low low top ts h)
rising_take low top (suc i) [] h = h
rising_take low top (suc i) (t ∷ ts) h =
    let p = and_parts (leb low t.mark) (rising t.mark top ts) h in
    and_from (leb low t.mark) (rising t.mark top (take i ts)) p.0 (rising_take t.mark top i ts p.1)

-- the trials before one have their marks at or before its mark, which is at or before the top
pub rising_cut : (low top i : ℕ) (ts : List Trial) (d : Trial) → i < length ts → rising low top ts ≡ true → rising low (get_or ts i d).mark (take i ts) ≡ true
rising_cut low top i [] d lt h = absurd (omega arith)
rising_cut low top zero (t ∷ ts) d lt h = (and_parts (leb low t.mark) (rising t.mark top ts) h).0
rising_cut low top (suc i) (t ∷ ts) d lt h =
    let p = and_parts (leb low t.mark) (rising t.mark top ts) h in
    let less : i < length ts = omega arith in
    and_from (leb low t.mark) (rising t.mark (get_or ts i d).mark (take i ts)) p.0 (rising_cut t.mark top i ts d less p.1)

pub mark_within : (low top i : ℕ) (ts : List Trial) (d : Trial) → i < length ts → rising low top ts ≡ true → (get_or ts i d).mark ≤ top
mark_within low top i [] d lt h = absurd (omega arith)
mark_within low top zero (t ∷ ts) d lt h = rising_low t.mark top ts (and_parts (leb low t.mark) (rising t.mark top ts) h).1
mark_within low top (suc i) (t ∷ ts) d lt h =
    let p = and_parts (leb low t.mark) (rising t.mark top ts) h in
    let less : i < length ts = omega arith in
    mark_within t.mark top i ts d less p.1
