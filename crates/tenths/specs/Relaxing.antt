-- Relaxation of difference constraints: lower bounds are raised link by link, in rounds.
use Rattle.std.specs.Prelude.{◌≡◌, ℕ, ◌+◌, ◌-◌, ◌<◌, ◌≤◌, min, Bool, true, false, List, [], ◌∷◌, ◌++◌, length, get_or, replicate, slice_index_or, slice_set}
use Rattle.std.specs.List.{All}
use Rattle.tenths.specs.declared.links.Link.{Link}
use Rattle.tenths.specs.Differences.{at, Keeps, Potential, Under}

-- a default for reads of a list of links
abbrev pub no_link : Link
no_link = record { tail = 0; head = 0; weight = 0 }

-- bounds end at 65,536, which is above every value
abbrev pub Low : List ℕ → Type 0
Low ds = All (λ b. b ≤ 65536) ds

-- where the bounds over n variables start: 0 at each variable, and 32,768 at the last spot, which stands for the number 0
abbrev pub started : ℕ → List ℕ
started n = replicate n 0 ++ 32768 ∷ []

-- one relaxation: a link that is kept changes nothing, any other raises the bound at its head
abbrev pub Relaxes : List ℕ → Link → List ℕ → Bool → Type 0
Relaxes ds l after false = Keeps (at ds) l × (after ≡ ds)
Relaxes ds l after true =
    (at ds l.head + 131072 < at ds l.tail + l.weight) × (after ≡ slice_set ds l.head (min 65536 (at ds l.tail + l.weight - 131072)))

-- Against a potential v, the gap at a spot is v less the bound. The spots of `done` are settled: links out of them are kept,
-- and no gap outside is smaller than one inside.
pub record Settled (n : ℕ) (links : List Link) (v : ℕ → ℕ) (done : ℕ → Bool) (ds : List ℕ) : Type 0 where
  pub size : length ds ≡ n + 1
  pub below : (x : ℕ) → x ≤ n → at ds x ≤ v x
  pub settled : (k : ℕ) → k < length links → done (get_or links k no_link).tail ≡ true → Keeps (at ds) (slice_index_or links k no_link)
  pub inner : (x y : ℕ) → x ≤ n → y ≤ n → done x ≡ true → done y ≡ false → v x + at ds y ≤ v y + at ds x

-- In a round, after i links, with m a spot of smallest gap outside: what is settled stays so, and m's links are kept so far.
pub record Settling (n : ℕ) (links : List Link) (v : ℕ → ℕ) (done : ℕ → Bool) (m i : ℕ) (ds : List ℕ) : Type 0 where
  pub base : Settled n links v done ds
  pub least : (y : ℕ) → y ≤ n → done y ≡ false → v m + at ds y ≤ v y + at ds m
  pub passed : (k : ℕ) → k < i → (get_or links k no_link).tail ≡ m → Keeps (at ds) (slice_index_or links k no_link)

-- the first i links of a round, from bounds to bounds: whether a bound was raised, and what that says
pub record Sweep (links : List Link) (before after : List ℕ) (i : ℕ) (raised : Bool) : Type 0 where
  pub low : Low after
  pub size : length after ≡ length before
  pub grown : (x : ℕ) → at before x ≤ at after x
  -- nothing raised: nothing changed, and these links are kept
  pub calm : raised ≡ false → (after ≡ before) × ((k : ℕ) → k < i → Keeps (at before) (slice_index_or links k no_link))
  -- nothing is raised where every link is kept
  pub quiet : All (Keeps (at before)) links → raised ≡ false
  pub settles :
      (n : ℕ) (v : ℕ → ℕ) (done : ℕ → Bool) (m : ℕ)
      → Potential n links v → Settling n links v done m 0 before → Settling n links v done m i after

-- what rounds over all links end in: every link kept by lower bounds, or no potential at all
abbrev pub Rounds : ℕ → List Link → List ℕ → List ℕ → Bool → Type 0
Rounds n links before after true = All (Keeps (at after)) links × Under links n after × ((x : ℕ) → at before x ≤ at after x)
Rounds n links before after false = (v : ℕ → ℕ) → Potential n links v → ⊥

-- the lowest potential of all, or none
abbrev pub Lowest : ℕ → List Link → List ℕ → Bool → Type 0
Lowest n links ds true = Potential n links (at ds) × Under links n ds
Lowest n links ds false = (v : ℕ → ℕ) → Potential n links v → ⊥
