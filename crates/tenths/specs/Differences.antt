-- Difference constraints over numbered spots, and their potentials.
-- Spots 0 to n - 1 are the variables and spot n is the number 0. A spot's number is 32,768 above the value that it stands for.
use Rattle.std.specs.Prelude.{◌≡◌, ℕ, ◌+◌, ◌<◌, ◌≤◌, List, slice_index}
use Rattle.std.specs.List.{All}
use Rattle.tenths.specs.declared.links.Link.{Link}

-- the number at a spot
abbrev pub at : List ℕ → ℕ → ℕ
at ds x = slice_index ds x

-- the head is at least the tail plus the link's weight; weights are stored 131,072 higher, so that none is negative
abbrev pub Keeps : (ℕ → ℕ) → Link → Type 0
Keeps v l = v l.tail + l.weight ≤ v l.head + 131072

-- the link's ends are among this many spots, and its weight leaves room for sums of 32 bits
pub record Fair (spots : ℕ) (l : Link) : Type 0 where
  pub tail : l.tail < spots
  pub head : l.head < spots
  pub light : l.weight ≤ 262144

-- numbers for n variables and for 0, each in its range, that keep every link
pub record Potential (n : ℕ) (links : List Link) (v : ℕ → ℕ) : Type 0 where
  pub zero : v n ≡ 32768
  pub ranged : (x : ℕ) → x < n → v x < 65536
  pub kept : All (Keeps v) links

-- no potential is lower than these numbers at any spot
abbrev pub Under : List Link → ℕ → List ℕ → Type 0
Under links n ds = (v : ℕ → ℕ) → Potential n links v → (x : ℕ) → x ≤ n → at ds x ≤ v x
