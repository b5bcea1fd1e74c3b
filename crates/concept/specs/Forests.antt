-- The forest: normal forms as trees in one table of nodes.
use Rattle.std.specs.Prelude.{◌≡◌, ℕ, ◌+◌, Bool, true, cond, ◌&&◌, List, [], ◌∷◌, ◌++◌, length, take, Some, None, Option, ◌==◌, nat_lt, slice_index_or}
use Rattle.concept.specs.declared.normal.Normal.{Normal}
use Rattle.concept.specs.declared.normal.Normal.TheVariants.{Atom, NotAtom, And, Or, Exists, Forall, Has, Lacks, Holds, Meets, Parts}
use Rattle.concept.specs.Concepts.{Concept}
use Rattle.concept.specs.Concepts.Concept.{atom, neg, conj, disj, some, all, has, lacks, holds, meets, parts}
use Rattle.concept.specs.Chains.{steps}
use Rattle.concept.specs.Growing.{grow}
use Rattle.concept.specs.Normal.{nodes}

abbrev pub tree_at : List Concept → ℕ → Concept
tree_at below i = slice_index_or below i (atom 0)

-- the concept of a node, given those of the places below it
abbrev pub tree : List Concept → Normal → Concept
tree below (Atom n) = atom n
tree below (NotAtom n) = neg (atom n)
tree below (And l r) = conj (tree_at below l) (tree_at below r)
tree below (Or l r) = disj (tree_at below l) (tree_at below r)
tree below (Exists r l) = some r (tree_at below l)
tree below (Forall r l) = all r (tree_at below l)
tree below (Has f) = has f
tree below (Lacks f) = lacks f
tree below (Holds p u v) = holds p (steps u) (steps v)
tree below (Meets u v) = meets (steps u) (steps v)
tree below (Parts u v) = parts (steps u) (steps v)

-- the concepts that stand at the places of a forest
abbrev pub trees : List Normal → List Concept
trees items = grow tree [] items

-- the children of a node, the second first
abbrev pub children : Normal → List ℕ
children (Atom n) = []
children (NotAtom n) = []
children (And l r) = r ∷ (l ∷ [])
children (Or l r) = r ∷ (l ∷ [])
children (Exists r l) = l ∷ []
children (Forall r l) = l ∷ []
children (Has f) = []
children (Lacks f) = []
children (Holds p u v) = []
children (Meets u v) = []
children (Parts u v) = []

-- take the given places off the front of a list, if they stand there
abbrev pub taken : List ℕ → List ℕ → Option (List ℕ)
taken [] roots = Some roots
taken (c ∷ cs) [] = None
taken (c ∷ cs) (r ∷ rs) = cond (c == r) (taken cs rs) None

abbrev pub onto : ℕ → Option (List ℕ) → Option (List ℕ)
onto i None = None
onto i (Some roots) = Some (i ∷ roots)

-- a node at place i takes its children from the newest roots, and is a root itself
abbrev pub rooted : ℕ → Normal → Option (List ℕ) → Option (List ℕ)
rooted i n None = None
rooted i n (Some roots) = onto i (taken (children n) roots)

-- the roots after these nodes, newest first; none where some node does not take the newest roots for its children
abbrev pub roots_after : Option (List ℕ) → ℕ → List Normal → Option (List ℕ)
roots_after roots i [] = roots
roots_after roots i (n ∷ ns) = roots_after (rooted i n roots) (i + 1) ns

abbrev pub roots : List Normal → Option (List ℕ)
roots items = roots_after (Some []) 0 items

abbrev pub occurrences : ℕ → List ℕ → ℕ
occurrences c [] = 0
occurrences c (d ∷ ds) = cond (c == d) 1 0 + occurrences c ds

-- how often a place is named as a child
abbrev pub parents : List Normal → ℕ → ℕ
parents [] c = 0
parents (n ∷ ns) c = occurrences c (children n) + parents ns c

abbrev pub each_below : ℕ → List ℕ → Bool
each_below i [] = true
each_below i (c ∷ cs) = nat_lt c i && each_below i cs

-- every node, from place i on, has its children at lower places
abbrev pub children_lower : ℕ → List Normal → Bool
children_lower i [] = true
children_lower i (n ∷ ns) = each_below i (children n) && children_lower (i + 1) ns

-- a node was added at the end, at this place
pub record Pushed (before after : List Normal) (place : ℕ) (n : Normal) : Type 0 where
  pub longer : after ≡ before ++ (n ∷ [])
  pub last : place ≡ length before

-- the tree of a concept was added at the end, with its root at this place; it is the newest root
pub record Grown (before after : List Normal) (root : ℕ) (c : Concept) : Type 0 where
  pub kept : take (length before) after ≡ before
  pub longer : length after ≡ length before + nodes c
  pub last : root + 1 ≡ length after
  pub stands : tree_at (trees after) root ≡ c
  pub newest : roots after ≡ onto root (roots before)
