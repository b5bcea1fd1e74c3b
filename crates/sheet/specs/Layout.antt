-- How a sheet keeps its statements: each concept's tree ends where the forest ended when the concept was stated.
use Rattle.std.specs.Prelude.{ℕ, ◌+◌, ◌*◌, Bool, true, ◌&&◌, List, [], ◌∷◌, map, length, ◌==◌, nat_le}
use Rattle.concept.specs.declared.count.Counts.{Counts}
use Rattle.concept.specs.declared.forest.Forest.{Forest}
use Rattle.concept.specs.Concepts.{Concept}
use Rattle.concept.specs.Forests.{trees, tree_at}
use Rattle.concept.specs.Held.{items}
use Rattle.concept.specs.Normal.{nodes, valued_nodes, role_depth}
use Rattle.sheet.specs.declared.statement.Stored.{Stored}
use Rattle.sheet.specs.declared.statement.Stored.TheVariants.{Apart, Concept as Stated, Link, Compare}
use Rattle.sheet.specs.declared.trial.Trial.{Trial}
use Rattle.sheet.specs.Statements.{Statement, v_of, k_of, x_of}
use Rattle.sheet.specs.Statements.Statement.{states, links, apart, compares}

-- a stored statement, read with the forest's trees
abbrev pub shown : List Concept → Stored → Statement
shown trees (Apart o q) = apart o q
shown trees (Stated o root w) = states o (tree_at trees root)
shown trees (Link o r q) = links o r q
shown trees (Compare p a b) = compares p a.object a.feature b.object b.feature

-- the statements that are stored over a forest
unfoldable pub in_force : Forest → List Stored → List Statement
in_force forest stored = map (shown (trees (items forest))) stored

-- the stored counts are those of the tree
abbrev pub weighs : Concept → Counts → Bool
weighs c w = nodes c == w.nodes && (valued_nodes c == w.valued && role_depth c == w.depth)

-- the forest's length once a statement is laid down on a forest of n nodes
abbrev pub length_after : ℕ → Stored → ℕ
length_after n (Apart o q) = n
length_after n (Stated o root w) = n + w.nodes
length_after n (Link o r q) = n
length_after n (Compare p a b) = n

-- the tree of a concept that was laid down on a forest of n nodes ends at its root, and the stored counts are right
abbrev pub laid_one : List Concept → ℕ → Stored → Bool
laid_one trees n (Apart o q) = true
laid_one trees n (Stated o root w) = root + 1 == n + w.nodes && weighs (tree_at trees root) w
laid_one trees n (Link o r q) = true
laid_one trees n (Compare p a b) = true

abbrev pub laid : List Concept → ℕ → List Stored → Bool
laid trees n [] = true
laid trees n (s ∷ ss) = laid_one trees n s && laid trees (length_after n s) ss

-- the forest's length after all statements
abbrev pub total_length : ℕ → List Stored → ℕ
total_length n [] = n
total_length n (s ∷ ss) = total_length (length_after n s) ss

-- what always holds of the statements that a sheet with so many objects stores: their trees fill the forest one after the
-- other, at most 64 are no concepts, and comparisons and, for each object, nodes that ask for values are together at most 256
unfoldable pub sound : Forest → ℕ → List Stored → Bool
sound forest objects stored =
    laid (trees (items forest)) 0 stored
    && (total_length 0 stored == length (items forest)
    && (nat_le (x_of (in_force forest stored)) 64
    && nat_le (k_of (in_force forest stored) + objects * v_of (in_force forest stored)) 256))

-- the marks of the open trials rise from low to top
abbrev pub rising : ℕ → ℕ → List Trial → Bool
rising low top [] = nat_le low top
rising low top (t ∷ ts) = nat_le low t.mark && rising t.mark top ts
