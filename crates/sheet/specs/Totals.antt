-- What is counted of stored statements.
use Rattle.std.specs.Prelude.{◌+◌, ◌≤◌, max, List, fold}
use Rattle.sheet.specs.declared.statement.Stored.{Stored}
use Rattle.sheet.specs.declared.statement.Stored.TheVariants.{Apart, Concept as Stated, Link, Compare}
use Rattle.sheet.specs.declared.totals.Totals.{Totals}
use Rattle.sheet.specs.Statements.{Statement, n_of, v_of, k_of, x_of, r_of}

-- N, V, K, X and R together
abbrev pub totals_of : List Statement → Totals
totals_of ss = record { nodes = n_of ss; valued = v_of ss; comparisons = k_of ss; others = x_of ss; depth = r_of ss }

-- the totals of nothing, and of one stored statement
abbrev pub nothing : Totals
nothing = record { nodes = 0; valued = 0; comparisons = 0; others = 0; depth = 0 }

abbrev pub weight_of : Stored → Totals
weight_of (Apart o q) = record { nodes = 0; valued = 0; comparisons = 0; others = 1; depth = 0 }
weight_of (Stated o root w) = record { nodes = w.nodes; valued = w.valued; comparisons = 0; others = 0; depth = w.depth }
weight_of (Link o r q) = record { nodes = 0; valued = 0; comparisons = 0; others = 1; depth = 0 }
weight_of (Compare p a b) = record { nodes = 0; valued = 0; comparisons = 1; others = 1; depth = 0 }

abbrev pub plus : Totals → Totals → Totals
plus t w = record {
  nodes = t.nodes + w.nodes;
  valued = t.valued + w.valued;
  comparisons = t.comparisons + w.comparisons;
  others = t.others + w.others;
  depth = max t.depth w.depth;
}

-- no sum of what is counted runs over; the depth is no sum
abbrev pub Small : Totals → Type 0
Small t = (t.nodes ≤ 512) × ((t.valued ≤ 512) × ((t.comparisons ≤ 512) × (t.others ≤ 512)))

-- the totals of stored statements, by the counts that are stored with them
unfoldable pub tally : List Stored → Totals
tally stored = fold (λ t s. plus t (weight_of s)) nothing stored
