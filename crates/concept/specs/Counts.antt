-- The counts of a normal form, as far as 32 bits go.
use Rattle.std.specs.Prelude.{ℕ, ◌-◌, ◌^◌, min}
use Rattle.concept.specs.declared.count.Counts.{Counts}
use Rattle.concept.specs.declared.count.SignedCounts.{SignedCounts}
use Rattle.concept.specs.Concepts.{Concept}
use Rattle.concept.specs.Normal.{nodes, valued_nodes, role_depth}
use Rattle.concept.specs.Terms.{Forms}

-- a count, or 2^32 - 1 where it is more
abbrev pub up_to_most : ℕ → ℕ
up_to_most n = min n (2 ^ 32 - 1)

abbrev pub counted : Concept → Counts
counted c = record { nodes = up_to_most (nodes c); valued = up_to_most (valued_nodes c); depth = up_to_most (role_depth c) }

-- the counts of a form and of its negation
abbrev pub counted_forms : Forms → SignedCounts
counted_forms f = record { plain = counted f.plain; turned = counted f.turned }
