-- Concepts: what a rule says of a thing.
use Rattle.std.specs.Prelude.{ℕ, ◌-◌, Bool, true, false, ◌&&◌, ◌||◌, List, [], ◌∷◌, ◌==◌, nat_le, slice_index}
use Rattle.domain.specs.declared.predicate.Predicate.{Predicate}
use Rattle.domain.specs.Meaning.{Meaning}

-- Names, features and roles are numbers. A chain is a list of features.
pub data Concept : Type 0 where
  -- the things that have a name
  atom : ℕ → Concept
  neg : Concept → Concept
  conj disj : Concept → Concept → Concept
  -- a neighbour in the concept; every neighbour in it
  some all : ℕ → Concept → Concept
  -- the feature is defined; it is not
  has lacks : ℕ → Concept
  -- the chains lead to values of which the predicate holds
  holds : Predicate → List ℕ → List ℕ → Concept
  -- the chains lead to the same thing; to different things
  meets parts : List ℕ → List ℕ → Concept

-- link features are 1 to 127, value features 128 to 255, roles 256 to 511
abbrev pub is_name : ℕ → Bool
is_name n = nat_le 1 n && nat_le n 255

abbrev pub is_link : ℕ → Bool
is_link f = nat_le 1 f && nat_le f 127

abbrev pub is_value : ℕ → Bool
is_value f = nat_le 128 f && nat_le f 255

abbrev pub is_feature : ℕ → Bool
is_feature f = nat_le 1 f && nat_le f 255

abbrev pub is_role : ℕ → Bool
is_role r = nat_le 256 r && nat_le r 511

abbrev pub is_relation : ℕ → Bool
is_relation r = is_link r || is_role r

-- the kind of a value feature, in the list of the kinds of 128, 129 and so on
abbrev pub kind_at : List ℕ → ℕ → ℕ
kind_at kinds g = slice_index kinds (g - 128)

-- one or more link features
abbrev pub link_chain : List ℕ → Bool
link_chain [] = false
link_chain (f ∷ []) = is_link f
link_chain (f ∷ (g ∷ r)) = is_link f && link_chain (g ∷ r)

-- link features, possibly none, and then one value feature
abbrev pub value_chain : List ℕ → Bool
value_chain [] = false
value_chain (g ∷ []) = is_value g
value_chain (f ∷ (g ∷ r)) = is_link f && value_chain (g ∷ r)

-- the kind of the last step
abbrev pub end_kind : List ℕ → List ℕ → ℕ
end_kind kinds [] = 0
end_kind kinds (g ∷ []) = kind_at kinds g
end_kind kinds (f ∷ (g ∷ r)) = end_kind kinds (g ∷ r)

-- the chain leads to values of the kind k
abbrev pub leads_to_kind : List ℕ → ℕ → List ℕ → Bool
leads_to_kind kinds k chain = value_chain chain && end_kind kinds chain == k

abbrev pub is_empty : List ℕ → Bool
is_empty [] = true
is_empty (f ∷ r) = false

-- the predicate is known and has the chains that its arity asks for, which lead to values of its kind
abbrev pub fitting : Meaning → List ℕ → Predicate → List ℕ → List ℕ → Bool
fitting m kinds p u v =
    leads_to_kind kinds p.kind u && ((m.arity p == 1 && is_empty v) || (m.arity p == 2 && leads_to_kind kinds p.kind v))

-- every part of the concept is in its range: what the table check lets through
abbrev pub formed : Meaning → List ℕ → Concept → Bool
formed m kinds (atom n) = is_name n
formed m kinds (neg c) = formed m kinds c
formed m kinds (conj c d) = formed m kinds c && formed m kinds d
formed m kinds (disj c d) = formed m kinds c && formed m kinds d
formed m kinds (some r c) = is_relation r && formed m kinds c
formed m kinds (all r c) = is_relation r && formed m kinds c
formed m kinds (has f) = is_feature f
formed m kinds (lacks f) = is_feature f
formed m kinds (holds p u v) = fitting m kinds p u v
formed m kinds (meets u v) = link_chain u && link_chain v
formed m kinds (parts u v) = link_chain u && link_chain v
