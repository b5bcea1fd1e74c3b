-- Chains as they are written, in three numbers.
use Rattle.std.specs.Prelude.{ℕ, Bool, true, cond, ◌&&◌, List, [], ◌∷◌, ◌==◌}
use Rattle.concept.specs.declared.node.Chain.{Chain}
use Rattle.concept.specs.Concepts.{link_chain, value_chain, is_empty}

abbrev pub numbers : Chain → List ℕ
numbers c = c.first ∷ (c.second ∷ (c.third ∷ []))

abbrev pub until_zero : List ℕ → List ℕ
until_zero [] = []
until_zero (f ∷ r) = cond (f == 0) [] (f ∷ until_zero r)

-- the steps of a chain: what stands before the first 0
abbrev pub steps : Chain → List ℕ
steps c = until_zero (numbers c)

-- only 0 follows a 0
abbrev pub zeros_follow : Chain → Bool
zeros_follow c = cond (c.first == 0) (c.second == 0 && c.third == 0) (cond (c.second == 0) (c.third == 0) true)

-- a chain that is written properly and has no step; that has link features only; that ends in a value feature
abbrev pub no_chain : Chain → Bool
no_chain c = zeros_follow c && is_empty (steps c)

abbrev pub to_thing : Chain → Bool
to_thing c = zeros_follow c && link_chain (steps c)

abbrev pub to_value : Chain → Bool
to_value c = zeros_follow c && value_chain (steps c)
