-- A worked example: the premises of the theorem can be met.
use Rattle.std.specs.Prelude.{ℕ, zero, suc, Bool, true, false, List, None}
use Rattle.domain.specs.Meaning.{Meaning}
use Rattle.concept.specs.Concepts.{Concept}
use Rattle.concept.specs.Concepts.Concept.{atom, neg, some, all}
use Rattle.concept.specs.Plants.{Plant, Proper}
use Rattle.tableau.specs.Completion.{Claims, Complete, Settled}

-- one thing, with the names that pass the test and nothing else
abbrev pub single : (ℕ → Bool) → Plant
single test = record {
  count = 1;
  named = λ n x. test n;
  joined = λ r x y. false;
  linked = λ f x. None;
  valued = λ g x. None;
  stands = λ o. 0;
}

-- one thing, of which nothing is known
abbrev pub lone : Plant
lone = single (λ n. false)

abbrev pub claim : ℕ → Concept
claim zero = some 256 (atom 1)
claim (suc i) = all 256 (neg (atom 2))

-- two claims of it: some neighbour by the role 256 has the name 1, and no such neighbour has the name 2
abbrev pub claims : Claims
claims = record { cells = 2; active = λ i. true; concept = claim; thing = λ i. 0 }

-- whatever the domain, this is a completed cluster whose debt can be paid
pub record Exemplary (m : Meaning) (kinds : List ℕ) : Type 0 where
  pub proper : Proper m kinds lone
  pub complete : Complete m lone claims
  pub settled : Settled m kinds claims

abbrev pub Example : Type 0
Example = (m : Meaning) (kinds : List ℕ) → Exemplary m kinds
