-- What a contract sees of a stack.
use Rattle.std.specs.Prelude.{ℕ, List, length}

-- the elements, lowest first
pub record Stack (T : Type 0) : Type 0 where
  pub items : List T

abbrev pub height : {T : Type 0} → Stack T → ℕ
height s = length s.items
