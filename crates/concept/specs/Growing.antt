-- A list whose every entry is made from the entries before it and from one element of another list. So a node of a table
-- reads what stands at lower places, and nothing else.
use Rattle.std.specs.Prelude.{List, [], ◌∷◌, ◌++◌}

abbrev pub grow : {A B : Type 0} → (List B → A → B) → List B → List A → List B
grow make done [] = done
grow make done (x ∷ xs) = grow make (done ++ (make done x ∷ [])) xs
