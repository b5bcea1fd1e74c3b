-- Troubles in words.
use Rattle.std.specs.Prelude.{ℕ, List, Some, Option, codes}
use Rattle.text.specs.declared.trouble.Trouble.{Trouble}
use Rattle.text.specs.declared.trouble.Trouble.TheVariants.{Memory, Misread}

-- that there is not enough memory, or what was misread, as it says itself
abbrev pub trouble_text : {F : Type 0} → (F → Option (List ℕ)) → Trouble F → Option (List ℕ)
trouble_text text Memory = Some (codes "not enough memory")
trouble_text text (Misread f) = text f
