-- Where a fault stands.
use Rattle.std.specs.Prelude.{◌≡◌, ℕ, ◌+◌, ◌-◌, ◌≤◌, List, [], length, slice_index_or, ⊤}
use Rattle.text.specs.declared.fault.Fault.{Fault}
use Rattle.text.specs.declared.trouble.Trouble.{Trouble}
use Rattle.text.specs.declared.trouble.Trouble.TheVariants.{Memory, Misread}
use Rattle.concept_text.specs.declared.fault.Expected.{Expected}

-- on the line with this number, on one of its bytes or just after them
abbrev pub OnLine : ℕ → List ℕ → Trouble (Fault Expected) → Type 0
OnLine number line Memory = ⊤
OnLine number line (Misread f) = (f.line ≡ number) × (1 ≤ f.column) × (f.column ≤ length line + 1)

-- on one of these lines, which are counted from 1
abbrev pub Placed : List (List ℕ) → Trouble (Fault Expected) → Type 0
Placed lines Memory = ⊤
Placed lines (Misread f) = (f.line ≤ length lines) × (1 ≤ f.line) × OnLine f.line (slice_index_or lines (f.line - 1) []) (Misread f)
