-- What a sheet holds after a history is what the newest event makes of what it held before.
use Rattle.std.specs.Prelude.{◌≡◌, ◌∷◌}
use Rattle.domain.specs.Meaning.{Meaning}
use Rattle.history.specs.Histories.{Event, History}
use Rattle.history.specs.Views.{view_of, after}

abbrev pub Stepwise : Type 0
Stepwise = (m : Meaning) (e : Event) (h : History) → view_of m (e ∷ h) ≡ after m e (view_of m h)
