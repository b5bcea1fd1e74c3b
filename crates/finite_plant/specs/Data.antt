-- The plant that data stands for.
use Rattle.std.specs.Prelude.{ℕ, Bool, ◌&&◌, List, ℤ, vec_items, Option, ◌==◌}
use Rattle.std.specs.List.{find, list_any}
use Rattle.std.specs.Option.{option_map}
use Rattle.concept.specs.Plants.{Plant}
use Rattle.finite_plant.specs.declared.plant.FinitePlant.{FinitePlant}
use Rattle.finite_plant.specs.declared.plant.Link.{Link}
use Rattle.finite_plant.specs.declared.plant.Named.{Named}
use Rattle.finite_plant.specs.declared.plant.Pair.{Pair}
use Rattle.finite_plant.specs.declared.plant.Reading.{Reading}

-- an entry for these numbers
abbrev pub names_so : ℕ → ℕ → Named → Bool
names_so n x e = e.name == n && e.thing == x

abbrev pub pairs_so : ℕ → ℕ → ℕ → Pair → Bool
pairs_so r x y e = e.role == r && (e.from == x && e.to == y)

abbrev pub links_so : ℕ → ℕ → Link → Bool
links_so f x e = e.feature == f && e.from == x

abbrev pub reads_so : ℕ → ℕ → Reading → Bool
reads_so g x e = e.feature == g && e.thing == x

abbrev pub has_name : List Named → ℕ → ℕ → Bool
has_name names n x = list_any (names_so n x) names

abbrev pub has_pair : List Pair → ℕ → ℕ → ℕ → Bool
has_pair pairs r x y = list_any (pairs_so r x y) pairs

abbrev pub first_link : List Link → ℕ → ℕ → Option ℕ
first_link links f x = option_map (λ e. e.to) (find (links_so f x) links)

abbrev pub first_reading : List Reading → ℕ → ℕ → Option ℤ
first_reading readings g x = option_map (λ e. e.value) (find (reads_so g x) readings)

-- the plant: the first entry for a thing and a feature stands, and every object stands for the thing 0
abbrev pub plant_of : FinitePlant → Plant
plant_of d = record {
  count = d.count;
  named = has_name (vec_items d.names);
  joined = has_pair (vec_items d.pairs);
  linked = first_link (vec_items d.links);
  valued = first_reading (vec_items d.readings);
  stands = λ o. 0;
}
