-- A graph as the program keeps it: for each node those that it points to.
use Rattle.std.specs.Prelude.{ℕ, List, map, Vec}
use Rattle.std.specs.Global.{Global}

abbrev pub graph_of : List (Vec ℕ Global) → List (List ℕ)
graph_of g = map (λ v. v.items) g
