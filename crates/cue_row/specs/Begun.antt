-- What a text that is written to still begins with.
use Rattle.std.specs.Prelude.{◌≡◌, ℕ, List, ◌++◌}

-- what stood there before still begins it
abbrev pub StillBegins : List ℕ → List ℕ → Type 0
StillBegins before after = (more : List ℕ) × (after ≡ before ++ more)
