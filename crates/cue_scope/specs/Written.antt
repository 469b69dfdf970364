-- The uses of definitions that are written in the reached part of a text.
use Rattle.std.specs.Prelude.{ℕ, List, ◌++◌}
use Rattle.cue_scope.specs.Definitions.{Definition}
use Rattle.cue_scope.specs.Reached.{targets_of}
use Rattle.cue_scope.specs.Uses.{graph, uses_of_fields}
use Rattle.cue_syntax.specs.Syntax.{Entries}

-- those in the regular declarations, and those in the bodies of these definitions
abbrev pub written_uses : List Definition → Entries → List ℕ → List ℕ
written_uses ds es numbers = uses_of_fields ds es ++ targets_of (graph ds) numbers
