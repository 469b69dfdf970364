-- What the values of the program stand for.
use Rattle.std.specs.Prelude.{List}
use Rattle.cue_scope.specs.declared.definitions.Definitions.{Definitions}
use Rattle.cue_scope.specs.Definitions.{Definition}
use Rattle.cue_scope.specs.Listed.{definition_list}

abbrev pub nodes_kept : Definitions → List Definition
nodes_kept d = definition_list d.list.items
