-- What the code's definitions are.
use Rattle.std.specs.Prelude.{List, map}
use Rattle.cue_syntax.specs.Syntax.{expression}
use Rattle.cue_scope.specs.declared.definitions.Definition as code
use Rattle.cue_scope.specs.Definitions.{Definition}

abbrev pub definition_of : code.Definition → Definition
definition_of d = record {
  name = d.name.now;
  place = d.from;
  chain = d.chain.now;
  value = expression d.value.now;
}

abbrev pub definition_list : List code.Definition → List Definition
definition_list ds = map definition_of ds
