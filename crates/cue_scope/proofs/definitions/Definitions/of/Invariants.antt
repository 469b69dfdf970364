use Rattle.std.proofs.Common.{◌≡◌, ℕ, List, ◌++◌, drop}
use Rattle.std.specs.HashMap as hash
use Rattle.std.specs.Str.{bytes_eq}
use Rattle.cue_syntax.specs.Syntax.{entries}
use Rattle.cue_scope.specs.Definitions.{definitions, number_of_name, repeats_after, repeated_names}
use Rattle.cue_scope.specs.Listed.{definition_list}
use Rattle.cue_scope.proofs.definitions.Definitions.of.Given as goal

abbrev pub invariant-loop-declaration : goal.invariant-loop-declaration
invariant-loop-declaration l = record {
  numbered : (name : List ℕ) → hash.get_by (λ k. bytes_eq name k.now) l.numbers ≡ number_of_name name (definition_list l.list.items);
  all : definition_list l.list.items ++ definitions (entries (drop l.declaration-index l.declarations)) ≡ definitions (entries l.declarations);
  repeats : repeats_after (definition_list l.list.items) (definitions (entries (drop l.declaration-index l.declarations))) ≡ repeated_names (definitions (entries l.declarations));
}
