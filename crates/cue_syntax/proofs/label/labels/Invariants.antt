use Rattle.std.proofs.Common.{◌≡◌, ◌+◌, ◌≤◌, [], ◌∷◌, length, flat_map}
use Rattle.cue_syntax.specs.Spelling.{SpellsTree, spell_label}
use Rattle.cue_syntax.specs.Recogniser.{MovesStack, value, chains}
use Rattle.cue_syntax.proofs.label.labels.Given as goal

abbrev pub invariant-chain : goal.invariant-chain
invariant-chain l = record {
  shorter : length l.rest.rest.now ≤ length l.cursor.rest.now;
  levels : l.left + length l.labels.items ≡ l.room;
  reads : SpellsTree l.cursor.rest.now (flat_map spell_label l.labels.items) l.rest.rest.now;
  end : l.rest.end ≡ l.cursor.end;
  moves : MovesStack l.room (value ∷ []) l.cursor.rest.now (value ∷ chains l.labels.items) l.rest.rest.now;
}

abbrev pub decreases-chain : goal.decreases-chain
decreases-chain l = length l.rest.rest.now
