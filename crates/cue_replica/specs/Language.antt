-- The language that the store takes, and its format of states.
use Rattle.cue_lattice.specs.World.{Meaning}
use Rattle.cue_row.specs.declared.parts.RowParts.{RowParts as Row}
use Rattle.cue_row.specs.Row.{RowRefusesQuestion}
use Rattle.cue_table.specs.Tree.{Tree, empty}
use Rattle.cue_table.specs.Refuses.{TableRefuses}
use Rattle.cue_table.specs.Valid.{IsValidTable}
use Rattle.cue_codec.specs.State.{table_bytes}
use Rattle.cue_replica.specs.Texts.{IsLegalText, text_refuses, text_admits, IsTextFault}
use Rattle.cue_replica.specs.Texts.{IsTextRefusedAtOnce}
use Rattle.cue_replica.specs.States.{IsState, state_refuses, state_admits, IsStateFault}
use Rattle.cue_replica.specs.States.{IsStateRefusedAtOnce}

abbrev pub Table : Type 0
Table = Tree Row

-- the table of a site that has accepted nothing
abbrev pub empty_site : Table
empty_site = empty

abbrev pub language : Meaning Table
language = record {
  IsValid = IsValidTable;
  table_refuses = TableRefuses RowRefusesQuestion;
  IsLegal = IsLegalText;
  text_refuses = text_refuses;
  text_admits = text_admits;
  IsTextFault = IsTextFault;
  IsState = IsState;
  state_refuses = state_refuses;
  state_admits = state_admits;
  IsStateFault = IsStateFault;
  IsTextRefusedAtOnce = IsTextRefusedAtOnce;
  IsStateRefusedAtOnce = IsStateRefusedAtOnce;
  written = table_bytes;
}
