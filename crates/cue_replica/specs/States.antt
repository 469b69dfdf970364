-- Which bytes are those of a state, and why others are refused.
use Rattle.std.specs.Prelude.{◌≡◌, ℕ, List}
use Rattle.cue_lattice.specs.Document.{Document}
use Rattle.cue_lattice.specs.Meets.{Meets}
use Rattle.cue_lattice.specs.Question.{Refusals}
use Rattle.cue_lattice.specs.declared.refusal.Refusal.{Refusal}
use Rattle.cue_row.specs.declared.parts.RowParts.{RowParts as Row}
use Rattle.cue_row.specs.Row.{RowRefusesQuestion}
use Rattle.cue_table.specs.Tree.{Tree}
use Rattle.cue_table.specs.Refuses.{TableRefuses}
use Rattle.cue_table.specs.Valid.{IsValidTable}
use Rattle.cue_codec.specs.State.{IsTableBytes}
use Rattle.cue_codec.specs.Decoding.{IsRejected, HasStateHead}

-- the table is valid, and has these bytes in one of the versions
pub record IsTableOf (bytes : List ℕ) (table : Tree Row) : Type 0 where
  pub valid : IsValidTable table
  pub spelled : IsTableBytes bytes table

-- some valid table has the bytes
abbrev pub IsState : List ℕ → Type 0
IsState bytes = (table : Tree Row) × IsTableOf bytes table

-- what that table refuses
abbrev pub state_refuses : List ℕ → Refusals
state_refuses bytes path question =
    (table : Tree Row) × IsTableOf bytes table × TableRefuses RowRefusesQuestion table path question

-- which documents it admits: those that meet that table
abbrev pub state_admits : List ℕ → Document → Type 0
state_admits bytes d =
    (table : Tree Row) → IsTableOf bytes table → Meets (TableRefuses RowRefusesQuestion table) d

-- Why bytes are refused: they are of another version; or else no valid table has them. Both are
-- told at place 0.
abbrev pub IsStateFault : List ℕ → Refusal → Type 0
IsStateFault bytes why = (why.place ≡ 0) × IsRejected bytes why.kind

-- Bytes whose fault is found with no memory: they do not begin as those of a state do, with the
-- mark, a version that is known and the count of the rows.
abbrev pub IsStateRefusedAtOnce : List ℕ → Type 0
IsStateRefusedAtOnce bytes = ¬ HasStateHead bytes
