-- What reading state bytes comes to, whether they come at once or in pieces.
use Rattle.std.specs.Prelude.{ℕ, List, Result, Ok, Err}
use Rattle.cue_lattice.specs.declared.refusal.Kind.{Kind}
use Rattle.cue_codec.specs.Decoding.{IsUndecoded}
use Rattle.cue_replica.specs.Language.{Table}
use Rattle.cue_replica.specs.States.{IsTableOf}

-- the bytes are read as the table, or are refused as this kind
abbrev pub ReadsTable : List ℕ → Result Table Kind → Type 0
ReadsTable bytes (Ok table) = IsTableOf bytes table
ReadsTable bytes (Err kind) = IsUndecoded bytes kind
