-- What is found in a file of a journal, sound or not.
use Rattle.std.specs.Prelude.{◌≡◌, ℕ, List, ◌++◌, Some}
use Rattle.std.specs.List.{Contains}
use Rattle.cue_journal.specs.Blocks.{recovered_pieces}
use Rattle.cue_journal.specs.Frames.{next_batch}

-- somewhere in the file stands a frame that is whole, open and has its checksum, and this entry is in it
pub record IsInFrame (file entry : List ℕ) : Type 0 where
  pub front : List ℕ
  pub rest : List ℕ
  pub batch : List ℕ
  pub behind : List ℕ
  pub split : file ≡ front ++ rest
  pub frame : next_batch rest ≡ Some (batch, behind)
  pub has : Contains (recovered_pieces batch) entry
