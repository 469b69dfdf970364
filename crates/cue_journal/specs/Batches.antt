use Rattle.std.specs.Prelude.{ℕ, List}
use Rattle.cue_journal.specs.declared.blocks.Batch.{Batch}

abbrev pub batch_bytes : Batch → List ℕ
batch_bytes b = b.bytes.items
