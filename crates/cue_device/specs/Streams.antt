-- What clauses read of the devices of this crate.
use Rattle.std.specs.Prelude.{ℕ, List}
use Rattle.cue_device.specs.declared.source.Reader.{Reader}
use Rattle.cue_device.specs.declared.sink.Writer.{Writer}
use Rattle.cue_device.specs.declared.memory.Bytes.{Bytes}

-- what is read from
abbrev pub reader_inner : {R : Type 0} → Reader R → R
reader_inner reader = reader.inner

abbrev pub reader_calls : {R : Type 0} → Reader R → ℕ
reader_calls reader = reader.calls

abbrev pub reader_failures : {R : Type 0} → Reader R → ℕ
reader_failures reader = reader.failures

-- what is written to
abbrev pub writer_inner : {W : Type 0} → Writer W → W
writer_inner writer = writer.inner

abbrev pub writer_calls : {W : Type 0} → Writer W → ℕ
writer_calls writer = writer.calls

abbrev pub writer_failures : {W : Type 0} → Writer W → ℕ
writer_failures writer = writer.failures

-- all bytes, given or not, and how many were given
abbrev pub bytes_all : Bytes → List ℕ
bytes_all bytes = bytes.all.now

abbrev pub bytes_at : Bytes → ℕ
bytes_at bytes = bytes.at

abbrev pub bytes_calls : Bytes → ℕ
bytes_calls bytes = bytes.calls
