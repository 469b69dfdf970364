-- What is put at a name.
use Rattle.std.specs.Prelude.{ℕ, List}
use Rattle.cue_replica.specs.Language.{language}
use Rattle.cue_program.specs.declared.contents.Contents.{Contents}
use Rattle.cue_program.specs.declared.contents.Contents.TheVariants as kinds

-- its bytes
abbrev pub bytes_of_contents : Contents → List ℕ
bytes_of_contents (kinds.State site) = language.written site.now
bytes_of_contents (kinds.Bytes bytes) = bytes.now
