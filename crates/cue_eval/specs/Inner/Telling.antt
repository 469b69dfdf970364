-- Beside `specs/Telling.antt`: what private clauses and proofs alone cite.
use Rattle.std.specs.Prelude.{◌||◌, Bool, true}
use Rattle.cue_scope.specs.Core.{Members}
use Rattle.cue_eval.specs.declared.declared.DeclaredQuestion.{DeclaredQuestion}
use Rattle.cue_eval.specs.declared.declared.DeclaredQuestion.TheVariants.{Stands, Declares}
use Rattle.cue_eval.specs.Literals.{has_declaration, has_dots}

-- what one struct literal tells; a `...` declares each label
abbrev pub literal_declares : DeclaredQuestion → Members → Bool
literal_declares Stands ms = true
literal_declares (Declares l) ms = has_dots ms || has_declaration l ms
