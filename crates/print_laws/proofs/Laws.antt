-- A valid table is read again.
use Rattle.std.proofs.Common.{ℕ, List, [], ◌∷◌}
use Rattle.cue_lattice.specs.Word.{IsWord}
use Rattle.cue_lex.specs.declared.token.TokenKind.TheVariants as kinds
use Rattle.cue_row.specs.Quoted.{quote_text}
use Rattle.print_laws.specs.Kinds.{IsKindRead}
use Rattle.print_laws.specs.Reading.{IsTextReadAgain}
use Rattle.print_laws.proofs.Files.{file_read}
use Rattle.print_laws.proofs.Texts.{text_read}
use Rattle.print_laws.proofs.Valid.{valid_printable}

pub read_again : IsTextReadAgain
read_again table fields valid is = file_read fields (valid_printable table fields valid is)

pub quoted_read : (text : List ℕ) → IsWord text → IsKindRead (quote_text text) (kinds.Text text ∷ [])
quoted_read text is = text_read text is.utf8 is.short
