-- Sites that accept one text more, or a state.
use Rattle.std.proofs.Common.{ℕ, List, [], ◌∷◌, ◌++◌, map, Option, Some, None, ◌≡◌, refl, subst}
use Rattle.std.specs.List.{AllByRecursion}
use Rattle.std.proofs.lemmas.List.{map-append, map_push}
use Rattle.cue_lattice.specs.Path.{Path}
use Rattle.cue_lattice.specs.Question.{Question}
use Rattle.cue_lattice.specs.World.{Piece, piece_refuses, IsUnified, text, state}
use Rattle.cue_row.specs.Row.{RowRefusesQuestion}
use Rattle.cue_row.specs.declared.parts.RowParts.{RowParts as Row}
use Rattle.cue_table.specs.Tree.{empty, row_at}
use Rattle.cue_table.specs.Refuses.{RowRefuses as RowsRefuse}
use Rattle.cue_table.proofs.ValidWalks.{empty_valid, nothing_at}
use Rattle.cue_replica.specs.Language.{Table, language, empty_site}
use Rattle.cue_replica.specs.Replica.{AddsRefusals}
use Rattle.cue_replica.specs.Accepted.{IsOfTexts, IsAcceptable, IsOfPieces}
use Rattle.cue_replica.specs.Inner.Accepted.{IsOfState}
use Rattle.cue_replica.proofs.Adding.{unified_more, one_piece}

open_row : (path : Path) (question : Question) (row : Option Row) → row_at empty path ≡ row → RowsRefuse RowRefusesQuestion (row_at empty path) question → ⊥
open_row path question None e h = subst (λ (r : Option Row). RowsRefuse RowRefusesQuestion r question) e h
open_row path question (Some row) e h = nothing_at path row e

-- a new site has accepted nothing
pub new_site : IsUnified language empty_site []
new_site = (empty_valid, λ path question. (λ h. open_row path question (row_at empty path) refl h, λ h. absurd h))

-- a new site holds the unification of no texts
pub of_no_text : IsOfTexts empty_site []
of_no_text = (tt, new_site)

all_push : (P : List ℕ → Type 0) (texts : List (List ℕ)) (more : List ℕ) → AllByRecursion P texts → P more → AllByRecursion P (texts ++ more ∷ [])
all_push P [] more h p = (p, tt)
all_push P (t ∷ texts) more h p = (h.0, all_push P texts more h.1 p)

-- a site that adds what one legal text more refuses holds the unification of the texts with it
pub of_one_text_more :
    (old new : Table) (texts : List (List ℕ)) (more : List ℕ) → IsOfTexts old texts → language.IsLegal more
    → AddsRefusals old (language.text_refuses more) new → language.IsValid new → IsOfTexts new (texts ++ more ∷ [])
of_one_text_more old new texts more is legal adds valid = (
  all_push language.IsLegal texts more is.0 legal,
  rw map_push (unified_more old new (language.text_refuses more) (map text texts) (text more ∷ []) is.1 adds valid (one_piece (text more))),
)

all_append : (P : List ℕ → Type 0) (texts more : List (List ℕ)) → AllByRecursion P texts → AllByRecursion P more → AllByRecursion P (texts ++ more)
all_append P [] more h k = k
all_append P (t ∷ texts) more h k = (h.0, all_append P texts more h.1 k)

-- the texts of two sites together are of the language
pub legal_together : (texts more : List (List ℕ)) → AllByRecursion language.IsLegal texts → AllByRecursion language.IsLegal more → AllByRecursion language.IsLegal (texts ++ more)
legal_together = all_append language.IsLegal

-- a site that adds what another one refuses holds the unification of the texts of both
pub of_texts_together :
    (old late new : Table) (texts more : List (List ℕ)) → IsOfTexts old texts → IsOfTexts late more
    → AddsRefusals old (language.table_refuses late) new → language.IsValid new → IsOfTexts new (texts ++ more)
of_texts_together old late new texts more is others adds valid = (
  legal_together texts more is.0 others.0,
  rw map-append (unified_more old new (language.table_refuses late) (map text texts) (map text more) is.1 adds valid others.1.1),
)

-- a new site that adds what the bytes of a state refuse holds that state
pub of_state :
    (new : Table) (bytes : List ℕ) → language.IsState bytes → AddsRefusals empty_site (language.state_refuses bytes) new
    → language.IsValid new → IsOfState new bytes
of_state new bytes is adds valid =
    (is, unified_more empty_site new (language.state_refuses bytes) [] (state bytes ∷ []) new_site adds valid (one_piece (state bytes)))

-- one piece more
pub of_no_piece : IsOfPieces empty_site []
of_no_piece = (tt, new_site)

all_more : (pieces : List Piece) (more : Piece) → AllByRecursion IsAcceptable pieces → IsAcceptable more → AllByRecursion IsAcceptable (pieces ++ more ∷ [])
all_more [] more h p = (p, tt)
all_more (piece ∷ pieces) more h p = (h.0, all_more pieces more h.1 p)

-- a site that adds what one acceptable piece more refuses holds the unification of the pieces with it
pub of_one_piece_more :
    (old new : Table) (pieces : List Piece) (more : Piece) → IsOfPieces old pieces → IsAcceptable more
    → AddsRefusals old (piece_refuses language more) new → language.IsValid new → IsOfPieces new (pieces ++ more ∷ [])
of_one_piece_more old new pieces more is acceptable adds valid = (
  all_more pieces more is.0 acceptable,
  unified_more old new (piece_refuses language more) pieces (more ∷ []) is.1 adds valid (one_piece more),
)
