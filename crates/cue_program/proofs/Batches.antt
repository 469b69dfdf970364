-- Pieces that are taken in batches.
use Rattle.std.proofs.Common.{◌≡◌, ℕ, List, [], ◌∷◌, ◌++◌, map, refl, sym, ap, subst, ◌∙◌}
use Rattle.std.specs.List.{AllByRecursion}
use Rattle.std.proofs.lemmas.List.{append_assoc, append-nil}
use Rattle.cue_lattice.specs.World.{Piece, text, piece_refuses}
use Rattle.cue_replica.specs.Accepted.{IsAcceptable, IsOfPieces, IsOfTexts}
use Rattle.cue_replica.specs.Language.{Table, language, empty_site}
use Rattle.cue_replica.specs.Replica.{AddsRefusals}
use Rattle.cue_replica.proofs.Accepted.{of_no_piece, of_one_piece_more}
use Rattle.cue_replica.proofs.Adding.{unified_more}
use Rattle.cue_program.specs.inner.Gathered.{HaveTaken}

acceptable_together : (pieces more : List Piece) → AllByRecursion IsAcceptable pieces → AllByRecursion IsAcceptable more → AllByRecursion IsAcceptable (pieces ++ more)
acceptable_together [] more h k = k
acceptable_together (piece ∷ pieces) more h k = (h.0, acceptable_together pieces more h.1 k)

-- all pieces are acceptable
pub all_acceptable : (site batch : Table) (pieces : List Piece) → HaveTaken site batch pieces → AllByRecursion IsAcceptable pieces
all_acceptable site batch pieces h = subst (AllByRecursion IsAcceptable) (sym h.2) (acceptable_together h.0 h.1 h.3.0 h.4.0)

all_texts_legal : (texts : List (List ℕ)) → AllByRecursion IsAcceptable (map text texts) → AllByRecursion language.IsLegal texts
all_texts_legal [] h = tt
all_texts_legal (t ∷ texts) h = (h.0, all_texts_legal texts h.1)

-- and of texts each is of the language
pub all_legal : (site batch : Table) (texts : List (List ℕ)) → HaveTaken site batch (map text texts) → AllByRecursion language.IsLegal texts
all_legal site batch texts h = all_texts_legal texts (all_acceptable site batch (map text texts) h)

-- the unification of pieces that are texts is that of the texts
pub of_texts : (site : Table) (texts : List (List ℕ)) → IsOfPieces site (map text texts) → IsOfTexts site texts
of_texts site texts h = (all_texts_legal texts h.0, h.1)

-- two new sites have taken nothing
pub none_taken : (site batch : Table) → site ≡ empty_site → batch ≡ empty_site → HaveTaken site batch []
none_taken site batch is also = (
  [],
  [],
  refl,
  subst (λ (t : Table). IsOfPieces t []) (sym is) of_no_piece,
  subst (λ (t : Table). IsOfPieces t []) (sym also) of_no_piece,
)

-- the batch has taken one piece more
pub one_more_taken :
    (site batch new : Table) (pieces : List Piece) (more : Piece) → HaveTaken site batch pieces → IsAcceptable more
    → AddsRefusals batch (piece_refuses language more) new → language.IsValid new → HaveTaken site new (pieces ++ more ∷ [])
one_more_taken site batch new pieces more h acceptable adds valid = (
  h.0,
  h.1 ++ more ∷ [],
  ap (λ (l : List Piece). l ++ more ∷ []) h.2 ∙ append_assoc h.0 h.1 (more ∷ []),
  h.3,
  of_one_piece_more batch new h.1 more h.4 acceptable adds valid,
)

-- a site that adds what the batch refuses has taken all pieces
pub all_taken :
    (site batch new : Table) (pieces : List Piece) → HaveTaken site batch pieces → AddsRefusals site (language.table_refuses batch) new
    → language.IsValid new → IsOfPieces new pieces
all_taken site batch new pieces h adds valid = subst (IsOfPieces new) (sym h.2) (
  acceptable_together h.0 h.1 h.3.0 h.4.0,
  unified_more site new (language.table_refuses batch) h.0 h.1 h.3.1 adds valid h.4.1.1,
)

-- and a new batch none
pub all_in_front : (site batch : Table) (pieces : List Piece) → IsOfPieces site pieces → batch ≡ empty_site → HaveTaken site batch pieces
all_in_front site batch pieces h new = (
  pieces,
  [],
  sym (append-nil pieces),
  h,
  subst (λ (t : Table). IsOfPieces t []) (sym new) of_no_piece,
)
