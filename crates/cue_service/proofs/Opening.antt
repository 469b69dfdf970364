-- Pieces that are handed to a site one after the other.
use Rattle.std.proofs.Common.{◌≡◌, ℕ, List, [], ◌∷◌, ◌++◌, Result, Ok, Err, OnOk, OnErr, is_ok, is_err, true, false, sym, ap, ◌∙◌, subst, append_assoc}
use Rattle.cue_lattice.specs.World.{Piece}
use Rattle.cue_replica.specs.Accepted.{IsAcceptable, IsOfPieces}
use Rattle.cue_replica.specs.Language.{Table, language}
use Rattle.cue_replica.specs.Replica.{AddsRefusals}
use Rattle.cue_replica.proofs.Adding.{one_piece, unified_more}
use Rattle.cue_lattice.specs.World.{piece_refuses}
use Rattle.cue_service.specs.Entries.{piece_of_entry, pieces_of}
use Rattle.cue_service.proofs.Alike.{all_append, pieces_append}

-- one piece more
pub piece_added : {X E : Type 0} (r : Result X E) (old new : Table) (piece : Piece) → OnOk r (IsAcceptable piece) → OnOk r (AddsRefusals old (piece_refuses language piece) new) → OnOk r (language.IsValid new)
    → OnOk r ((pieces : List Piece) → IsOfPieces old pieces → IsOfPieces new (pieces ++ piece ∷ []))
piece_added (Ok x) old new piece acceptable adds valid = λ pieces of.
    (all_append IsAcceptable pieces (piece ∷ []) of.0 (acceptable, tt), unified_more old new _ pieces (piece ∷ []) of.1 adds valid (one_piece piece))
piece_added (Err e) old new piece acceptable adds valid = tt

-- one entry more
pub entry_added : (old mid new : Table) (entries : List (List ℕ)) (entry : List ℕ)
    → ((pieces : List Piece) → IsOfPieces old pieces → IsOfPieces mid (pieces ++ pieces_of entries))
    → ((pieces : List Piece) → IsOfPieces mid pieces → IsOfPieces new (pieces ++ piece_of_entry entry ∷ []))
    → (pieces : List Piece) → IsOfPieces old pieces → IsOfPieces new (pieces ++ pieces_of (entries ++ entry ∷ []))
entry_added old mid new entries entry so_far more pieces of =
    subst (IsOfPieces new) (append_assoc pieces (pieces_of entries) (piece_of_entry entry ∷ []) ∙ ap (λ (l : List Piece). pieces ++ l) (sym (pieces_append entries (entry ∷ []))))
    (more (pieces ++ pieces_of entries) (so_far pieces of))

-- what a call that did not fail ensures
pub not_failed : {X E P : Type 0} (r : Result X E) → is_err r ≡ false → OnOk r P → P
not_failed (Ok x) fine p = p
not_failed (Err e) failed p = absurd cc

-- and what one that failed does
pub has_failed : {X E P : Type 0} (r : Result X E) → is_err r ≡ true → OnErr r P → P
has_failed (Ok x) fine p = absurd cc
has_failed (Err e) failed p = p

pub took : {X E P : Type 0} (r : Result X E) → is_ok r ≡ true → OnOk r P → P
took (Ok x) fine p = p
took (Err e) failed p = absurd cc

pub refused : {X E P : Type 0} (r : Result X E) → is_ok r ≡ false → OnErr r P → P
refused (Ok x) fine p = absurd cc
refused (Err e) failed p = p

-- what follows of that
pub on_ok : {X E A B : Type 0} (r : Result X E) → (A → B) → OnOk r A → OnOk r B
on_ok (Ok x) f a = f a
on_ok (Err e) f a = tt
