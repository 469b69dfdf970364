-- What a site has taken of a reader's bytes.
use Rattle.std.proofs.Common.{◌≡◌, ◌≢◌, ℕ, ◌+◌, ◌-◌, ◌^◌, min, List, [], ◌∷◌, ◌++◌, Option, Some, map, length, Bor, ◌<◌, arith, refl, sym, ◌∙◌, subst, inl, inr}
use Rattle.std.specs.Prelude.{slice_get}
use Rattle.std.proofs.lemmas.List.{append_assoc}
use Rattle.cue_lattice.specs.World.{Piece, text, state}
use Rattle.cue_replica.specs.Language.{Table, language, empty_site}
use Rattle.cue_replica.specs.Replica.{AddsRefusals}
use Rattle.cue_replica.specs.Accepted.{IsAcceptable}
use Rattle.cue_replica.specs.declared.Refusal.{Refusal}
use Rattle.cue_replica.proofs.Accepted.{of_no_piece, of_one_piece_more}
use Rattle.cue_program.specs.declared.stop.RunError.{RunError}
use Rattle.cue_program.specs.Files.{AreAll, Holdings, known_at, texts_of_files}
use Rattle.cue_program.specs.Inputs.{AreStreamPieces, IsUnified, IsFirstRefused, IsInputRefused, IsPieceRefusal, IsStateInputRefusal, files, inputs_of, stream}
use Rattle.cue_program.specs.Stops.{IsRefusedAs}
use Rattle.cue_program.specs.inner.Texts.{AreTexts, IsPartRefused, IsTextRefused}
use Rattle.cue_program.proofs.SubmittedInputs.{all_texts, length_texts, map_texts}

-- one state
pub of_one_state :
    (bytes : List ℕ) (new : Table) → slice_get bytes 0 ≡ Some 254 → language.IsState bytes → AddsRefusals empty_site (language.state_refuses bytes) new
    → language.IsValid new → IsUnified (stream (Some bytes)) new
of_one_state bytes new first is adds valid =
    (state bytes ∷ [], (bytes, refl, inl (first, refl)), of_one_piece_more empty_site new [] (state bytes) of_no_piece is adds valid)

pub refused_state :
    (bytes : List ℕ) (why : Refusal) (stop : RunError) → slice_get bytes 0 ≡ Some 254 → IsStateInputRefusal bytes why → IsRefusedAs why 1 stop
    → IsInputRefused (stream (Some bytes)) stop
refused_state bytes why stop first fault told = record {
  before = [];
  piece = state bytes;
  why = why;
  begin = (state bytes ∷ [], [], (bytes, refl, inl (first, refl)), refl);
  accepted = tt;
  refusal = fault;
  told = told;
}

-- texts
pub texts_held : (bytes : List ℕ) (table : Table) → slice_get bytes 0 ≢ Some 254 → AreTexts bytes table → IsUnified (stream (Some bytes)) table
texts_held bytes table first h =
    (map text h.0, (bytes, refl, inr (first, (h.0, h.1, refl))), (all_texts IsAcceptable h.0 h.2.0, h.2.1))

-- the first part that is refused
pub parts_refused :
    (IsFine : Piece → Type 0) (IsReason : Piece → Refusal → Type 0) (bytes : List ℕ) (stop : RunError) → slice_get bytes 0 ≢ Some 254
    → IsPartRefused (λ part. IsFine (text part)) (λ part. IsReason (text part)) bytes stop → IsFirstRefused IsFine IsReason (stream (Some bytes)) stop
parts_refused IsFine IsReason bytes stop first h =
    let before = h.0 in
    let part = h.1 in
    let others = h.2 in
    let whole : map text (before ++ part ∷ others) ≡ (map text before ++ text part ∷ []) ++ map text others =
    map_texts before (part ∷ others) ∙ sym (append_assoc (map text before) (text part ∷ []) (map text others)) in
    record {
      before = map text before;
      piece = text part;
      why = h.5.0;
      begin = (map text (before ++ part ∷ others), map text others, (bytes, refl, inr (first, (before ++ part ∷ others, h.3, refl))), whole);
      accepted = all_texts IsFine before h.4;
      refusal = h.5.2;
      told = subst (λ (n : ℕ). IsRefusedAs h.5.0 (min (n + 1) (2 ^ 64 - 1)) stop) (sym (length_texts before)) h.5.1;
    }

pub texts_refused : (bytes : List ℕ) (stop : RunError) → slice_get bytes 0 ≢ Some 254 → IsTextRefused bytes stop → IsInputRefused (stream (Some bytes)) stop
texts_refused bytes stop first h = parts_refused IsAcceptable IsPieceRefusal bytes stop first h

-- without a name the reader is the input, and otherwise the files are
pub inputs_none : (held : Option Holdings) (names : List (Bor (List ℕ))) (known : Option (List ℕ)) → length names ≡ 0 → inputs_of held (texts_of_files names) known ≡ stream known
inputs_none held [] known none = refl
inputs_none held (name ∷ names) known none = absurd (omega arith)

pub inputs_some :
    (held : Option Holdings) (names : List (Bor (List ℕ))) (known : Option (List ℕ)) → 0 < length names
    → inputs_of held (texts_of_files names) known ≡ files (map (known_at held) (texts_of_files names))
inputs_some held [] known some = absurd (omega arith)
inputs_some held (name ∷ names) known some = refl

-- bytes that are all that a reader had
pub held_of_known : (known : Option (List ℕ)) (bytes : List ℕ) (table : Table) → AreAll known bytes → IsUnified (stream (Some bytes)) table → IsUnified (stream known) table
held_of_known known bytes table all h =
    (h.0, (bytes, all, subst (λ (b : List ℕ). AreStreamPieces b h.0) h.1.1 h.1.2), h.2)

pub refused_of_known :
    (IsFine : Piece → Type 0) (IsReason : Piece → Refusal → Type 0) (known : Option (List ℕ)) (bytes : List ℕ) (stop : RunError) → AreAll known bytes
    → IsFirstRefused IsFine IsReason (stream (Some bytes)) stop → IsFirstRefused IsFine IsReason (stream known) stop
refused_of_known IsFine IsReason known bytes stop all h = record {
  before = h.before;
  piece = h.piece;
  why = h.why;
  begin = (h.begin.0, h.begin.1, (bytes, all, subst (λ (b : List ℕ). AreStreamPieces b h.begin.0) h.begin.2.1 h.begin.2.2), h.begin.3);
  accepted = h.accepted;
  refusal = h.refusal;
  told = h.told;
}
