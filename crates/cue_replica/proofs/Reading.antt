-- State bytes that are read in pieces.
use Rattle.std.proofs.Common.{◌≡◌, ◌<◌, ◌^◌, ℕ, List, [], ◌∷◌, ◌++◌, length, Result, Ok, Err, IfOk, IfErr, is_ok, true, refl, ap, sym, ◌∙◌, subst, inl, inr, ap₂, lit<, append_assoc, append-nil}
use Rattle.std.proofs.lemmas.Bool.{false≢true}
use Rattle.std.specs.Int.{w64, to_be_bytes}
use Rattle.cue_lattice.specs.declared.refusal.Kind.{Kind}
use Rattle.cue_lattice.specs.declared.refusal.Refusal.{Refusal}
use Rattle.cue_lattice.specs.Refusal.{refusal_at}
use Rattle.cue_table.specs.Tree.{empty}
use Rattle.cue_table.specs.Valid.{IsValidTable}
use Rattle.cue_table.proofs.ValidWalks.{empty_valid}
use Rattle.cue_codec.specs.Decoding.{IsOtherStateVersion, IsNoState, IsUndecoded, IsRejected}
use Rattle.cue_codec.specs.Pieces.{Intake, so_far, other_version, no_state, failed, IsNoStatePrefix, IsIntake, IsTakenIn, IsReadTable, IsIntakeUnread}
use Rattle.cue_codec.specs.State.{state_mark, table_bytes, IsTableBytes}
use Rattle.cue_codec.proofs.ReadStates.{one_table}
use Rattle.cue_codec.proofs.WrittenStates.{state_parts}
use Rattle.cue_replica.specs.Inner.Reads.{ReadsTable}
use Rattle.cue_replica.specs.Language.{Table}
use Rattle.cue_replica.specs.Reading.{HasTakenIn, HasFaultAt, AreReadInPieces}
use Rattle.cue_replica.specs.States.{IsStateFault}
use Rattle.cue_replica.proofs.Sound.{own_table}

-- bytes that are read at once
pub read_at_once :
    (bytes : List ℕ) (read : Result Table Kind) → IfOk read IsValidTable → IfOk read (IsTableBytes bytes)
    → IfErr read (IsUndecoded bytes) → ReadsTable bytes read
read_at_once bytes (Ok table) valid spelled refused = record { valid = valid; spelled = spelled }
read_at_once bytes (Err kind) valid spelled refused = refused

-- the bytes of the opening table, where they are read, are read as that table
pub reads_opening :
    (bytes : List ℕ) (read : Result Table Kind) → length bytes < 2 ^ 64 → ReadsTable bytes read → is_ok read ≡ true
    → IsTableBytes bytes empty → read ≡ Ok empty
reads_opening bytes (Ok table) held reads ok is = ap Ok (one_table table empty bytes reads.valid empty_valid held reads.spelled is)
reads_opening bytes (Err kind) held reads ok is = absurd (false≢true ok)

-- bytes with which no state begins are those of none
begun_none : (bytes : List ℕ) → length bytes < 2 ^ 64 → IsNoStatePrefix bytes → IsNoState bytes
begun_none bytes held none = subst IsNoState (append-nil bytes) (
    λ tree sound told. none tree [] sound (subst (λ b. length b < 2 ^ 64) (sym (append-nil bytes)) held) told)

-- bytes that a reader was handed
pub read_in_pieces :
    (bytes : List ℕ) (intake : Intake) (read : Result Table Kind) → HasTakenIn intake bytes → IfOk read IsValidTable
    → IfOk read (IsReadTable intake) → IfErr read (IsIntakeUnread intake) → ReadsTable bytes read
read_in_pieces bytes (so_far taken) read is valid spelled refused =
    subst (λ b. ReadsTable b read) is.0 (read_at_once taken read valid spelled refused)
read_in_pieces bytes other_version (Ok table) is valid spelled refused = absurd spelled
read_in_pieces bytes other_version (Err kind) is valid spelled refused = inr (inl (refused, is.0))
read_in_pieces bytes no_state (Ok table) is valid spelled refused = absurd spelled
read_in_pieces bytes no_state (Err kind) is valid spelled refused =
    inr (inr (refused, is.0.1, begun_none bytes is.1 is.0.0))
read_in_pieces bytes failed read is valid spelled refused = absurd is.0

-- a fault at which a reader stands is what reading comes to
pub read_as_it_stands :
    (intake : Intake) (kind : Kind) (read : Result Table Kind) → HasFaultAt intake kind
    → IfOk read (IsReadTable intake) → IfErr read (IsIntakeUnread intake) → read ≡ Err kind
read_as_it_stands (so_far bytes) kind read stands spelled refused = absurd stands
read_as_it_stands other_version kind (Ok table) stands spelled refused = absurd spelled
read_as_it_stands other_version kind (Err other) stands spelled refused = ap (λ (k : Kind). Err k) (refused ∙ sym stands)
read_as_it_stands no_state kind (Ok table) stands spelled refused = absurd spelled
read_as_it_stands no_state kind (Err other) stands spelled refused = ap (λ (k : Kind). Err k) (refused ∙ sym stands)
read_as_it_stands failed kind (Ok table) stands spelled refused = absurd spelled
read_as_it_stands failed kind (Err other) stands spelled refused = ap (λ (k : Kind). Err k) (refused ∙ sym stands)

-- how the state of a table without rows begins
opening_bytes : table_bytes empty ≡ state_mark ++ (2 ∷ (to_be_bytes w64 0 ++ []))
opening_bytes = state_parts []

opening_held : length (table_bytes empty) < 2 ^ 64
opening_held = subst (λ b. length b < 2 ^ 64) (sym opening_bytes) (lit< tt)

-- what that state begins with begins a state
begins_some : (front back : List ℕ) → IsNoStatePrefix front → front ++ back ≡ table_bytes empty → ⊥
begins_some front back none is =
    none empty back empty_valid (subst (λ b. length b < 2 ^ 64) (sym is) opening_held)
    (subst (λ b. IsTableBytes b empty) (sym is) (own_table empty empty_valid).spelled)

-- bytes with which no state begins, and no other version, are not those of another version whatever follows them
stays_known : (bytes rest : List ℕ) → IsNoStatePrefix bytes → ¬ IsOtherStateVersion bytes → ¬ IsOtherStateVersion (bytes ++ rest)
stays_known [] rest none known (version, more, is, unknown) = begins_some [] (table_bytes empty) none refl
stays_known (a ∷ []) rest none known (version, more, is, unknown) =
    let back : List ℕ = 67 ∷ 85 ∷ 69 ∷ 2 ∷ (to_be_bytes w64 0 ++ []) in
    let at : a ≡ 254 = cc in
    begins_some (a ∷ []) back none (ap (λ x. x ∷ back) at ∙ sym opening_bytes)
stays_known (a ∷ b ∷ []) rest none known (version, more, is, unknown) =
    let back : List ℕ = 85 ∷ 69 ∷ 2 ∷ (to_be_bytes w64 0 ++ []) in
    let at : a ∷ b ∷ back ≡ 254 ∷ 67 ∷ back = cc in
    begins_some (a ∷ b ∷ []) back none (at ∙ sym opening_bytes)
stays_known (a ∷ b ∷ c ∷ []) rest none known (version, more, is, unknown) =
    let back : List ℕ = 69 ∷ 2 ∷ (to_be_bytes w64 0 ++ []) in
    let at : a ∷ b ∷ c ∷ back ≡ 254 ∷ 67 ∷ 85 ∷ back = cc in
    begins_some (a ∷ b ∷ c ∷ []) back none (at ∙ sym opening_bytes)
stays_known (a ∷ b ∷ c ∷ d ∷ []) rest none known (version, more, is, unknown) =
    let back : List ℕ = 2 ∷ (to_be_bytes w64 0 ++ []) in
    let at : a ∷ b ∷ c ∷ d ∷ back ≡ 254 ∷ 67 ∷ 85 ∷ 69 ∷ back = cc in
    begins_some (a ∷ b ∷ c ∷ d ∷ []) back none (at ∙ sym opening_bytes)
stays_known (a ∷ b ∷ c ∷ d ∷ e ∷ bytes) rest none known (version, more, is, unknown) =
    let at : a ∷ b ∷ c ∷ d ∷ e ∷ bytes ≡ 254 ∷ 67 ∷ 85 ∷ 69 ∷ version ∷ bytes = cc in
    known (version, bytes, at, unknown)

-- bytes of another version are, whatever follows them
stays_other : (bytes rest : List ℕ) → IsOtherStateVersion bytes → IsOtherStateVersion (bytes ++ rest)
stays_other bytes rest (version, more, is, unknown) = (version, more ++ rest, ap (λ b. b ++ rest) is, unknown)

more_taken_in :
    (bytes piece : List ℕ) (old new : Intake) → IsIntake bytes old → IsTakenIn old piece new → IsIntake (bytes ++ piece) new
more_taken_in bytes piece (so_far taken) new is more = subst (λ b. IsIntake (b ++ piece) new) is more
more_taken_in bytes piece other_version new is more =
    subst (IsIntake (bytes ++ piece)) (sym more) (stays_other bytes piece is)
more_taken_in bytes piece no_state new is more =
    subst (IsIntake (bytes ++ piece)) (sym more) (
      λ tree rest sound held told.
          let joined = append_assoc bytes piece rest in
          is.0 tree (piece ++ rest) sound (subst (λ b. length b < 2 ^ 64) joined held) (subst (λ b. IsTableBytes b tree) joined told),
      stays_known bytes piece is.0 is.1,
    )
more_taken_in bytes piece failed new is more = absurd is

stands_for_good :
    (bytes rest : List ℕ) (intake : Intake) (kind : Kind) → IsIntake bytes intake → HasFaultAt intake kind
    → length (bytes ++ rest) < 2 ^ 64 → IsStateFault (bytes ++ rest) (refusal_at kind 0)
stands_for_good bytes rest (so_far taken) kind is stands held = absurd stands
stands_for_good bytes rest other_version kind is stands held = (refl, inl (stands, stays_other bytes rest is))
stands_for_good bytes rest no_state kind is stands held =
    (refl, inr (stands, stays_known bytes rest is.0 is.1, λ tree sound told. is.0 tree rest sound held told))
stands_for_good bytes rest failed kind is stands held = absurd is

same_kind : (bytes : List ℕ) (kind other : Kind) → IsRejected bytes kind → IsRejected bytes other → kind ≡ other
same_kind bytes kind other (inl h) (inl k) = h.0 ∙ sym k.0
same_kind bytes kind other (inl h) (inr k) = absurd (k.1 h.1)
same_kind bytes kind other (inr h) (inl k) = absurd (h.1 k.1)
same_kind bytes kind other (inr h) (inr k) = h.0 ∙ sym k.0

one_fault : (bytes : List ℕ) (why other : Refusal) → IsStateFault bytes why → IsStateFault bytes other → why ≡ other
one_fault bytes why other h k =
    let kinds_are = same_kind bytes why.kind other.kind h.1 k.1 in
    ap₂ (λ (kind : Kind) (place : ℕ). refusal_at kind place) kinds_are (h.0 ∙ sym k.0)

pub are_read_in_pieces : AreReadInPieces
are_read_in_pieces = record {
  none = refl;
  more = more_taken_in;
  stands = stands_for_good;
  one_fault = one_fault;
}
