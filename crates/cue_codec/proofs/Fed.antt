-- States whose bytes come in pieces: what may follow a head.
use Rattle.std.proofs.Common.{◌≡◌, ℕ, ◌+◌, ◌^◌, ◌<◌, ◌≤◌, List, ◌∷◌, ◌++◌, append_assoc, length, take, drop, ⊎_elim, refl, sym, ap, subst, ◌∙◌, arith}
use Rattle.std.specs.Int.{w64, to_be_bytes}
use Rattle.std.proofs.lemmas.List.{length-append, take-append-drop, take-append-le}
use Rattle.cue_lattice.specs.declared.refusal.Kind.{Kind}
use Rattle.cue_lattice.specs.declared.refusal.Kind.TheVariants as kinds
use Rattle.cue_codec.specs.declared.version.Version.{Version}
use Rattle.cue_codec.specs.Decoding.{IsOtherStateVersion, IsRejected, HasStateHead}
use Rattle.cue_codec.specs.Inner.Drafting.{IsNoRowsPrefix}
use Rattle.cue_codec.specs.Inner.Intakes.{with_head}
use Rattle.cue_codec.specs.Pieces.{IsNoStatePrefix}
use Rattle.cue_codec.specs.State.{state_mark}
use Rattle.cue_codec.specs.Version.{version_byte}
use Rattle.cue_codec.proofs.Codes.{wide64}
use Rattle.cue_codec.proofs.ReadStates.{known_version, table_begins, valid_read}

-- where no rows begin so behind a head, no state does
pub no_rows_no_state : (version : Version) (count : ℕ) (bytes : List ℕ) → count < 2 ^ 64 → IsNoRowsPrefix version count bytes
    → IsNoStatePrefix (with_head version count bytes) × (IsOtherStateVersion (with_head version count bytes) → ⊥)
no_rows_no_state version count bytes lt none = (
  λ tree rest h fits is.
      let longer : with_head version count bytes ++ rest ≡ with_head version count (bytes ++ rest) = ap (λ t. state_mark ++ (version_byte version ∷ t)) (append_assoc (to_be_bytes w64 count) bytes rest) in
      none rest tree (valid_read version (with_head version count bytes ++ rest) (bytes ++ rest) count tree longer lt fits h is),
  known_version version (with_head version count bytes) (to_be_bytes w64 count ++ bytes) refl,
)

-- ---- what the first bytes decide

pub other_more : (bytes more : List ℕ) → IsOtherStateVersion bytes → IsOtherStateVersion (bytes ++ more)
other_more bytes more other = (other.0, other.1 ++ more, ap (λ t. t ++ more) other.2, other.3)

other_front : (bytes more : List ℕ) → 13 ≤ length bytes → IsOtherStateVersion (bytes ++ more) → IsOtherStateVersion bytes
other_front bytes more long other =
    let same : take 5 bytes ≡ take 5 (state_mark ++ (other.0 ∷ other.1)) = sym (take-append-le 5 bytes more (omega (arith, long))) ∙ ap (take 5) other.2 in
    (other.0, drop 5 bytes, sym (take-append-drop 5 bytes) ∙ ap (λ t. t ++ drop 5 bytes) same, other.3)

begun_front : (bytes more : List ℕ) → 13 ≤ length bytes → HasStateHead (bytes ++ more) → HasStateHead bytes
begun_front bytes more long begun =
    let same : take 13 bytes ≡ take 13 (state_mark ++ (version_byte begun.0 ∷ (to_be_bytes w64 begun.1 ++ begun.2))) = sym (take-append-le 13 bytes more long) ∙ ap (take 13) begun.3 in
    (begun.0, begun.1, drop 13 bytes, sym (take-append-drop 13 bytes) ∙ ap (λ t. t ++ drop 13 bytes) same)

-- a head with which no state begins
pub no_head_no_state : (bytes more : List ℕ) → 13 ≤ length bytes → (HasStateHead bytes → ⊥) → (IsOtherStateVersion bytes → ⊥) → IsNoStatePrefix (bytes ++ more) × (IsOtherStateVersion (bytes ++ more) → ⊥)
no_head_no_state bytes more long none known = (
  λ tree rest h fits is.
      let begun : HasStateHead (bytes ++ (more ++ rest)) = subst HasStateHead (append_assoc bytes more rest) (table_begins tree ((bytes ++ more) ++ rest) is) in
      none (begun_front bytes (more ++ rest) long begun),
  λ other. known (other_front bytes more long other),
)

-- of what kind a rejection is
pub rejected_version : (bytes : List ℕ) → IsRejected bytes kinds.Version → IsOtherStateVersion bytes
rejected_version bytes rejected = ⊎_elim (λ p. p.1) (λ p. absurd (clash p.0)) rejected
  where
    clash : kinds.Version ≡ kinds.NotState → ⊥
    clash e = cc

pub rejected_known : (bytes : List ℕ) (kind : Kind) → (kind ≡ kinds.Version → ⊥) → IsRejected bytes kind → IsOtherStateVersion bytes → ⊥
rejected_known bytes kind not rejected = ⊎_elim (λ p. absurd (not p.0)) (λ p. p.1) rejected

-- a head has 13 bytes
pub head_fits : (version : Version) (count : ℕ) (bytes : List ℕ) → length bytes + 13 < 2 ^ 64 → length (with_head version count bytes) < 2 ^ 64
head_fits version count bytes fits =
    let number : List ℕ = to_be_bytes w64 count in
    omega (arith, fits, length-append state_mark (version_byte version ∷ (number ++ bytes)), length-append number bytes, wide64.len count)
