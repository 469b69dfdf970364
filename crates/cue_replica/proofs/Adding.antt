-- What a site adds to its table, against what its set of pieces gains.
use Rattle.std.proofs.Common.{List, [], ◌∷◌, ◌++◌, refl, sym, subst, inl, inr, ⊎_elim}
use Rattle.cue_lattice.specs.OneOf.{OneOf}
use Rattle.cue_lattice.specs.Question.{Refusals, SameAnswers}
use Rattle.cue_lattice.specs.World.{Piece, piece_refuses, pieces_refuse, IsUnified}
use Rattle.cue_lattice.specs.World as world
use Rattle.cue_lattice.proofs.OneOf.{one_of-append}
use Rattle.cue_row.specs.Row.{RefusesAsked, RowRefusesQuestion}
use Rattle.cue_row.specs.Questions.{asked_by_question}
use Rattle.cue_table.specs.Meet.{IsMet}
use Rattle.cue_table.specs.Refuses.{TableRefuses}
use Rattle.cue_replica.specs.Language.{Table, language}
use Rattle.cue_replica.specs.Replica.{AddsRefusals}
use Rattle.cue_replica.proofs.Asked.{asked}

-- a meet with a table adds what that table refuses
pub adds_met : (old more new : Table) (added : Refusals) → IsMet RefusesAsked old more new → SameAnswers (TableRefuses RowRefusesQuestion more) added → AddsRefusals old added new
adds_met old more new added met same path question =
    let m = met path (asked_by_question question) in
    let s = same path question in
    let before = asked old path question in
    let other = asked more path question in
    let after = asked new path question in (
      λ h. ⊎_elim (λ p. inl (before.0 p)) (λ p. inr (s.0 (other.0 p))) (m.0 (after.1 h)),
      λ h. after.0 (m.1 (⊎_elim (λ p. inl (before.1 p)) (λ p. inr (other.1 (s.1 p))) h)),
    )

-- one piece alone
pub one_piece : (piece : Piece) → SameAnswers (piece_refuses language piece) (pieces_refuse language (piece ∷ []))
one_piece piece path question = (λ h. inl h, ⊎_elim (λ h. h) (λ h. absurd h))

-- more pieces for a site, by what they refuse
pub unified_more :
    (old new : Table) (added : Refusals) (pieces more : List Piece) → IsUnified language old pieces → AddsRefusals old added new
    → language.IsValid new → SameAnswers added (pieces_refuse language more)
    → IsUnified language new (pieces ++ more)
unified_more old new added pieces more unified adds valid same = (
  valid,
  λ path question.
      let u = unified.1 path question in
      let a = adds path question in
      let s = same path question in
      let parts = one_of-append (λ (piece : Piece). piece_refuses language piece path question) pieces more in (
        λ h. parts.1 (⊎_elim (λ p. inl (u.0 p)) (λ p. inr (s.0 p)) (a.0 h)),
        λ h. a.1 (⊎_elim (λ p. inl (u.1 p)) (λ p. inr (s.1 p)) (parts.0 h)),
      ),
)

-- a set of pieces refuses what another set of the same pieces does
one_of_same : (P : Piece → Type 0) (a b : List Piece) → ((piece : Piece) → world.IsInSet a piece → world.IsInSet b piece) → OneOf P a → OneOf P b
one_of_same P [] b sub h = absurd h
one_of_same P (x ∷ a) b sub h =
    ⊎_elim (λ p. holds_at P b x (sub x (inl refl)) p) (λ p. one_of_same P a b (λ piece k. sub piece (inr k)) p) h
  where
    holds_at : (P : Piece → Type 0) (b : List Piece) (x : Piece) → world.IsInSet b x → P x → OneOf P b
    holds_at P [] x h p = absurd h
    holds_at P (y ∷ b) x h p = ⊎_elim (λ e. inl (subst P (sym e) p)) (λ k. inr (holds_at P b x k p)) h

-- two lists with the same pieces refuse the same
pub same_pieces_refuse : (a b : List Piece) → world.SamePieces a b → SameAnswers (pieces_refuse language a) (pieces_refuse language b)
same_pieces_refuse a b same path question =
    let P = λ (piece : Piece). piece_refuses language piece path question in
    (λ h. one_of_same P a b (λ piece. (same piece).0) h, λ h. one_of_same P b a (λ piece. (same piece).1) h)
