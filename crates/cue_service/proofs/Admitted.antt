-- What comes of a piece that is posted, from one desk to another.
use Rattle.std.proofs.Common.{◌≡◌, ◌⊎◌, ⊎_elim, ℕ, List, Result, Ok, Err, IfOk, inl, inr, refl, sym, ap, subst, ◌∙◌}
use Rattle.cue_lattice.specs.Question.{Refusals, SameAnswers}
use Rattle.cue_lattice.specs.World.{Piece, piece_refuses}
use Rattle.cue_replica.specs.Language.{Table, language, empty_site}
use Rattle.cue_replica.specs.Replica.{AddsRefusals}
use Rattle.cue_replica.specs.declared.question.SiteQuestion.{SiteQuestion}
use Rattle.cue_replica.proofs.Accepted.{new_site}
use Rattle.cue_journal.specs.Batches.{batch_bytes}
use Rattle.cue_journal.specs.Listed.{Listed, GivesUp}
use Rattle.cue_service.specs.declared.admission.Admission.{Admission}
use Rattle.cue_service.specs.declared.admission.Admission.TheVariants.{Accepted, OverLimit}
use Rattle.cue_service.specs.declared.desk.SiteCore.{SiteCore}
use Rattle.cue_service.specs.declared.rules.SiteRules.{SiteRules}
use Rattle.cue_service.specs.Answering.{IsSame, IsPieceTaken, IsTagKnown, IsSpared}
use Rattle.cue_service.specs.Inner.Admissions.{IsAdmitted, IsAdmittedOrKnown}
use Rattle.cue_service.specs.Limits.{CostsTooMuch}
use Rattle.cue_service.proofs.Gathered.{both_same, taken_from}
use Rattle.cue_service.proofs.Sparing.{spared, spared_from, taken_spared}

-- a table to which a piece alone was added
pub alone : (empty new : Table) (added : Refusals) → empty ≡ empty_site → AddsRefusals empty added new → SameAnswers (language.table_refuses new) added
alone empty new added is adds path question =
    let a = subst (λ (t : Table). AddsRefusals t added new) is adds path question in (
      λ h. ⊎_elim (λ none. absurd ((new_site.1 path question).0 none)) (λ x. x) (a.0 h),
      λ h. a.1 (inr h),
    )

-- what is added, by what refuses the same
pub adds_same : (old new : Table) (told added : Refusals) → SameAnswers told added → AddsRefusals old told new → AddsRefusals old added new
adds_same old new told added same adds path question =
    let a = adds path question in
    let s = same path question in (
      λ h. ⊎_elim (λ p. inl p) (λ p. inr (s.0 p)) (a.0 h),
      λ h. a.1 (⊎_elim (λ p. inl p) (λ p. inr (s.1 p)) h),
    )

same_costs : (limit limit' : ℕ) (table table' : Table) (piece : Piece) → limit ≡ limit' → table ≡ table' → CostsTooMuch limit' table' piece → CostsTooMuch limit table piece
same_costs limit limit' table table' piece first second costs =
    subst (λ (t : Table). CostsTooMuch limit t piece) (sym second) (subst (λ (l : ℕ). CostsTooMuch l table' piece) (sym first) costs)

-- from a desk of which older pieces were given up
pub admitted_spared : (piece : Piece) (admission : Admission) (old mid new : SiteCore) → mid.rules ≡ old.rules → mid.board ≡ old.board → batch_bytes mid.batch ≡ batch_bytes old.batch → GivesUp old.pieces mid.pieces
    → IsAdmitted IsSame piece admission mid new → IsAdmittedOrKnown IsSpared piece admission old new
admitted_spared piece Accepted old mid new rules table waits gives taken = inl (taken_spared piece old mid new rules table waits gives taken)
admitted_spared piece (OverLimit question) old mid new rules table waits gives (same, costs) =
    inl (spared_from old mid new rules table waits gives same, same_costs _ _ _ _ piece (ap (λ (r : SiteRules). r.limit) (sym rules)) (sym table) costs)

-- what is the same is so where nothing was given up
pub known_spared : (piece : Piece) (admission : Admission) (old new : SiteCore) → IsAdmittedOrKnown IsSame piece admission old new → IsAdmittedOrKnown IsSpared piece admission old new
known_spared piece Accepted old new (inl taken) = inl taken
known_spared piece (OverLimit question) old new (inl (same, costs)) = inl (spared old new same, costs)
known_spared piece admission old new (inr known) = inr known

pub known_spared_if : {E : Type 0} (r : Result Admission E) (piece : Piece) (old new : SiteCore) → IfOk r (λ admission. IsAdmittedOrKnown IsSame piece admission old new) → IfOk r (λ admission. IsAdmittedOrKnown IsSpared piece admission old new)
known_spared_if (Ok admission) piece old new is = known_spared piece admission old new is
known_spared_if (Err e) piece old new is = tt

pub admitted_spared_if : {E : Type 0} (r : Result Admission E) (piece : Piece) (old mid new : SiteCore) → mid.rules ≡ old.rules → mid.board ≡ old.board → batch_bytes mid.batch ≡ batch_bytes old.batch → GivesUp old.pieces mid.pieces
    → IfOk r (λ admission. IsAdmitted IsSame piece admission mid new) → IfOk r (λ admission. IsAdmittedOrKnown IsSpared piece admission old new)
admitted_spared_if (Ok admission) piece old mid new rules table waits gives is = admitted_spared piece admission old mid new rules table waits gives is
admitted_spared_if (Err e) piece old mid new rules table waits gives is = tt

-- from a desk of which only counts differ
pub admitted_from : (piece : Piece) (admission : Admission) (old mid new : SiteCore) → IsSame old mid → IsAdmitted IsSame piece admission mid new → IsAdmitted IsSame piece admission old new
admitted_from piece Accepted old mid new same taken = taken_from piece old mid new same taken
admitted_from piece (OverLimit question) old mid new same (still, costs) =
    (both_same old mid new same still, same_costs _ _ _ _ piece (ap (λ (r : SiteRules). r.limit) (sym same.rules)) (sym same.table) costs)

pub admitted_from_if : {E : Type 0} (r : Result Admission E) (piece : Piece) (old mid new : SiteCore) → IsSame old mid → IfOk r (λ admission. IsAdmitted IsSame piece admission mid new) → IfOk r (λ admission. IsAdmitted IsSame piece admission old new)
admitted_from_if (Ok admission) piece old mid new same is = admitted_from piece admission old mid new same is
admitted_from_if (Err e) piece old mid new same is = tt

-- an answer that says that it is accepted, or that it costs too much
pub accepted : (piece : Piece) (old new : SiteCore) → IsAdmittedOrKnown IsSpared piece Accepted old new → IsPieceTaken piece old new ⊎ IsTagKnown piece old new
accepted piece old new (inl taken) = inl taken
accepted piece old new (inr known) = inr known.1

pub too_much : (piece : Piece) (question : SiteQuestion) (old new : SiteCore) → IsAdmittedOrKnown IsSpared piece (OverLimit question) old new → IsSpared old new × CostsTooMuch old.rules.limit old.board piece
too_much piece question old new (inl costs) = costs
too_much piece question old new (inr known) = absurd (not_accepted known.0)
  where
    not_accepted : OverLimit question ≡ Accepted → ⊥
    not_accepted e = cc
