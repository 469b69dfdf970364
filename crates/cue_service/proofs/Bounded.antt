-- Answers of at most so many bytes.
use Rattle.std.proofs.Common.{◌≡◌, ◌<◌, ◌≤◌, ◌++◌, ℕ, List, [], length, take, drop, Some, Result, Ok, Err, IfOk, OnErr, IsTrue, Bool, true, false, sym, ap, ◌∙◌, subst, arith}
use Rattle.std.proofs.lemmas.List.{length-append, take-append-drop}
use Rattle.cue_device.specs.Texts.{WritesPrefix}
use Rattle.cue_replica.specs.Answers.{IsAnswer, WritesAnswer, WritesAnswerPrefix}
use Rattle.cue_replica.specs.Language.{Table}
use Rattle.cue_replica.specs.declared.question.SiteQuestion.{SiteQuestion}
use Rattle.cue_replica.specs.declared.question.Status.{Status}
use Rattle.cue_replica.proofs.OneAnswer.{one_answer}
use Rattle.cue_service.specs.declared.kept.KeptAnswer.{KeptAnswer}
use Rattle.cue_service.specs.Kept.{IsKeptAnswer, IsFoundWithin}
use Rattle.cue_service.specs.Limits.{IsOverLimit}

-- one answer that is over the limit, and there is no other
pub over_by : (limit : ℕ) (question : SiteQuestion) (table : Table) (bytes : List ℕ) (status : Status) → IsAnswer question table bytes status → limit < length bytes → IsOverLimit limit question table
over_by limit question table bytes status is more other also answers =
    subst (λ (l : List ℕ). limit < length l) (sym (one_answer table question other bytes also status answers is).0) more

pub kept_over : (limit : ℕ) (question : SiteQuestion) (table : Table) (told : KeptAnswer) → IsKeptAnswer question table told → limit < length told.bytes → IsOverLimit limit question table
kept_over limit question table told kept more =
    over_by limit question table kept.0.bytes.items kept.0.status kept.1 (subst (λ (l : List ℕ). limit < length l) kept.2 more)

pub lower_over : (limit more : ℕ) (question : SiteQuestion) (table : Table) → limit ≤ more → IsOverLimit more question table → IsOverLimit limit question table
lower_over limit more question table less over bytes status is = omega (arith, over bytes status is)

pub same_within : (limit : ℕ) (question : SiteQuestion) (table : Table) (told shared : KeptAnswer) → shared ≡ told → IsKeptAnswer question table told → length told.bytes ≤ limit → IsFoundWithin limit question table (Some shared)
same_within limit question table told shared same kept fits =
    subst (λ (t : KeptAnswer). IsFoundWithin limit question table (Some t)) (sym same) (kept, fits)

-- what was written is the answer
pub written : (question : SiteQuestion) (table : Table) (status : Status) (bytes : List ℕ) → WritesAnswer question table status (Some []) (Some bytes) → IsAnswer question table bytes status
written question table status bytes writes = subst (λ (l : List ℕ). IsAnswer question table l status) (sym writes.2) writes.1

-- what was written of an answer is over the limit
pub told_over : {E : Type 0} (r : Result Status E) (limit : ℕ) (question : SiteQuestion) (table : Table) (bytes : List ℕ) → limit < length bytes
    → IfOk r (λ status. WritesAnswer question table status (Some []) (Some bytes)) → OnErr r (WritesAnswerPrefix question table (Some []) (Some bytes)) → IsOverLimit limit question table
told_over (Ok status) limit question table bytes more writes begun = over_by limit question table bytes status (written question table status bytes writes) more
told_over (Err e) limit question table bytes more writes begun = λ other also is.
    let b = begun other also is in
    let all = ap length b.whole ∙ length-append b.front b.back in
    let there : length bytes ≡ length b.front = ap length b.added in
    omega arith

-- the front of a piece was added
pub begun_at : (old new bytes piece : List ℕ) (room : ℕ) → bytes ≡ piece → new ≡ old ++ take room bytes → WritesPrefix (Some old) (Some new) piece
begun_at old new bytes piece room is added =
    record { front = take room bytes; back = drop room bytes; whole = sym is ∙ sym (take-append-drop room bytes); added = added }
