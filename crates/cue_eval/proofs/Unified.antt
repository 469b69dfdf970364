-- What unification and closing refuse together.
use Rattle.std.proofs.Common.{◌↔◌, ◌⊎◌, inl, inr, ⊎_elim, ℕ, List, [], ◌∷◌, ◌++◌, subst}
use Rattle.std.proofs.lemmas.List.{append-nil}
use Rattle.cue_lattice.specs.Path.{Path, label, index}
use Rattle.cue_lattice.specs.Question.{Question, allows}
use Rattle.cue_scope.specs.Core.{Members, no_members, member, dots}
use Rattle.cue_eval.specs.Literals.{literals, LeaveOut}
use Rattle.cue_eval.specs.Places.{ClosingRefuses}
use Rattle.cue_eval.specs.Refuses.{FieldRefuses}
use Rattle.cue_eval.specs.Laws.{joined_members, IsUnification, IsMonotone, IsSplitAnywhere, IsClosedForGood, IsClosedByParts}
use Rattle.cue_eval.proofs.Written.{left_out_by_one}

pub unification : IsUnification
unification a b path question = (
  λ h. ⊎_elim inl (λ g. ⊎_elim inr (λ n. absurd n) g) h,
  λ h. ⊎_elim inl (λ g. inr (inl g)) h,
)

pub closed_for_good : IsClosedForGood
closed_for_good c path question = (λ h. ⊎_elim (λ g. g) inr h, inl)

closing_by_one : (xs ys : List Members) (question : Question) → ClosingRefuses (xs ++ (ys ++ [])) question → ClosingRefuses xs question ⊎ ClosingRefuses ys question
closing_by_one xs ys (allows l) out =
    ⊎_elim inl (λ g. inr (subst (λ (zs : List Members). LeaveOut zs l) (append-nil ys) g)) (left_out_by_one xs (ys ++ []) l out)
closing_by_one xs ys _ out = absurd out

pub closed_by_parts : IsClosedByParts
closed_by_parts a b path question (inl (inl h)) = inl (inl h)
closed_by_parts a b path question (inl (inr (inl h))) = inr (inl (inl h))
closed_by_parts a b path question (inl (inr (inr h))) = absurd h
closed_by_parts a b path question (inr h) =
    ⊎_elim (λ g. inl (inr g)) (λ g. inr (inl (inr g))) (closing_by_one (literals a path) (literals b path) question h)

pub monotone : IsMonotone
monotone a c b narrow path question h = ⊎_elim (λ g. inl (narrow path question g)) inr h

fields_joined : (some others : Members) (l : List ℕ) (path : Path) (question : Question) →
    FieldRefuses (joined_members some others) l path question ↔ (FieldRefuses some l path question ⊎ FieldRefuses others l path question)
fields_joined no_members others l path question = (inr, λ h. ⊎_elim (λ n. absurd n) (λ g. g) h)
fields_joined (dots some) others l path question = fields_joined some others l path question
fields_joined (member k mark c some) others l path question =
    let rest = fields_joined some others l path question in (
      λ h. ⊎_elim (λ g. inl (inl g)) (λ g. ⊎_elim (λ f. inl (inr f)) inr (rest.0 g)) h,
      λ h. ⊎_elim (λ g. ⊎_elim inl (λ f. inr (rest.1 (inl f))) g) (λ g. inr (rest.1 (inr g))) h,
    )

pub split_anywhere : IsSplitAnywhere
split_anywhere some others [] question = (inl, λ h. ⊎_elim (λ g. g) (λ g. ⊎_elim (λ f. f) (λ n. absurd n) g) h)
split_anywhere some others (label l ∷ path) question =
    let fields = fields_joined some others l path question in (
      λ h. ⊎_elim inl (λ g. inr (inl g)) (fields.0 h),
      λ h. fields.1 (⊎_elim inl (λ g. ⊎_elim inr (λ n. absurd n) g) h),
    )
split_anywhere some others (index i ∷ path) question = (λ h. absurd h, λ h. ⊎_elim (λ n. absurd n) (λ g. ⊎_elim (λ n. absurd n) (λ n. absurd n) g) h)
