-- The chosen scalar of a row is that of its answers.
use Rattle.std.proofs.Common.{◌≡◌, ◌↔◌, inl, inr, ⊎_elim, Bool, true, false, List, [], ℤ, ◌<ℤ◌, ◌≤ℤ◌, Option, Some, refl, sym, ◌∙◌}
use Rattle.std.proofs.lemmas.Bool.{false≢true}
use Rattle.std.proofs.lemmas.Int.{by_lt_z}
use Rattle.cue_lattice.specs.declared.scalar.Scalar.{Scalar}
use Rattle.cue_lattice.specs.declared.scalar.Scalar.TheVariants as scalars
use Rattle.cue_lattice.specs.Path.{Path}
use Rattle.cue_lattice.specs.Scalar.{IsInteger, IsScalar}
use Rattle.cue_sets.specs.Pieces.{least, greatest, is_member, IsCanonical}
use Rattle.cue_sets.specs.PieceLaws.{is_member-below, is_member-above}
use Rattle.cue_scalars.specs.Scalars.{members, IsScalarSet, RefusesScalar, IsOnlyScalar}
use Rattle.cue_scalars.specs.declared.scalar_set.ScalarSet.{ScalarSet}
use Rattle.cue_row.specs.Chosen as rows
use Rattle.cue_row.specs.Kinds.{IsEmptySet}
use Rattle.cue_row.specs.Row.{IsRow}
use Rattle.cue_row.specs.declared.parts.RowParts.{RowParts as Row}
use Rattle.cue_report.specs.Gaps.{IsOnly, IsChosenScalar}
use Rattle.cue_report.proofs.Rows.{RefusedAt}

-- a scalar that the set does not refuse
abbrev pub IsLeft : ScalarSet → Scalar → Type 0
IsLeft set scalar = IsScalar scalar × (¬ RefusesScalar set scalar)

by_lt : (a b : ℤ) → (a <ℤ b → ⊥) → b ≤ℤ a
by_lt a b h = by_lt_z a b (λ l. absurd (h l)) (λ g. g)

-- a member is an integer of 64 bits
member_integer : (pieces : List (ℤ × ℤ)) (n : ℤ) → IsCanonical pieces → is_member pieces n ≡ true → IsInteger n
member_integer pieces n a h = (
  by_lt n least (λ l. false≢true (sym (is_member-below least pieces n a l) ∙ h)),
  by_lt greatest n (λ l. false≢true (sym (is_member-above least pieces n a l) ∙ h)),
)

not_false : (b : Bool) → (b ≡ false → ⊥) → b ≡ true
not_false true h = refl
not_false false h = absurd (h refl)

clash : (b : Bool) → b ≡ true → b ≡ false → ⊥
clash b p q = false≢true (sym q ∙ p)

-- the members of a set are the scalars that it does not refuse
pub member_is : (set : ScalarSet) (scalar : Scalar) → IsScalarSet set → members set scalar ≡ true ↔ IsLeft set scalar
member_is set scalars.Null f = (λ h. (tt, clash _ h), λ h. not_false _ h.1)
member_is set (scalars.Bool false) f = (λ h. (tt, clash _ h), λ h. not_false _ h.1)
member_is set (scalars.Bool true) f = (λ h. (tt, clash _ h), λ h. not_false _ h.1)
member_is set (scalars.Int n) f = (λ h. (member_integer set.ints n f.ints h, λ r. clash _ h r.1), λ h. not_false _ (λ e. h.1 (h.0, e)))
member_is set (scalars.Text t) f = (λ h. (tt, clash _ h), λ h. not_false _ h.1)

only_is : (set : ScalarSet) (scalar : Scalar) → IsScalarSet set → IsOnlyScalar set scalar ↔ IsOnly (IsLeft set) scalar
only_is set scalar f = (
  λ h. ((member_is set scalar f).0 h.member, λ other l. h.only other ((member_is set other f).1 l)),
  λ h. record { member = (member_is set scalar f).1 h.0; only = λ other m. h.1 other ((member_is set other f).0 m) },
)

not_member : (b : Bool) → (b ≡ true → ⊥) → b ≡ false
not_member false h = refl
not_member true h = absurd (h refl)

none_is : (set : ScalarSet) → IsScalarSet set → IsEmptySet set ↔ ((other : Scalar) → ¬ IsLeft set other)
none_is set f = (
  λ h other l. clash _ ((member_is set other f).1 l) (h other),
  λ h other. not_member (members set other) (λ e. h other ((member_is set other f).0 e)),
)

-- the chosen scalar of the row at a place
abbrev pub IsChosenAt : Option Row → Scalar → Type 0
IsChosenAt row = IsChosenScalar (λ (path : Path). RefusedAt row) []

pub chosen_is : (row : Row) (scalar : Scalar) → IsRow row → rows.IsRowChosen row scalar ↔ IsChosenAt (Some row) scalar
chosen_is row scalar f = (
  λ h. ⊎_elim (λ o. inl ((only_is row.usual scalar f.usual).0 o)) (λ o. inr ((none_is row.usual f.usual).0 o.0, (only_is row.value scalar f.value).0 o.1)) h,
  λ h. ⊎_elim (λ o. inl ((only_is row.usual scalar f.usual).1 o)) (λ o. inr ((none_is row.usual f.usual).1 o.0, (only_is row.value scalar f.value).1 o.1)) h,
)
