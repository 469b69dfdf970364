-- Laws of rows.
use Rattle.std.proofs.Common.{◌≡◌, ◌↔◌, ℕ, ◌+◌, ◌<◌, Option, Some, None, refl}
use Rattle.std.proofs.Common.{ap, arith}
use Rattle.cue_lattice.specs.Bools.{bool_same}
use Rattle.cue_scalars.specs.ScalarLaws.{same_scalars}
use Rattle.cue_row.specs.declared.level.Level.{Level}
use Rattle.cue_row.specs.declared.level.Level.TheVariants.{Optional, Required, Given}
use Rattle.cue_row.specs.declared.parts.RowParts.{RowParts as Row}
use Rattle.cue_row.specs.declared.question.Question.{Question}
use Rattle.cue_row.specs.declared.question.Question.TheVariants as questions
use Rattle.cue_row.specs.Levels.{level_of}
use Rattle.cue_row.specs.LabelLaws.{same_labels}
use Rattle.cue_row.specs.Lengths.{RefusesLength}
use Rattle.cue_row.specs.Row.{RefusesAsked, IsRow}

-- bounds that refuse the same numbers below them are equal
same_bound : (m n : ℕ) → ((k : ℕ) → k < m ↔ k < n) → m ≡ n
same_bound m n e =
    let low : m < n → ⊥ = λ h. let f = (e m).1 h in omega arith in
    let high : n < m → ⊥ = λ h. let f = (e n).0 h in omega arith in
    omega arith

-- so are bounds that refuse the same numbers above them
same_upper_bound : (m n : ℕ) → ((k : ℕ) → m < k ↔ n < k) → m ≡ n
same_upper_bound m n e =
    let low : m < n → ⊥ = λ h. let f = (e n).0 h in omega arith in
    let high : n < m → ⊥ = λ h. let f = (e m).1 h in omega arith in
    omega arith

-- levels of one number are one level
pub same_level : (a b : Level) → level_of a ≡ level_of b → a ≡ b
same_level Optional Optional e = refl
same_level Optional Required e = absurd (omega arith)
same_level Optional Given e = absurd (omega arith)
same_level Required Optional e = absurd (omega arith)
same_level Required Required e = refl
same_level Required Given e = absurd (omega arith)
same_level Given Optional e = absurd (omega arith)
same_level Given Required e = absurd (omega arith)
same_level Given Given e = refl

-- greatest lengths that refuse the same lengths are equal
pub same_length : (a b : Option ℕ) → ((k : ℕ) → RefusesLength a k ↔ RefusesLength b k) → a ≡ b
same_length None None e = refl
same_length None (Some n) e = absurd ((e (n + 1)).1 (omega arith))
same_length (Some m) None e = absurd ((e (m + 1)).0 (omega arith))
same_length (Some m) (Some n) e = ap (λ k. Some k) (same_upper_bound m n e)

-- equal answers are equal rows
pub same_rows : (a b : Row) → IsRow a → IsRow b
    → ((question : Question) → RefusesAsked a question ↔ RefusesAsked b question) → a ≡ b
same_rows a b p q e =
    let level =
    same_level a.level b.level
    (same_bound (level_of a.level) (level_of b.level) (λ k. e (questions.LevelAtMost k))) in
    let value = same_scalars a.value b.value p.value q.value (λ x. e (questions.MayBe x)) in
    let usual = same_scalars a.usual b.usual p.usual q.usual (λ x. e (questions.Usual x)) in
    let struct_ok =
    bool_same a.struct_ok b.struct_ok (e questions.Struct).0 (e questions.Struct).1 in
    let list_ok = bool_same a.list_ok b.list_ok (e questions.List).0 (e questions.List).1 in
    let labels = same_labels a.labels b.labels p.labels q.labels (λ l. e (questions.Allows l)) in
    let least = same_bound a.least b.least (λ k. e (questions.LengthAtMost k)) in
    let most = same_length a.most b.most (λ k. e (questions.LengthAtLeast k)) in
    λ i. record {
      level = level i;
      value = value i;
      usual = usual i;
      struct_ok = struct_ok i;
      list_ok = list_ok i;
      labels = labels i;
      least = least i;
      most = most i;
    }
