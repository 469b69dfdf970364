-- What the row at a place says of the questions there.
use Rattle.std.proofs.Common.{◌≡◌, ◌↔◌, ◌⊎◌, inl, inr, ⊎_elim, ℕ, ◌<◌, ◌≤◌, Bool, true, false, not, ◌&&◌, ◌||◌, List, [], nat_lt, Option, None, Some, refl, sym, ap, ◌∙◌, arith}
use Rattle.std.specs.Bool.{IsTrue}
use Rattle.std.proofs.lemmas.Bool.{false≢true}
use Rattle.std.proofs.lemmas.Bool.Decides.{nat_tests}
use Rattle.cue_lattice.specs.Path.{label, index, Path}
use Rattle.cue_lattice.specs.Question.{Question, allows, level_at_most, length_at_most}
use Rattle.cue_row.specs.declared.level.Level.{Level}
use Rattle.cue_row.specs.declared.level.Level.TheVariants.{Optional, Required, Given}
use Rattle.cue_row.specs.declared.parts.RowParts.{RowParts as Row}
use Rattle.cue_row.specs.LabelSets.{allows_label}
use Rattle.cue_row.specs.Lengths.{RefusesLength}
use Rattle.cue_row.specs.Levels.{level_of}
use Rattle.cue_row.specs.Row as rows
use Rattle.cue_row.specs.Row.{IsRow}
use Rattle.cue_table.specs.Form as form
use Rattle.cue_table.specs.Refuses.{RowRefuses}
use Rattle.cue_report.specs.Answers.{HasNoValue}
use Rattle.cue_report.specs.Inner.Search.{is_empty_set, is_above, has_no_value, is_wanted, has_level, is_longer, is_refused, least_at}
use Rattle.cue_report.proofs.Empty.{refused_empty, empty_refused}

-- what the row at a place refuses, where there is one
abbrev pub RefusedAt : Option Row → Question → Type 0
RefusedAt = RowRefuses rows.RowRefusesQuestion

-- no value may stand at a place with this row
abbrev pub NoValueAt : Option Row → Type 0
NoValueAt row = HasNoValue (λ (path : Path). RefusedAt row) []

both : (a b : Bool) → a ≡ true → b ≡ true → (a && b) ≡ true
both a b p q = simp (p, q)

no_length : (least : ℕ) (most : Option ℕ) → is_above least most ≡ true → (n : ℕ) → (n < least) ⊎ RefusesLength most n
no_length least None e n = absurd (false≢true e)
no_length least (Some most) e n = grind (arith, nat_tests)

above_from : (least : ℕ) (most : Option ℕ) → ((n : ℕ) → (n < least) ⊎ RefusesLength most n) → is_above least most ≡ true
above_from least None h = absurd (⊎_elim (λ l. let low : least < least = l in let no : ⊥ = omega arith in no) (λ (f : ⊥). f) (h least))
above_from least (Some most) h =
    let above : most < least = ⊎_elim (λ l. l) (λ f. let high : most < most = f in let no : most < least = omega arith in no) (h most) in
    grind (arith, nat_tests)

value_cases : (row : Row) (l s : Bool) → row.list_ok ≡ l → row.struct_ok ≡ s → IsRow row → IsTrue ((l && is_above row.least row.most) || (not l && (not s && is_empty_set row.value))) ↔ NoValueAt (Some row)
value_cases row true s e f form = (
  λ h. inr (λ r. false≢true (sym r ∙ e), no_length row.least row.most (or_false (is_above row.least row.most) h)),
  λ h. ⊎_elim (λ n. absurd (false≢true (sym n.2 ∙ e))) (λ n. ap (λ b. b || false) (above_from row.least row.most n.1)) h,
) where
  or_false : (b : Bool) → (b || false) ≡ true → b ≡ true
  or_false true h = refl
  or_false false h = h
value_cases row false true e f form = (
  λ h. absurd (false≢true h),
  λ h. ⊎_elim (λ n. absurd (false≢true (sym n.1 ∙ f))) (λ n. absurd (n.0 e)) h,
)
value_cases row false false e f form = (
  λ h. inl (empty_refused row.value h, f, e),
  λ h. ⊎_elim (λ n. refused_empty row.value form.value n.0) (λ n. absurd (n.0 e)) h,
)

-- whether no value may stand is what the row says
pub no_value_is : (row : Option Row) → form.IsTableRow IsRow row → IsTrue (has_no_value row) ↔ NoValueAt row
no_value_is None h = (λ e. absurd (false≢true e), λ n. ⊎_elim (λ m. absurd m.1) (λ m. ⊎_elim (λ f. absurd f) (λ f. absurd f) (m.1 0)) n)
no_value_is (Some row) h = value_cases row row.list_ok row.struct_ok refl refl h

-- where there is no row, no value is refused
pub some_value : NoValueAt None → ⊥
some_value n = false≢true ((no_value_is None tt).1 n)

level_cases : (level : Level) → IsTrue (is_wanted level) ↔ (0 < level_of level)
level_cases Optional = (λ e. absurd (false≢true e), λ h. let no : ⊥ = omega arith in absurd no)
level_cases Required = (λ e. omega arith, λ h. refl)
level_cases Given = (λ e. omega arith, λ h. refl)

-- a field is required or there where its level may not be 0
pub level_is : (row : Option Row) → IsTrue (has_level row) ↔ RefusedAt row (level_at_most 0)
level_is None = (λ e. absurd (false≢true e), λ h. absurd h)
level_is (Some row) = level_cases row.level

longer_cases : (least n : ℕ) → IsTrue (nat_lt n least) ↔ (n < least)
longer_cases least n = (λ h. grind (arith, nat_tests), λ h. grind (arith, nat_tests))

pub longer_is : (row : Option Row) (n : ℕ) → IsTrue (is_longer row n) ↔ RefusedAt row (length_at_most n)
longer_is None n = (λ e. absurd (false≢true e), λ h. absurd h)
longer_is (Some row) n = longer_cases row.least n

not_true : (b : Bool) → IsTrue (not b) ↔ (b ≡ false)
not_true true = (λ e. absurd (false≢true e), λ e. absurd (false≢true (sym e)))
not_true false = (λ e. refl, λ e. refl)

-- the place above refuses the label
pub refused_is : (row : Option Row) (text : List ℕ) → IsTrue (is_refused row (label text)) ↔ RefusedAt row (allows text)
refused_is None text = (λ e. absurd (false≢true e), λ h. absurd h)
refused_is (Some row) text = not_true (allows_label row.labels text)

pub index_allowed : (row : Option Row) (n : ℕ) → is_refused row (index n) ≡ false
index_allowed None n = refl
index_allowed (Some row) n = refl

-- each list is longer than what is below its least length
pub is_below : (row : Option Row) (n : ℕ) → is_longer row n ≡ true → n < least_at row
is_below None n h = absurd (false≢true h)
is_below (Some row) n h = let l : nat_lt n row.least ≡ true = h in grind (arith, nat_tests)

pub is_long : (row : Option Row) (n : ℕ) → n < least_at row → is_longer row n ≡ true
is_long None n h = let l : n < 0 = h in let no : ⊥ = omega arith in absurd no
is_long (Some row) n h = let l : n < row.least = h in grind (arith, nat_tests)

pub not_long : (row : Option Row) (n : ℕ) → least_at row ≤ n → is_longer row n ≡ false
not_long None n h = refl
not_long (Some row) n h = let l : row.least ≤ n = h in grind (arith, nat_tests)
