-- Small rows, and how they are met.
use Rattle.std.proofs.Common.{◌≡◌, ◌↔◌, ◌⊎◌, inl, inr, ⊎_elim, ℕ, ℤ, true, false, List, [], ◌∷◌, None, max, refl, sym, ◌∙◌, subst, arith}
use Rattle.std.proofs.lemmas.Bool.{false≢true}
use Rattle.std.proofs.lemmas.Int.{ints}
use Rattle.cue_lattice.specs.declared.scalar.Scalar.{Scalar}
use Rattle.cue_lattice.specs.declared.scalar.Scalar.TheVariants as scalars
use Rattle.cue_sets.specs.Pieces.{is_member, least, greatest, IsCanonical}
use Rattle.cue_sets.specs.PieceLaws.{free_is_full, some_member}
use Rattle.cue_sets.specs.Texts.{is_text_member}
use Rattle.cue_sets.specs.TextLaws.{free_is_all}
use Rattle.cue_scalars.specs.declared.scalar_set.ScalarSet.{ScalarSet}
use Rattle.cue_scalars.specs.Scalars.{RefusesScalar, IsScalarSet}
use Rattle.cue_scalars.proofs.ByKind.{refuses_none, no_text_at_all}
use Rattle.cue_row.specs.declared.level.Level.{Level}
use Rattle.cue_row.specs.declared.level.Level.TheVariants.{Optional}
use Rattle.cue_row.specs.declared.parts.RowParts.{RowParts}
use Rattle.cue_row.specs.declared.question.Question.{Question}
use Rattle.cue_row.specs.RowLaws.{same_level}
use Rattle.cue_row.specs.declared.question.Question.TheVariants as questions
use Rattle.cue_row.specs.declared.small.Few.{Few}
use Rattle.cue_row.specs.declared.small.Small.{Small}
use Rattle.cue_row.specs.declared.small.Small.TheVariants as small
use Rattle.cue_row.specs.Kept.{few_set, integers_set, text_set, small_parts}
use Rattle.cue_row.specs.Inner.Kept.{IsMetSmall}
use Rattle.cue_row.specs.Kinds.{IsEmptySet, IsFullSet}
use Rattle.cue_row.specs.LabelSets.{RefusesLabel}
use Rattle.cue_row.specs.Lengths.{RefusesLength}
use Rattle.cue_row.specs.Levels.{level_of}
use Rattle.cue_row.specs.Made.{empty_set, full_set, lone_row}
use Rattle.cue_row.specs.Row.{IsMetRow, RefusesAsked}
use Rattle.cue_row.proofs.Free.{not_false, free_row}
use Rattle.cue_row.proofs.MetRows.{met_rows}

-- ---- no scalar and all
pub all_of_anything : IsFullSet full_set
all_of_anything =
    refuses_none full_set refl
    ((free_is_full ((least, greatest) ∷ []) (omega (arith, ints), omega (arith, ints), omega (arith, ints), tt)).0 refl)
    ((free_is_all (true, []) tt).0 refl)

pub none_in_empty : IsEmptySet empty_set
none_in_empty scalars.Null = refl
none_in_empty (scalars.Bool false) = refl
none_in_empty (scalars.Bool true) = refl
none_in_empty (scalars.Int n) = refl
none_in_empty (scalars.Text t) = refl

-- a set that refuses nothing is all scalars
pub full_of_free : (set : ScalarSet) → IsScalarSet set → IsFullSet set → set ≡ full_set
full_of_free set a free =
    let null = not_false set.null (free scalars.Null) in
    let no = not_false set.no (free (scalars.Bool false)) in
    let yes = not_false set.yes (free (scalars.Bool true)) in
    let ints = (free_is_full set.ints a.ints).1 (λ n. free (scalars.Int n)) in
    let texts = (free_is_all set.texts a.texts).1 (λ t. free (scalars.Text t)) in
    λ i. record { null = null i; no = no i; yes = yes i; ints = ints i; texts = texts i }

no_pieces : (pieces : List (ℤ × ℤ)) → IsCanonical pieces → ((n : ℤ) → is_member pieces n ≡ false) → pieces ≡ []
no_pieces [] a h = refl
no_pieces (piece ∷ pieces) a h =
    let w = some_member (piece ∷ pieces) a (λ e. grind arith) in absurd (false≢true (sym (h w.0) ∙ w.1))

-- a set of which each part has no member is the empty set
pub empty_by_parts : (set : ScalarSet) → (set.null ≡ false) × (set.no ≡ false) × (set.yes ≡ false) → set.ints ≡ [] → set.texts ≡ (false, []) → set ≡ empty_set
empty_by_parts set plain ints texts =
    λ i. record { null = plain.0 i; no = plain.1 i; yes = plain.2 i; ints = ints i; texts = texts i }

-- and so is a set with no member
pub empty_of_none : (set : ScalarSet) → IsScalarSet set → IsEmptySet set → set ≡ empty_set
empty_of_none set a none =
    let null = none scalars.Null in
    let no = none (scalars.Bool false) in
    let yes = none (scalars.Bool true) in
    let ints = no_pieces set.ints a.ints (λ n. none (scalars.Int n)) in
    empty_by_parts set (null, no, yes) ints (no_text_at_all set none)

-- ---- small rows that are met
twice : {A : Type 0} → A ↔ (A ⊎ A)
twice = (λ a. inl a, ⊎_elim (λ a. a) (λ a. a))

no_label : (l : List ℕ) → RefusesLabel None l ↔ (RefusesLabel None l ⊎ RefusesLabel None l)
no_label l = twice

no_length : (n : ℕ) → RefusesLength None n ↔ (RefusesLength None n ⊎ RefusesLength None n)
no_length n = twice

pub lone_rows_meet : (left right met : ScalarSet)
    → ((x : Scalar) → RefusesScalar met x ↔ (RefusesScalar left x ⊎ RefusesScalar right x))
    → (a b c : Level) → level_of c ≡ max (level_of a) (level_of b)
    → IsMetRow (lone_row a left) (lone_row b right) (lone_row c met)
lone_rows_meet left right met h a b c level =
    met_rows (lone_row a left) (lone_row b right) (lone_row c met) level h h refl refl no_label refl no_length

pub of_lone_rows : (s t u : Small) (left right met : ScalarSet)
    → ((level : Level) → small_parts level s ≡ lone_row level left) → ((level : Level) → small_parts level t ≡ lone_row level right)
    → ((level : Level) → small_parts level u ≡ lone_row level met)
    → ((x : Scalar) → RefusesScalar met x ↔ (RefusesScalar left x ⊎ RefusesScalar right x)) → IsMetSmall s t u
of_lone_rows s t u left right met s_is t_is u_is h a b c level =
    subst (λ row. IsMetRow row (small_parts b t) (small_parts c u)) (sym (s_is a))
    (subst (λ row. IsMetRow (lone_row a left) row (small_parts c u)) (sym (t_is b))
    (subst (λ row. IsMetRow (lone_row a left) (lone_row b right) row) (sym (u_is c)) (lone_rows_meet left right met h a b c level)))

pub alike_meet : (s : Small) → IsMetSmall s s s
alike_meet small.Anything a b c level = met_rows (small_parts a small.Anything) (small_parts b small.Anything) (small_parts c small.Anything) level (λ x. twice) (λ x. twice) refl refl no_label refl no_length
alike_meet small.Struct a b c level = met_rows (small_parts a small.Struct) (small_parts b small.Struct) (small_parts c small.Struct) level (λ x. twice) (λ x. twice) refl refl no_label refl no_length
alike_meet (small.Few few) a b c level = lone_rows_meet (few_set few) (few_set few) (few_set few) (λ x. twice) a b c level
alike_meet (small.Integers piece) a b c level = lone_rows_meet (integers_set piece) (integers_set piece) (integers_set piece) (λ x. twice) a b c level
alike_meet (small.Text text) a b c level = lone_rows_meet (text_set text) (text_set text) (text_set text) (λ x. twice) a b c level

-- all scalars refuse nothing more
free_left : (set : ScalarSet) (x : Scalar) → RefusesScalar set x ↔ (RefusesScalar full_set x ⊎ RefusesScalar set x)
free_left set x = (λ r. inr r, ⊎_elim (λ r. absurd (all_of_anything x r)) (λ r. r))

free_right : (set : ScalarSet) (x : Scalar) → RefusesScalar set x ↔ (RefusesScalar set x ⊎ RefusesScalar full_set x)
free_right set x = (λ r. inl r, ⊎_elim (λ r. r) (λ r. absurd (all_of_anything x r)))

pub anything_meets : (s : Small) → IsMetSmall small.Anything s s
anything_meets small.Anything a b c level = alike_meet small.Anything a b c level
anything_meets small.Struct a b c level = met_rows (small_parts a small.Anything) (small_parts b small.Struct) (small_parts c small.Struct) level (free_left empty_set) (free_left empty_set) refl refl no_label refl no_length
anything_meets (small.Few few) a b c level = met_rows (small_parts a small.Anything) (small_parts b (small.Few few)) (small_parts c (small.Few few)) level (free_left (few_set few)) (free_left (few_set few)) refl refl no_label refl no_length
anything_meets (small.Integers piece) a b c level = met_rows (small_parts a small.Anything) (small_parts b (small.Integers piece)) (small_parts c (small.Integers piece)) level (free_left (integers_set piece)) (free_left (integers_set piece)) refl refl no_label refl no_length
anything_meets (small.Text text) a b c level = met_rows (small_parts a small.Anything) (small_parts b (small.Text text)) (small_parts c (small.Text text)) level (free_left (text_set text)) (free_left (text_set text)) refl refl no_label refl no_length

pub meets_anything : (s : Small) → IsMetSmall s small.Anything s
meets_anything small.Anything a b c level = alike_meet small.Anything a b c level
meets_anything small.Struct a b c level = met_rows (small_parts a small.Struct) (small_parts b small.Anything) (small_parts c small.Struct) level (free_right empty_set) (free_right empty_set) refl refl no_label refl no_length
meets_anything (small.Few few) a b c level = met_rows (small_parts a (small.Few few)) (small_parts b small.Anything) (small_parts c (small.Few few)) level (free_right (few_set few)) (free_right (few_set few)) refl refl no_label refl no_length
meets_anything (small.Integers piece) a b c level = met_rows (small_parts a (small.Integers piece)) (small_parts b small.Anything) (small_parts c (small.Integers piece)) level (free_right (integers_set piece)) (free_right (integers_set piece)) refl refl no_label refl no_length
meets_anything (small.Text text) a b c level = met_rows (small_parts a (small.Text text)) (small_parts b small.Anything) (small_parts c (small.Text text)) level (free_right (text_set text)) (free_right (text_set text)) refl refl no_label refl no_length

-- a text refuses what all texts, and whichever other scalars, refuse
refused_by_all : (few : Few) (text : List ℕ) → few.texts ≡ true → (x : Scalar) → RefusesScalar (few_set few) x → RefusesScalar (text_set text) x
refused_by_all few text e scalars.Null r = refl
refused_by_all few text e (scalars.Bool false) r = refl
refused_by_all few text e (scalars.Bool true) r = refl
refused_by_all few text e (scalars.Int n) r = r
refused_by_all few text e (scalars.Text t) r =
    let member : is_text_member (few.texts, []) t ≡ true = rw e refl in absurd (false≢true (sym r ∙ member))

pub few_meet_text : (few : Few) (text : List ℕ) → few.texts ≡ true → IsMetSmall (small.Few few) (small.Text text) (small.Text text)
few_meet_text few text e a b c level = lone_rows_meet (few_set few) (text_set text) (text_set text) (λ x. (λ r. inr r, ⊎_elim (refused_by_all few text e x) (λ r. r))) a b c level

pub text_meets_few : (few : Few) (text : List ℕ) → few.texts ≡ true → IsMetSmall (small.Text text) (small.Few few) (small.Text text)
text_meets_few few text e a b c level = lone_rows_meet (text_set text) (few_set few) (text_set text) (λ x. (λ r. inl r, ⊎_elim (λ r. r) (refused_by_all few text e x))) a b c level

-- the same of the rows that are kept so
pub rows_met : (s t u : Small) (a b c : Level) (x y z : RowParts) → IsMetSmall s t u → level_of c ≡ max (level_of a) (level_of b)
    → small_parts a s ≡ x → small_parts b t ≡ y → small_parts c u ≡ z → IsMetRow x y z
rows_met s t u a b c x y z met level x_is y_is z_is =
    subst (λ row. IsMetRow row y z) x_is
    (subst (λ row. IsMetRow (small_parts a s) row z) y_is
    (subst (λ row. IsMetRow (small_parts a s) (small_parts b t) row) z_is (met a b c level)))

-- ---- small rows that refuse nothing
free_when : (level : Level) (s : Small) → level ≡ Optional → s ≡ small.Anything → (question : Question) → ¬ RefusesAsked (small_parts level s) question
free_when level s l e =
    subst (λ l. (question : Question) → ¬ RefusesAsked (small_parts l s) question) (sym l)
    (subst (λ t. (question : Question) → ¬ RefusesAsked (small_parts Optional t) question) (sym e)
    (free_row (small_parts Optional small.Anything) (record { level = refl; struct_ok = refl; list_ok = refl; least = refl; most = refl }) all_of_anything all_of_anything (λ l r. false≢true (sym r))))

anything_of_free : (level : Level) (s : Small) → ((question : Question) → ¬ RefusesAsked (small_parts level s) question) → s ≡ small.Anything
anything_of_free level small.Anything free = refl
anything_of_free level small.Struct free = absurd (free questions.List refl)
anything_of_free level (small.Few few) free = absurd (free questions.List refl)
anything_of_free level (small.Integers piece) free = absurd (free questions.List refl)
anything_of_free level (small.Text text) free = absurd (free questions.List refl)

optional_of_free : (level : Level) → ((question : Question) → ¬ RefusesAsked (small_parts level small.Anything) question) → level ≡ Optional
optional_of_free level free = let no = free (questions.LevelAtMost 0) in same_level level Optional (omega arith)

pub small_is_free : (level : Level) (s : Small) → ((level ≡ Optional) × (s ≡ small.Anything)) ↔ ((question : Question) → ¬ RefusesAsked (small_parts level s) question)
small_is_free level s = (
  λ e. free_when level s e.0 e.1,
  λ free. let any = anything_of_free level s free in
      (optional_of_free level (subst (λ t. (question : Question) → ¬ RefusesAsked (small_parts level t) question) any free), any),
)

-- ---- rows that are kept small
pub parts_of_anything : (row : RowParts) → IsScalarSet row.value → IsScalarSet row.usual → IsFullSet row.value → IsFullSet row.usual
    → row.struct_ok ≡ true → row.list_ok ≡ true → row.labels ≡ None → row.least ≡ 0 → row.most ≡ None → row ≡ small_parts row.level small.Anything
parts_of_anything row v u value usual struct_ok list_ok labels least most =
    let value = full_of_free row.value v value in
    let usual = full_of_free row.usual u usual in
    λ i. record {
      level = row.level;
      value = value i;
      usual = usual i;
      struct_ok = struct_ok i;
      list_ok = list_ok i;
      labels = labels i;
      least = least i;
      most = most i;
    }

pub parts_of_struct : (row : RowParts) → IsScalarSet row.value → IsScalarSet row.usual → IsEmptySet row.value → IsEmptySet row.usual
    → row.struct_ok ≡ true → row.list_ok ≡ false → row.labels ≡ None → row.least ≡ 0 → row.most ≡ None → row ≡ small_parts row.level small.Struct
parts_of_struct row v u value usual struct_ok list_ok labels least most =
    let value = empty_of_none row.value v value in
    let usual = empty_of_none row.usual u usual in
    λ i. record {
      level = row.level;
      value = value i;
      usual = usual i;
      struct_ok = struct_ok i;
      list_ok = list_ok i;
      labels = labels i;
      least = least i;
      most = most i;
    }
