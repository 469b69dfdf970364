-- The rows of a table that has the answers of an expression are valid.
use Rattle.std.proofs.Common.{◌≡◌, ◌↔◌, ◌⊎◌, inl, inr, ⊎_elim, ℕ, ◌+◌, ◌<◌, ◌≤◌, Bool, true, false, List, Option, Some, None, refl, sym, subst, ◌∙◌, arith}
use Rattle.std.proofs.lemmas.Bool.{false≢true, cases_lt}
use Rattle.std.proofs.lemmas.Int.{by_lt_z}
use Rattle.cue_lattice.specs.Limits.{size_limit, length_limit}
use Rattle.cue_lattice.specs.Path.{Path}
use Rattle.cue_lattice.specs.Question as questions
use Rattle.cue_lattice.specs.Question.{Question, may_be, usual, allows, length_at_most, length_at_least}
use Rattle.cue_lattice.specs.Scalar.{IsScalar}
use Rattle.cue_lattice.specs.declared.scalar.Scalar.{Scalar}
use Rattle.cue_lattice.specs.declared.scalar.Scalar.TheVariants as scalars
use Rattle.cue_sets.specs.Pieces.{least, greatest}
use Rattle.cue_sets.specs.PieceLaws.{is_member-below, is_member-above}
use Rattle.cue_scalars.specs.Scalars.{members, IsScalarSet, RefusesScalar}
use Rattle.cue_scalars.specs.declared.scalar_set.ScalarSet.{ScalarSet}
use Rattle.cue_row.specs.declared.parts.RowParts.{RowParts as Row}
use Rattle.cue_row.specs.declared.kind.RowKind.{RowKind}
use Rattle.cue_row.specs.declared.kind.RowKind.TheVariants as kinds
use Rattle.cue_row.specs.declared.question.Question as program
use Rattle.cue_row.specs.Kinds.{IsEmptySet, IsRowKind}
use Rattle.cue_row.specs.LabelSets.{RefusesLabel}
use Rattle.cue_row.specs.LabelLaws.{same_labels}
use Rattle.cue_row.specs.Lengths.{RefusesLength}
use Rattle.cue_row.specs.Row as rows
use Rattle.cue_row.specs.Row.{RowRefusesQuestion, IsRow}
use Rattle.cue_row.specs.ValidRow.{UsualFits, LabelsFit, LengthsFit, AreLengths, HasWords, IsValidRow}
use Rattle.cue_row.proofs.Free.{no_greatest}
use Rattle.cue_row.proofs.MetSets.{empty_or_not, not_refused}
use Rattle.cue_scope.specs.Core.{Core}
use Rattle.cue_scope.specs.Limits.{size}
use Rattle.cue_eval.specs.Origins.{IsStruct, IsListOrigin, IsLevelOrigin}
use Rattle.cue_eval.specs.Refuses.{Refuses}
use Rattle.cue_eval.specs.Words.{words, WritesWords}
use Rattle.cue_eval.proofs.Places.{labels_of_structs, lengths_of_lists}
use Rattle.cue_eval.proofs.Within.{places_of_kinds, usual_is_within}
use Rattle.cue_eval.proofs.Sizes.{lengths_within_size}
use Rattle.cue_eval.proofs.UnwrittenTexts.{unwritten_texts}
use Rattle.cue_eval.proofs.ValidWords.{label_words, text_words}

clash : (b : Bool) → b ≡ true → b ≡ false → ⊥
clash b p q = false≢true (sym q ∙ p)

-- ---- scalars that a set refuses are those that it lacks
lacks_refused : (set : ScalarSet) → IsScalarSet set → (x : Scalar) → (IsScalar x → RefusesScalar set x) → members set x ≡ false
lacks_refused set form scalars.Null h = h tt
lacks_refused set form (scalars.Bool false) h = h tt
lacks_refused set form (scalars.Bool true) h = h tt
lacks_refused set form (scalars.Int n) h =
    by_lt_z n least (λ low. is_member-below least set.ints n form.ints low)
    (λ from. by_lt_z greatest n (λ high. is_member-above least set.ints n form.ints high) (λ to. (h (from, to)).1))
lacks_refused set form (scalars.Text t) h = h tt

refuses_lacked : (set : ScalarSet) (x : Scalar) → IsScalar x → members set x ≡ false → RefusesScalar set x
refuses_lacked set scalars.Null s e = e
refuses_lacked set (scalars.Bool false) s e = e
refuses_lacked set (scalars.Bool true) s e = e
refuses_lacked set (scalars.Int n) s e = (s, e)
refuses_lacked set (scalars.Text t) s e = e

-- a row that says what an expression refuses at a path
pub record IsRowAt (c : Core) (path : Path) (row : Row) : Type 0 where
  pub says : (question : Question) → RowRefusesQuestion row question ↔ Refuses c path question
  pub form : IsRow row
  pub not_free : ((question : program.Question) → ¬ rows.RefusesAsked row question) → ⊥

-- ---- kinds
no_value : (c : Core) (path : Path) (row : Row) → IsRowAt c path row → ((x : Scalar) → IsScalar x → Refuses c path (may_be x)) → IsEmptySet row.value
no_value c path row at h x = lacks_refused row.value at.form.value x (λ s. (at.says (may_be x)).1 (h x s))

no_usual : (c : Core) (path : Path) (row : Row) → IsRowAt c path row → ((x : Scalar) → IsScalar x → Refuses c path (usual x)) → IsEmptySet row.usual
no_usual c path row at h x = lacks_refused row.usual at.form.usual x (λ s. (at.says (usual x)).1 (h x s))

-- a row at which a struct is written
pub record StructRow (row : Row) : Type 0 where
  pub value : IsEmptySet row.value
  pub usual : IsEmptySet row.usual
  pub list : row.list_ok ≡ false

pub struct_row : (c : Core) (path : Path) (row : Row) → IsRowAt c path row → IsStruct (Refuses c path) → StructRow row
struct_row c path row at h = record {
  value = no_value c path row at (λ x s. h (may_be x) s);
  usual = no_usual c path row at (λ x s. h (usual x) s);
  list = (at.says questions.list).1 (h questions.list tt);
}

-- and one at which a list is
pub record ListRow (row : Row) : Type 0 where
  pub value : IsEmptySet row.value
  pub usual : IsEmptySet row.usual
  pub struct : row.struct_ok ≡ false

pub list_row : (c : Core) (path : Path) (row : Row) (count : ℕ) (goes_on : Bool) → IsRowAt c path row → IsListOrigin (Refuses c path) count goes_on → ListRow row
list_row c path row count goes_on at h = record {
  value = no_value c path row at (λ x s. h (may_be x) s);
  usual = no_usual c path row at (λ x s. h (usual x) s);
  struct = (at.says questions.struct).1 (h questions.struct tt);
}

pub no_labels : (row : Row) → IsRow row → ((l : List ℕ) → RefusesLabel row.labels l → ⊥) → row.labels ≡ None
no_labels row form h = same_labels row.labels None form.labels tt (λ l. (λ r. absurd (h l r), λ r. absurd (false≢true (sym r))))

no_lengths : (row : Row) → ((n : ℕ) → n < row.least → ⊥) → ((n : ℕ) → RefusesLength row.most n → ⊥) → (row.least ≡ 0) × (row.most ≡ None)
no_lengths row h k = (⊎_elim (λ (some : 0 < row.least). absurd (h 0 some)) (λ (none : row.least ≤ 0). omega arith) (cases_lt 0 row.least), no_greatest row.most k)

-- where labels are left out a struct is written, and where lengths are a list
struct_of_label : (c : Core) (path : Path) (row : Row) → IsRowAt c path row → (l : List ℕ) → RefusesLabel row.labels l → StructRow row
struct_of_label c path row at l r = struct_row c path row at (labels_of_structs c path l ((at.says (allows l)).0 r))

list_of_least : (c : Core) (path : Path) (row : Row) → IsRowAt c path row → (n : ℕ) → n < row.least → ListRow row
list_of_least c path row at n r =
    let found = lengths_of_lists.0 c path n ((at.says (length_at_most n)).0 r) in
    list_row c path row found.0 found.1 at found.3

list_of_most : (c : Core) (path : Path) (row : Row) → IsRowAt c path row → (n : ℕ) → RefusesLength row.most n → ListRow row
list_of_most c path row at n r =
    let found = lengths_of_lists.1 c path n ((at.says (length_at_least n)).0 r) in
    list_row c path row found.0 false at found.2

-- where both a struct and a list may stand, only levels are refused
pub only_levels : (c : Core) (path : Path) (row : Row) → IsRowAt c path row → row.struct_ok ≡ true → row.list_ok ≡ true → (question : Question) → Refuses c path question → IsLevelOrigin question
only_levels c path row at s l question r =
    ⊎_elim (λ level. level)
    (λ more. ⊎_elim (λ both. absurd (clash row.struct_ok s ((at.says questions.struct).1 both.0)))
    (λ further. ⊎_elim (λ a_struct. absurd (clash row.list_ok l (struct_row c path row at a_struct).list))
    (λ a_list. absurd (clash row.struct_ok s (list_row c path row a_list.0 a_list.1 at a_list.2).struct)) further) more)
    (places_of_kinds c path question r)

-- the kind of a row, and what fits it
pub record Fits (row : Row) : Type 0 where
  pub kind : RowKind
  pub is_kind : IsRowKind row kind
  pub usual : UsualFits row kind
  pub labels : LabelsFit row kind
  pub row_lengths : LengthsFit row kind

fits_free : (c : Core) (path : Path) (row : Row) → IsRowAt c path row → row.struct_ok ≡ true → row.list_ok ≡ true → Fits row
fits_free c path row at s l =
    let only = only_levels c path row at s l in record {
      kind = kinds.Free;
      is_kind = (λ x r. only (may_be x) ((at.says (may_be x)).0 r), s, l);
      usual = λ x r. only (usual x) ((at.says (usual x)).0 r);
      labels = no_labels row at.form (λ label r. only (allows label) ((at.says (allows label)).0 r));
      row_lengths = no_lengths row (λ n r. only (length_at_most n) ((at.says (length_at_most n)).0 r)) (λ n r. only (length_at_least n) ((at.says (length_at_least n)).0 r));
    }

fits_struct : (c : Core) (path : Path) (row : Row) → IsRowAt c path row → row.struct_ok ≡ true → row.list_ok ≡ false → Fits row
fits_struct c path row at s l =
    let is : StructRow row =
    ⊎_elim (λ level. absurd level)
    (λ more. ⊎_elim (λ both. absurd (clash row.struct_ok s ((at.says questions.struct).1 both.0)))
    (λ further. ⊎_elim (λ a_struct. struct_row c path row at a_struct)
    (λ a_list. absurd (clash row.struct_ok s (list_row c path row a_list.0 a_list.1 at a_list.2).struct)) further) more)
    (places_of_kinds c path questions.list ((at.says questions.list).0 l)) in record {
      kind = kinds.Struct;
      is_kind = (is.value, s, l);
      usual = is.usual;
      labels = tt;
      row_lengths = no_lengths row (λ n r. clash row.struct_ok s (list_of_least c path row at n r).struct) (λ n r. clash row.struct_ok s (list_of_most c path row at n r).struct);
    }

fits_list : (c : Core) (path : Path) (row : Row) → IsRowAt c path row → row.struct_ok ≡ false → row.list_ok ≡ true → Fits row
fits_list c path row at s l =
    let is : ListRow row =
    ⊎_elim (λ level. absurd level)
    (λ more. ⊎_elim (λ both. absurd (clash row.list_ok l ((at.says questions.list).1 both.1)))
    (λ further. ⊎_elim (λ a_struct. absurd (clash row.list_ok l (struct_row c path row at a_struct).list))
    (λ a_list. list_row c path row a_list.0 a_list.1 at a_list.2) further) more)
    (places_of_kinds c path questions.struct ((at.says questions.struct).0 s)) in record {
      kind = kinds.List;
      is_kind = (is.value, s, l);
      usual = is.usual;
      labels = no_labels row at.form (λ label r. clash row.list_ok l (struct_of_label c path row at label r).list);
      row_lengths = tt;
    }

-- what may not stand isn't usual
usual_within : (c : Core) (path : Path) (row : Row) → IsRowAt c path row → (x : Scalar) → members row.value x ≡ false → members row.usual x ≡ false
usual_within c path row at x e =
    lacks_refused row.usual at.form.usual x
    (λ s. (at.says (usual x)).1 (usual_is_within c path x ((at.says (may_be x)).0 (refuses_lacked row.value x s e))))

fits_others : (c : Core) (path : Path) (row : Row) → IsRowAt c path row → row.struct_ok ≡ false → row.list_ok ≡ false → IsEmptySet row.value ⊎ ((x : Scalar) × (members row.value x ≡ true)) → Fits row
fits_others c path row at s l (inl none) = record {
  kind = kinds.Nothing;
  is_kind = (none, s, l);
  usual = λ x. usual_within c path row at x (none x);
  labels = tt;
  row_lengths = tt;
}
fits_others c path row at s l (inr some) = record {
  kind = kinds.Scalar;
  is_kind = (λ none. clash (members row.value some.0) some.1 (none some.0), s, l);
  usual = λ x m. not_refused (members row.value x) (λ e. clash (members row.usual x) m (usual_within c path row at x e));
  labels = no_labels row at.form (λ label r. clash (members row.value some.0) some.1 ((struct_of_label c path row at label r).value some.0));
  row_lengths =
      no_lengths row (λ n r. clash (members row.value some.0) some.1 ((list_of_least c path row at n r).value some.0))
      (λ n r. clash (members row.value some.0) some.1 ((list_of_most c path row at n r).value some.0));
}

pub fits : (c : Core) (path : Path) (row : Row) → IsRowAt c path row → Fits row
fits c path row at = by row.struct_ok row.list_ok refl refl where
  by : (s l : Bool) → row.struct_ok ≡ s → row.list_ok ≡ l → Fits row
  by true true s l = fits_free c path row at s l
  by true false s l = fits_struct c path row at s l
  by false true s l = fits_list c path row at s l
  by false false s l = fits_others c path row at s l (empty_or_not row.value at.form.value)

-- ---- lengths
least_within : (c : Core) (path : Path) (row : Row) → IsRowAt c path row → size c ≤ size_limit → row.least ≤ length_limit
least_within c path row at small =
    ⊎_elim (λ (far : length_limit < row.least). let below = lengths_within_size c path length_limit ((at.says (length_at_most length_limit)).0 far) in absurd (omega (arith, below, small)))
    (λ (near : row.least ≤ length_limit). near) (cases_lt length_limit row.least)

-- a greatest length is the number of elements of a list, which is at most the least length
greatest_within : (c : Core) (path : Path) (row : Row) (m : ℕ) → IsRowAt c path row → row.most ≡ Some m → m ≤ row.least
greatest_within c path row m at is =
    let above : RefusesLength row.most (m + 1) = subst (λ (o : Option ℕ). RefusesLength o (m + 1)) (sym is) (omega arith) in
    let found = lengths_of_lists.1 c path (m + 1) ((at.says (length_at_least (m + 1))).0 above) in
    let more : found.0 < found.0 + 1 = omega arith in
    let over : m < found.0 + 1 = subst (λ (o : Option ℕ). RefusesLength o (found.0 + 1)) is ((at.says (length_at_least (found.0 + 1))).1 (found.2 (length_at_least (found.0 + 1)) more)) in
    ⊎_elim (λ (low : row.least < found.0). let no : row.least < row.least = (at.says (length_at_most row.least)).1 (found.2 (length_at_most row.least) low) in absurd (omega arith))
    (λ (high : found.0 ≤ row.least). omega (arith, over, high)) (cases_lt row.least found.0)

pub limits : (c : Core) (path : Path) (row : Row) → IsRowAt c path row → size c ≤ size_limit → AreLengths row.least row.most
limits c path row at small = by row.most refl where
  by : (o : Option ℕ) → row.most ≡ o → AreLengths row.least o
  by None e = least_within c path row at small
  by (Some m) e = (least_within c path row at small, greatest_within c path row m at e)

-- ---- words
has_words : (c : Core) (path : Path) (row : Row) → IsRowAt c path row → WritesWords c → HasWords row
has_words c path row at w = record {
  labels = label_words c path w row.labels (λ l. at.says (allows l));
  value = text_words (words c) w row.value.texts (λ t u h k r. (at.says (may_be (scalars.Text u))).1 ((unwritten_texts c path t u h k).0 ((at.says (may_be (scalars.Text t))).0 r)));
  usual = text_words (words c) w row.usual.texts (λ t u h k r. (at.says (usual (scalars.Text u))).1 ((unwritten_texts c path t u h k).1 ((at.says (usual (scalars.Text t))).0 r)));
}

pub valid_row : (c : Core) (path : Path) (row : Row) → IsRowAt c path row → size c ≤ size_limit → WritesWords c → IsValidRow row
valid_row c path row at small w =
    let fit = fits c path row at in record {
      kind = fit.kind;
      is_kind = fit.is_kind;
      usual = fit.usual;
      labels = fit.labels;
      row_lengths = fit.row_lengths;
      limits = limits c path row at small;
      texts = has_words c path row at w;
      not_free = at.not_free;
    }
