-- A row that refuses just what one of two valid rows refuses is valid.
use Rattle.std.proofs.Common.{◌≡◌, ◌↔◌, ◌⊎◌, inl, inr, ⊎_elim, ℕ, ◌+◌, ◌<◌, ◌≤◌, Bool, true, false, ◌&&◌, List, Option, Some, None, refl, sym, ap, subst, ◌∙◌, arith}
use Rattle.std.proofs.lemmas.Bool.{false≢true, cases_lt, and_left, and_from}
use Rattle.cue_lattice.specs.Limits.{length_limit}
use Rattle.cue_lattice.specs.declared.scalar.Scalar.{Scalar}
use Rattle.cue_lattice.specs.declared.scalar.Scalar.TheVariants as scalar_forms
use Rattle.cue_scalars.specs.Scalars.{members, IsScalarsWithin}
use Rattle.cue_scalars.specs.ScalarLaws.{same_scalars}
use Rattle.cue_row.specs.declared.parts.RowParts.{RowParts as Row}
use Rattle.cue_row.specs.declared.level.Level.{Level}
use Rattle.cue_row.specs.declared.level.Level.TheVariants.{Optional}
use Rattle.cue_row.specs.declared.kind.RowKind.{RowKind}
use Rattle.cue_row.specs.declared.kind.RowKind.TheVariants.{Free, Scalar as Scalars, Struct, List as Lists, Nothing}
use Rattle.cue_row.specs.declared.question.Question.TheVariants as questions
use Rattle.cue_row.specs.Levels.{level_of}
use Rattle.cue_row.specs.LabelSets.{RefusesLabel}
use Rattle.cue_row.specs.LabelLaws.{same_labels}
use Rattle.cue_row.specs.Lengths.{RefusesLength}
use Rattle.cue_row.specs.Kinds.{IsEmptySet, IsRowKind}
use Rattle.cue_row.specs.Row.{IsRow, IsMetRow}
use Rattle.cue_row.specs.RowLaws.{same_level, same_length}
use Rattle.cue_row.specs.ValidRow.{UsualFits, LabelsFit, LengthsFit, AreLengths, HasWords, IsValidRow}
use Rattle.cue_row.proofs.Free.{no_greatest}
use Rattle.cue_row.proofs.MetSets.{bool_met, members_met, empty_or_not, met_words, met_label_words, not_member}

-- two rows and what is met of them
pub record AreMetRows (a b m : Row) : Type 0 where
  pub left : IsRow a
  pub right : IsRow b
  pub row : IsRow m
  pub met : IsMetRow a b m

-- the order of the two rows makes no difference
pub turned : (a b m : Row) → AreMetRows a b m → AreMetRows b a m
turned a b m h = record {
  left = h.right;
  right = h.left;
  row = h.row;
  met = λ q. (λ r. ⊎_elim (λ x. inr x) (λ x. inl x) ((h.met q).0 r), λ r. (h.met q).1 (⊎_elim (λ x. inr x) (λ x. inl x) r));
}

value_met : (a b m : Row) → AreMetRows a b m → (x : Scalar) → members m.value x ≡ (members a.value x && members b.value x)
value_met a b m h = members_met a.value b.value m.value h.left.value h.row.value (λ x. h.met (questions.MayBe x))

usual_met : (a b m : Row) → AreMetRows a b m → (x : Scalar) → members m.usual x ≡ (members a.usual x && members b.usual x)
usual_met a b m h = members_met a.usual b.usual m.usual h.left.usual h.row.usual (λ x. h.met (questions.Usual x))

struct_met : (a b m : Row) → AreMetRows a b m → m.struct_ok ≡ (a.struct_ok && b.struct_ok)
struct_met a b m h = bool_met m.struct_ok a.struct_ok b.struct_ok (h.met questions.Struct)

list_met : (a b m : Row) → AreMetRows a b m → m.list_ok ≡ (a.list_ok && b.list_ok)
list_met a b m h = bool_met m.list_ok a.list_ok b.list_ok (h.met questions.List)

-- what one side leaves out is left out
no_value : (a b m : Row) → AreMetRows a b m → IsEmptySet a.value → IsEmptySet m.value
no_value a b m h e x = value_met a b m h x ∙ and_left (members a.value x) (members b.value x) (e x)

no_usual : (a b m : Row) → AreMetRows a b m → IsEmptySet a.usual → IsEmptySet m.usual
no_usual a b m h e x = usual_met a b m h x ∙ and_left (members a.usual x) (members b.usual x) (e x)

no_struct : (a b m : Row) → AreMetRows a b m → a.struct_ok ≡ false → m.struct_ok ≡ false
no_struct a b m h e = struct_met a b m h ∙ and_left a.struct_ok b.struct_ok e

no_list : (a b m : Row) → AreMetRows a b m → a.list_ok ≡ false → m.list_ok ≡ false
no_list a b m h e = list_met a b m h ∙ and_left a.list_ok b.list_ok e

not_allowed : (labels : Option (List (List ℕ))) (l : List ℕ) → labels ≡ None → RefusesLabel labels l → ⊥
not_allowed labels l e r = let no : RefusesLabel None l = subst (λ (x : Option (List (List ℕ))). RefusesLabel x l) e r in false≢true (sym no)

not_short : (most : Option ℕ) (n : ℕ) → most ≡ None → RefusesLength most n → ⊥
not_short most n e r = subst (λ (x : Option ℕ). RefusesLength x n) e r

-- where neither row says which labels may stand, the met row doesn't
pub no_labels : (a b m : Row) → AreMetRows a b m → a.labels ≡ None → b.labels ≡ None → m.labels ≡ None
no_labels a b m h e f =
    same_labels m.labels None h.row.labels tt (λ l. (
      λ r. absurd (⊎_elim (not_allowed a.labels l e) (not_allowed b.labels l f) ((h.met (questions.Allows l)).0 r)),
      λ r. absurd (false≢true (sym r)),
    ))

-- the least length is the greater of both
pub least_above : (a b m : Row) → AreMetRows a b m → a.least ≤ m.least
least_above a b m h =
    ⊎_elim (λ (less : m.least < a.least). let no : m.least < m.least = (h.met (questions.LengthAtMost m.least)).1 (inl less) in absurd (omega arith))
    (λ (more : a.least ≤ m.least). more) (cases_lt m.least a.least)

least_below : (a b m : Row) (n : ℕ) → AreMetRows a b m → a.least ≤ n → b.least ≤ n → m.least ≤ n
least_below a b m n h p q =
    ⊎_elim (λ (less : n < m.least). absurd (⊎_elim (λ (x : n < a.least). omega arith) (λ (x : n < b.least). omega arith) ((h.met (questions.LengthAtMost n)).0 less)))
    (λ (more : m.least ≤ n). more) (cases_lt n m.least)

no_most : (a b m : Row) → AreMetRows a b m → a.most ≡ None → b.most ≡ None → m.most ≡ None
no_most a b m h e f = no_greatest m.most (λ n r. ⊎_elim (not_short a.most n e) (not_short b.most n f) ((h.met (questions.LengthAtLeast n)).0 r))

-- what is met of two optional rows is optional
pub met_level : (a b m : Row) → AreMetRows a b m → a.level ≡ Optional → b.level ≡ Optional → m.level ≡ Optional
met_level a b m h e f =
    let left = ap level_of e in
    let right = ap level_of f in
    let low : level_of m.level ≤ 0 =
    ⊎_elim (λ (more : 0 < level_of m.level). absurd (⊎_elim (λ (x : 0 < level_of a.level). omega arith) (λ (x : 0 < level_of b.level). omega arith) ((h.met (questions.LevelAtMost 0)).0 more)))
    (λ (no : level_of m.level ≤ 0). no) (cases_lt 0 (level_of m.level)) in
    same_level m.level Optional (omega arith)

-- what a row says beside its level fits a kind
abbrev FitsAs : Row → RowKind → Type 0
FitsAs row kind = IsRowKind row kind × UsualFits row kind × LabelsFit row kind × LengthsFit row kind

-- the row is of a kind, and fits it
record Fits (row : Row) : Type 0 where
  kind : RowKind
  fits : FitsAs row kind

level_fits : (row : Row) (level : Level) (kind : RowKind) → FitsAs row kind → FitsAs (record row { level = level }) kind
level_fits row level Free h = h
level_fits row level Scalars h = h
level_fits row level Struct h = h
level_fits row level Lists h = h
level_fits row level Nothing h = h

-- what is met with a free row stays as it is but for the level
free_met : (a b m : Row) (kind : RowKind) → AreMetRows a b m → FitsAs a Free → FitsAs b kind → Fits m
free_met a b m kind h p q =
    let value = same_scalars m.value b.value h.row.value h.right.value (λ x. (λ r. ⊎_elim (λ y. absurd (p.0.0 x y)) (λ y. y) ((h.met (questions.MayBe x)).0 r), λ r. (h.met (questions.MayBe x)).1 (inr r))) in
    let usual = same_scalars m.usual b.usual h.row.usual h.right.usual (λ x. (λ r. ⊎_elim (λ y. absurd (p.1 x y)) (λ y. y) ((h.met (questions.Usual x)).0 r), λ r. (h.met (questions.Usual x)).1 (inr r))) in
    let struct_ok : m.struct_ok ≡ b.struct_ok = struct_met a b m h ∙ ap (λ c. c && b.struct_ok) p.0.1 in
    let list_ok : m.list_ok ≡ b.list_ok = list_met a b m h ∙ ap (λ c. c && b.list_ok) p.0.2 in
    let labels = same_labels m.labels b.labels h.row.labels h.right.labels (λ l. (λ r. ⊎_elim (λ y. absurd (not_allowed a.labels l p.2 y)) (λ y. y) ((h.met (questions.Allows l)).0 r), λ r. (h.met (questions.Allows l)).1 (inr r))) in
    let zero_least : a.least ≡ 0 = p.3.0 in
    let low = least_below a b m b.least h (omega arith) (omega arith) in
    let high = least_above b a m (turned a b m h) in
    let least : m.least ≡ b.least = omega arith in
    let most = same_length m.most b.most (λ n. (λ r. ⊎_elim (λ y. absurd (not_short a.most n p.3.1 y)) (λ y. y) ((h.met (questions.LengthAtLeast n)).0 r), λ r. (h.met (questions.LengthAtLeast n)).1 (inr r))) in
    let same : record b { level = m.level } ≡ m =
    λ i. record { level = m.level; value = sym value i; usual = sym usual i; struct_ok = sym struct_ok i; list_ok = sym list_ok i; labels = sym labels i; least = sym least i; most = sym most i } in
    record { kind = kind; fits = subst (λ row. FitsAs row kind) same (level_fits b m.level kind q) }

-- where nothing is left that may stand
nothing_fits : (m : Row) → IsEmptySet m.value → IsEmptySet m.usual → m.struct_ok ≡ false → m.list_ok ≡ false → Fits m
nothing_fits m p q r s = record { kind = Nothing; fits = ((p, r, s), q, tt, tt) }

both_true : (a b : Bool) → (a && b) ≡ true → (a ≡ true) × (b ≡ true)
both_true true true e = (refl, refl)
both_true true false e = absurd (false≢true e)
both_true false b e = absurd (false≢true e)

usual_within : (a b m : Row) → AreMetRows a b m → IsScalarsWithin a.usual a.value → IsScalarsWithin b.usual b.value → IsScalarsWithin m.usual m.value
usual_within a b m h p q x e =
    let usual = both_true (members a.usual x) (members b.usual x) (sym (usual_met a b m h x) ∙ e) in
    value_met a b m h x ∙ and_from (members a.value x) (members b.value x) (p x usual.0) (q x usual.1)

scalars_met : (a b m : Row) → AreMetRows a b m → FitsAs a Scalars → FitsAs b Scalars → Fits m
scalars_met a b m h p q =
    let within = usual_within a b m h p.1 q.1 in
    let struct_ok = no_struct a b m h p.0.1 in
    let list_ok = no_list a b m h p.0.2 in
    let zero_left : a.least ≡ 0 = p.3.0 in
    let zero_right : b.least ≡ 0 = q.3.0 in
    let low = least_below a b m 0 h (omega arith) (omega arith) in
    let least : m.least ≡ 0 = omega arith in
    ⊎_elim
    (λ (none : IsEmptySet m.value). nothing_fits m none (λ x. not_member (members m.usual x) (λ e. false≢true (sym (none x) ∙ within x e))) struct_ok list_ok)
    (λ (some : (x : Scalar) × (members m.value x ≡ true)). record {
      kind = Scalars;
      fits = ((λ none. false≢true (sym (none some.0) ∙ some.1), struct_ok, list_ok), within, no_labels a b m h p.2 q.2, (least, no_most a b m h p.3.1 q.3.1));
    })
    (empty_or_not m.value h.row.value)

structs_met : (a b m : Row) → AreMetRows a b m → FitsAs a Struct → FitsAs b Struct → Fits m
structs_met a b m h p q =
    let zero_left : a.least ≡ 0 = p.3.0 in
    let zero_right : b.least ≡ 0 = q.3.0 in
    let low = least_below a b m 0 h (omega arith) (omega arith) in
    let least : m.least ≡ 0 = omega arith in
    record {
      kind = Struct;
      fits = ((no_value a b m h p.0.0, struct_met a b m h ∙ and_from a.struct_ok b.struct_ok p.0.1 q.0.1, no_list a b m h p.0.2), no_usual a b m h p.1, tt, (least, no_most a b m h p.3.1 q.3.1));
    }

lists_met : (a b m : Row) → AreMetRows a b m → FitsAs a Lists → FitsAs b Lists → Fits m
lists_met a b m h p q = record {
  kind = Lists;
  fits = ((no_value a b m h p.0.0, no_struct a b m h p.0.1, list_met a b m h ∙ and_from a.list_ok b.list_ok p.0.2 q.0.2), no_usual a b m h p.1, no_labels a b m h p.2 q.2, tt);
}

-- rows of two kinds, of which neither is free, leave nothing that may stand
apart_met : (a b m : Row) → AreMetRows a b m → a.struct_ok ≡ false → IsEmptySet b.value → IsEmptySet b.usual → (a.list_ok ≡ false) ⊎ (b.list_ok ≡ false) → Fits m
apart_met a b m h r p q s =
    let back = turned a b m h in
    nothing_fits m (no_value b a m back p) (no_usual b a m back q) (no_struct a b m h r) (⊎_elim (no_list a b m h) (no_list b a m back) s)

kinds_met : (a b m : Row) (j k : RowKind) → AreMetRows a b m → FitsAs a j → FitsAs b k → Fits m
kinds_met a b m Free k h p q = free_met a b m k h p q
kinds_met a b m Scalars Free h p q = free_met b a m Scalars (turned a b m h) q p
kinds_met a b m Struct Free h p q = free_met b a m Struct (turned a b m h) q p
kinds_met a b m Lists Free h p q = free_met b a m Lists (turned a b m h) q p
kinds_met a b m Nothing Free h p q = free_met b a m Nothing (turned a b m h) q p
kinds_met a b m Scalars Scalars h p q = scalars_met a b m h p q
kinds_met a b m Struct Struct h p q = structs_met a b m h p q
kinds_met a b m Lists Lists h p q = lists_met a b m h p q
kinds_met a b m Scalars Struct h p q = apart_met a b m h p.0.1 q.0.0 q.1 (inl p.0.2)
kinds_met a b m Scalars Lists h p q = apart_met a b m h p.0.1 q.0.0 q.1 (inl p.0.2)
kinds_met a b m Scalars Nothing h p q = apart_met a b m h p.0.1 q.0.0 q.1 (inl p.0.2)
kinds_met a b m Struct Scalars h p q = apart_met b a m (turned a b m h) q.0.1 p.0.0 p.1 (inl q.0.2)
kinds_met a b m Struct Lists h p q = apart_met b a m (turned a b m h) q.0.1 p.0.0 p.1 (inr p.0.2)
kinds_met a b m Struct Nothing h p q = apart_met b a m (turned a b m h) q.0.1 p.0.0 p.1 (inl q.0.2)
kinds_met a b m Lists Scalars h p q = apart_met b a m (turned a b m h) q.0.1 p.0.0 p.1 (inl q.0.2)
kinds_met a b m Lists Struct h p q = apart_met a b m h p.0.1 q.0.0 q.1 (inr q.0.2)
kinds_met a b m Lists Nothing h p q = apart_met b a m (turned a b m h) q.0.1 p.0.0 p.1 (inl q.0.2)
kinds_met a b m Nothing Scalars h p q = apart_met b a m (turned a b m h) q.0.1 p.0.0 p.1 (inl q.0.2)
kinds_met a b m Nothing Struct h p q = apart_met a b m h p.0.1 q.0.0 q.1 (inl p.0.2)
kinds_met a b m Nothing Lists h p q = apart_met a b m h p.0.1 q.0.0 q.1 (inl p.0.2)
kinds_met a b m Nothing Nothing h p q = apart_met a b m h p.0.1 q.0.0 q.1 (inl p.0.2)

limits_least : (least : ℕ) (most : Option ℕ) → AreLengths least most → least ≤ length_limit
limits_least least None h = h
limits_least least (Some most) h = h.0

-- a length that refuses the one above another is no greater than that
above_most : (a : Option ℕ) (least x : ℕ) → AreLengths least a → ((n : ℕ) → RefusesLength a n → x < n) → (n : ℕ) → RefusesLength a n → x ≤ least
above_most None least x h k n r = absurd r
above_most (Some y) least x h k n r = let more : x < y + 1 = k (y + 1) (omega arith) in let within : y ≤ least = h.1 in omega arith

lengths_met :
    (a b m : Option ℕ) (left right least : ℕ) → AreLengths left a → AreLengths right b → left ≤ least → right ≤ least → least ≤ length_limit
    → ((n : ℕ) → RefusesLength m n ↔ (RefusesLength a n ⊎ RefusesLength b n)) → AreLengths least m
lengths_met a b None left right least p q l r s h = s
lengths_met a b (Some x) left right least p q l r s h = (
  s,
  ⊎_elim
      (λ here. let low : x ≤ left = above_most a left x p (λ n k. (h n).1 (inl k)) (x + 1) here in omega arith)
      (λ here. let low : x ≤ right = above_most b right x q (λ n k. (h n).1 (inr k)) (x + 1) here in omega arith)
      ((h (x + 1)).0 (omega arith)),
)

-- what is met of two valid rows is a valid row
pub met_valid : (a b m : Row) → AreMetRows a b m → IsValidRow a → IsValidRow b → IsValidRow m
met_valid a b m h p q =
    let left : FitsAs a p.kind = (p.is_kind, p.usual, p.labels, p.row_lengths) in
    let right : FitsAs b q.kind = (q.is_kind, q.usual, q.labels, q.row_lengths) in
    let fit = kinds_met a b m p.kind q.kind h left right in
    let low = limits_least a.least a.most p.limits in
    let high = limits_least b.least b.most q.limits in
    let words : HasWords m = record {
      labels = met_label_words a.labels b.labels m.labels p.texts.labels q.texts.labels (λ l. h.met (questions.Allows l));
      value = met_words a.value.texts b.value.texts m.value.texts p.texts.value q.texts.value (λ t. h.met (questions.MayBe (scalar_forms.Text t)));
      usual = met_words a.usual.texts b.usual.texts m.usual.texts p.texts.usual q.texts.usual (λ t. h.met (questions.Usual (scalar_forms.Text t)));
    } in
    record {
      kind = fit.kind;
      is_kind = fit.fits.0;
      usual = fit.fits.1;
      labels = fit.fits.2;
      row_lengths = fit.fits.3;
      limits = lengths_met a.most b.most m.most a.least b.least m.least p.limits q.limits (least_above a b m h) (least_above b a m (turned a b m h))
          (least_below a b m length_limit h low high) (λ n. h.met (questions.LengthAtLeast n));
      texts = words;
      not_free = λ free. p.not_free (λ question r. free question ((h.met question).1 (inl r)));
    }

-- what may hold fields may still, or holds nothing
pub met_struct : (a b m : Row) → AreMetRows a b m → IsValidRow b → IsRowKind a Struct ⊎ IsRowKind a Nothing → IsRowKind m Struct ⊎ IsRowKind m Nothing
met_struct a b m h q =
    ⊎_elim (λ p. by q.kind p q.is_kind) (λ p. inr (no_value a b m h p.0, no_struct a b m h p.1, no_list a b m h p.2))
  where
    by : (k : RowKind) → IsRowKind a Struct → IsRowKind b k → IsRowKind m Struct ⊎ IsRowKind m Nothing
    by Free p k = inl (no_value a b m h p.0, struct_met a b m h ∙ and_from a.struct_ok b.struct_ok p.1 k.1, no_list a b m h p.2)
    by Struct p k = inl (no_value a b m h p.0, struct_met a b m h ∙ and_from a.struct_ok b.struct_ok p.1 k.1, no_list a b m h p.2)
    by Scalars p k = inr (no_value a b m h p.0, no_struct b a m (turned a b m h) k.1, no_list a b m h p.2)
    by Lists p k = inr (no_value a b m h p.0, no_struct b a m (turned a b m h) k.1, no_list a b m h p.2)
    by Nothing p k = inr (no_value a b m h p.0, no_struct b a m (turned a b m h) k.1, no_list a b m h p.2)

-- and so what may hold elements
pub met_list : (a b m : Row) → AreMetRows a b m → IsValidRow b → IsRowKind a Lists ⊎ IsRowKind a Nothing → IsRowKind m Lists ⊎ IsRowKind m Nothing
met_list a b m h q =
    ⊎_elim (λ p. by q.kind p q.is_kind) (λ p. inr (no_value a b m h p.0, no_struct a b m h p.1, no_list a b m h p.2))
  where
    by : (k : RowKind) → IsRowKind a Lists → IsRowKind b k → IsRowKind m Lists ⊎ IsRowKind m Nothing
    by Free p k = inl (no_value a b m h p.0, no_struct a b m h p.1, list_met a b m h ∙ and_from a.list_ok b.list_ok p.2 k.2)
    by Lists p k = inl (no_value a b m h p.0, no_struct a b m h p.1, list_met a b m h ∙ and_from a.list_ok b.list_ok p.2 k.2)
    by Scalars p k = inr (no_value a b m h p.0, no_struct a b m h p.1, no_list b a m (turned a b m h) k.2)
    by Struct p k = inr (no_value a b m h p.0, no_struct a b m h p.1, no_list b a m (turned a b m h) k.2)
    by Nothing p k = inr (no_value a b m h p.0, no_struct a b m h p.1, no_list b a m (turned a b m h) k.2)

-- structs are met to a struct
pub met_structs : (a b m : Row) → AreMetRows a b m → IsRowKind a Struct → IsRowKind b Struct → IsRowKind m Struct
met_structs a b m h p q = (no_value a b m h p.0, struct_met a b m h ∙ and_from a.struct_ok b.struct_ok p.1 q.1, no_list a b m h p.2)
