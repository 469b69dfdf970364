-- What is told in the shape of an export, where nothing conflicts, is a document that meets all that
-- is refused.
use Rattle.std.proofs.Common.{◌≡◌, ◌⊎◌, ◌<◌, ◌+◌, inl, inr, ⊎_elim, ℕ, zero, suc, Bool, true, false, ◌||◌, List, [], ◌∷◌, Option, None, Some, refl, sym, ap, subst, ◌∙◌, arith}
use Rattle.std.specs.List.{AllByRecursion}
use Rattle.std.specs.Ordering.{nat_cmp, ordering_then}
use Rattle.std.specs.Cmp.Lexicographic.{slice_cmp}
use Rattle.std.specs.Str.{IsUtf8, bytes_eq}
use Rattle.std.specs.declared.cmp.Ordering.{Ordering}
use Rattle.std.specs.declared.cmp.Ordering.TheVariants.{Less, Equal, Greater}
use Rattle.std.proofs.lemmas.Bool.{cases_Bool, cases_lt, false≢true}
use Rattle.std.specs.Cmp.{nat_cmp_is}
use Rattle.std.proofs.lemmas.Str.{IsUtf8-nil}
use Rattle.std.proofs.lemmas.Slice.Eq.{bytes_eq-Decides}
use Rattle.cue_lattice.specs.OneOf.{OneOf}
use Rattle.cue_lattice.specs.declared.scalar.Scalar.{Scalar}
use Rattle.cue_lattice.specs.declared.scalar.Scalar.TheVariants as scalars
use Rattle.cue_lattice.specs.Scalar.{IsScalar}
use Rattle.cue_lattice.specs.Path as paths
use Rattle.cue_lattice.specs.Path.{label, index, Path, path_cmp}
use Rattle.cue_lattice.specs.Question.{Refusals, may_be, struct, list, length_at_most, length_at_least}
use Rattle.cue_lattice.specs.Document as documents
use Rattle.cue_lattice.specs.Document.{Document, IsReadable, IsDocument, AreItems, AreMembers, IsPathBefore, length_of, HasMember}
use Rattle.cue_lattice.specs.Meets.{Meets, ItemsMeet, MembersMeet, at_index}
use Rattle.cue_lattice.proofs.Meeting.{items_less}
use Rattle.cue_sets.specs.Texts.{is_listed, is_text_member, text_cmp}
use Rattle.cue_sets.specs.TextLaws.{is_listed-zeros, greatest_length, zeros}
use Rattle.cue_scalars.specs.Scalars as sets
use Rattle.cue_scalars.specs.Scalars.{members, IsScalarSet}
use Rattle.cue_scalars.specs.declared.scalar_set.ScalarSet.{ScalarSet}
use Rattle.cue_row.specs.declared.parts.RowParts.{RowParts as Row}
use Rattle.cue_row.specs.declared.kind.RowKind.{RowKind}
use Rattle.cue_row.specs.declared.kind.RowKind.TheVariants as kinds
use Rattle.cue_row.specs.Kinds.{IsRowKind}
use Rattle.cue_row.specs.Row.{RefusesAsked, IsRow}
use Rattle.cue_row.specs.ValidRow.{AreWords, IsValidRow, UsualFits}
use Rattle.cue_table.specs.Form.{IsTable}
use Rattle.cue_table.specs.Tree.{Tree, step_into, row_at}
use Rattle.cue_table.specs.Valid.{IsValidTable}
use Rattle.serde_json.specs.Data as json
use Rattle.serde_json.specs.Data.{Data, null, boolean, number, string, array, object}
use Rattle.cue_report.specs.Answers.{IsStepDemanded}
use Rattle.cue_report.specs.Inner.Clear.{IsClear}
use Rattle.cue_report.specs.Documents.{json_of, items_json, members_json, IsDocumentOf}
use Rattle.cue_report.specs.Export.{refused_below, data_of, keys, count_elements, AreKeys, IsAtom, IsShape, AreElements}
use Rattle.cue_report.specs.Export as shapes
use Rattle.cue_report.specs.Gaps.{IsChosenScalar}
use Rattle.cue_report.specs.Listing.{IsRising, AreConflicts}
use Rattle.cue_report.specs.Picks.{IsPicked}
use Rattle.cue_report.proofs.Choice.{IsLeft, member_is}
use Rattle.cue_report.proofs.Clear.{clear_here, clear_below, clear_from, IsPlaced, placed_below}
use Rattle.cue_report.proofs.Descent.{Told}
use Rattle.cue_report.proofs.Documents.{row_is}
use Rattle.cue_report.proofs.Found.{found_cases}
use Rattle.cue_report.proofs.Existing.{placed, worded, IsWorded, ascii_then, utf8_zeros, RowsSeen}
use Rattle.cue_report.proofs.Rests.{form_into}
use Rattle.cue_report.proofs.Rows.{RefusedAt}

-- ---- what is picked is readable
listed_word : (texts : List (List ℕ)) (t : List ℕ) → AreWords texts → is_listed texts t ≡ true → IsUtf8 t
listed_word [] t w h = absurd (false≢true h)
listed_word (x ∷ texts) t w h = elim (cases_Bool (bytes_eq x t)) [
  | inl e ↦ subst IsUtf8 ((bytes_eq-Decides x t).0 e) w.0.utf8
  | inr e ↦ listed_word texts t w.1 (sym (ap (λ b. b || is_listed texts t) e) ∙ h)
]

-- a text that is not after some zeros is made of zeros
not_after : (n : ℕ) (t : List ℕ) → ¬ (text_cmp (zeros n) t ≡ Less) → IsUtf8 t
not_after n [] h = IsUtf8-nil
not_after zero (b ∷ t) h = absurd (h refl)
not_after (suc n) (zero ∷ t) h = ascii_then 0 t (omega arith) (not_after n t h)
not_after (suc n) (suc b ∷ t) h =
    let low : nat_cmp 0 (suc b) ≡ Less = sym (nat_cmp_is 0 (suc b) Less (omega arith)) in
    absurd (h (ap (λ o. ordering_then o (text_cmp (zeros n) t)) low))

-- either only the text is in the set, or none is before it
abbrev NoneBefore : ScalarSet → Scalar → Type 0
NoneBefore set scalar = (other : Scalar) → members set other ≡ true → (other ≡ scalar) ⊎ ¬ sets.IsScalarBefore other scalar

zeros_or : (n : ℕ) (t : List ℕ) → ((scalars.Text (zeros n) ≡ scalars.Text t) ⊎ ¬ (text_cmp (zeros n) t ≡ Less)) → IsUtf8 t
zeros_or n t (inl e) = let same : zeros n ≡ t = cc in subst IsUtf8 same (utf8_zeros n)
zeros_or n t (inr h) = not_after n t h

readable_text : (texts : Bool × List (List ℕ)) (t : List ℕ) → AreWords texts.1 → is_text_member texts t ≡ true
    → ((n : ℕ) → is_text_member texts (zeros n) ≡ true → (scalars.Text (zeros n) ≡ scalars.Text t) ⊎ ¬ (text_cmp (zeros n) t ≡ Less)) → IsUtf8 t
readable_text (false, texts) t w m h = listed_word texts t w m
readable_text (true, texts) t w m h =
    let n : ℕ = greatest_length texts + 1 in
    zeros_or n t (h n (search (arith, is_listed-zeros texts n (omega arith))))

readable : (set : ScalarSet) (scalar : Scalar) → AreWords set.texts.1 → members set scalar ≡ true → NoneBefore set scalar → IsReadable scalar
readable set scalars.Null w m h = tt
readable set (scalars.Bool b) w m h = tt
readable set (scalars.Int n) w m h = tt
readable set (scalars.Text t) w m h = readable_text set.texts t w m (λ n z. h (scalars.Text (zeros n)) z)

-- what may be told: a scalar of the language, readable, that may stand
record IsFit (refuses : Refusals) (path : Path) (scalar : Scalar) : Type 0 where
  is : IsScalar scalar
  readable : IsReadable scalar
  stands : ¬ refuses path (may_be scalar)

fit_value : (row : Row) (scalar : Scalar) → IsScalarSet row.value → AreWords row.value.texts.1 → IsLeft row.value scalar → NoneBefore row.value scalar → IsFit (λ (path : Path). RefusedAt (Some row)) [] scalar
fit_value row scalar form w l h = record { is = l.0; readable = readable row.value scalar w ((member_is row.value scalar form).1 l) h; stands = l.1 }

within : (row : Row) (kind : RowKind) → IsRowKind row kind → UsualFits row kind → row.struct_ok ≡ false → row.list_ok ≡ false → (scalar : Scalar) → members row.usual scalar ≡ true → members row.value scalar ≡ true
within row kinds.Free k u s l scalar m = absurd (false≢true (sym s ∙ k.1))
within row kinds.Scalar k u s l scalar m = u scalar m
within row kinds.Struct k u s l scalar m = absurd (false≢true (sym s ∙ k.1))
within row kinds.List k u s l scalar m = absurd (false≢true (sym l ∙ k.2))
within row kinds.Nothing k u s l scalar m = absurd (false≢true (sym (u scalar) ∙ m))

chosen_fits : (row : Row) (scalar : Scalar) → IsValidRow row → IsScalarSet row.value → IsScalarSet row.usual → row.struct_ok ≡ false → row.list_ok ≡ false → IsChosenScalar (λ (path : Path). RefusedAt (Some row)) [] scalar → IsFit (λ (path : Path). RefusedAt (Some row)) [] scalar
chosen_fits row scalar v f g s l (inl only) =
    let member : members row.usual scalar ≡ true = (member_is row.usual scalar g).1 only.0 in
    let left = (member_is row.value scalar f).0 (within row v.kind v.is_kind v.usual s l scalar member) in
    record {
      is = left.0;
      readable = readable row.usual scalar v.texts.usual member (λ other m. inl (only.1 other ((member_is row.usual other g).0 m)));
      stands = left.1;
    }
chosen_fits row scalar v f g s l (inr (none, only)) =
    fit_value row scalar f v.texts.value only.0 (λ other m. inl (only.1 other ((member_is row.value other f).0 m)))

picked_fits : (row : Row) (scalar : Scalar) → IsValidRow row → IsScalarSet row.value → IsScalarSet row.usual → row.struct_ok ≡ false → row.list_ok ≡ false → IsPicked (λ (path : Path). RefusedAt (Some row)) [] scalar → IsFit (λ (path : Path). RefusedAt (Some row)) [] scalar
picked_fits row scalar v f g s l (inl chosen) = chosen_fits row scalar v f g s l chosen
picked_fits row scalar v f g s l (inr (none, first)) =
    fit_value row scalar f v.texts.value first.0 (λ other m. inr (first.1 other ((member_is row.value other f).0 m)))

-- the rows of a table are kept in their form
not_some : (row : Row) → None ≡ Some row → ⊥
not_some row e = cc

form_at : (path : Path) (tree : Tree Row) (row : Row) → IsTable RefusesAsked IsRow tree → row_at tree path ≡ Some row → IsRow row
form_at [] tree row h e = row_is tree row e h
form_at (step ∷ path) tree row h e =
    ⊎_elim
    (λ f. absurd (not_some row (sym (ap (λ found. RowsSeen found path) f) ∙ e)))
    (λ f. form_at path f.0 row (form_into tree f.0 step h f.1) (sym (ap (λ found. RowsSeen found path) f.1) ∙ e))
    (found_cases (step_into tree step))

-- at each place where only scalars may stand, what is picked is fit
abbrev AreFit : Refusals → Type 0
AreFit refuses = (path : Path) (scalar : Scalar) → refuses path struct → refuses path list → IsPicked refuses path scalar → IsFit refuses path scalar

fits_at : (row : Option Row) (scalar : Scalar) → ((r : Row) → row ≡ Some r → IsValidRow r × IsRow r) → RefusedAt row struct → RefusedAt row list
    → IsPicked (λ (path : Path). RefusedAt row) [] scalar → IsFit (λ (path : Path). RefusedAt row) [] scalar
fits_at None scalar known s l p = absurd s
fits_at (Some row) scalar known s l p =
    let here = known row refl in
    picked_fits row scalar here.0 here.1.value here.1.usual s l p

fits : (tree : Tree Row) → IsValidTable tree → AreFit (Told tree)
fits tree valid path scalar s l p =
    let fit = fits_at (row_at tree path) scalar (λ row e. (valid.rows path row e, form_at path tree row valid.form e)) s l p in
    record { is = fit.is; readable = fit.readable; stands = fit.stands }

-- ---- what is known of the answers
record IsKnown (refuses : Refusals) : Type 0 where
  placed : IsPlaced refuses
  clear : IsClear refuses
  words : IsWorded refuses
  fits : AreFit refuses

known_below : (refuses : Refusals) (step : paths.Step) → IsKnown refuses → IsStepDemanded refuses [] step → IsKnown (refused_below refuses step)
known_below refuses step k d = record {
  placed = placed_below refuses step k.placed;
  clear = clear_below refuses step k.clear d;
  words = λ path l h. k.words (step ∷ path) l h;
  fits = λ path scalar s l p. let fit = k.fits (step ∷ path) scalar s l p in record { is = fit.is; readable = fit.readable; stands = fit.stands };
}

-- the document that JSON tells
record IsBuilt (refuses : Refusals) (told : Data) : Type 0 where
  document : Document
  is : IsDocument document
  meets : Meets refuses document
  json : told ≡ json_of document

record AreItemsBuilt (refuses : Refusals) (first : ℕ) (told : json.Items) : Type 0 where
  items : documents.Items
  are : AreItems items
  meet : ItemsMeet (λ i. at_index refuses (first + i)) items
  length : length_of items ≡ count_elements told
  json : told ≡ items_json items

record AreMembersBuilt (refuses : Refusals) (told : json.Members) : Type 0 where
  members : documents.Members
  are : AreMembers members
  meet : MembersMeet refuses members
  has : (l : List ℕ) → OneOf (λ k. k ≡ l) (keys told) → HasMember l members
  before : (k : List ℕ) → AllByRecursion (λ later. path_cmp (label k ∷ []) (label later ∷ []) ≡ Less) (keys told) → IsPathBefore k members
  json : told ≡ members_json members

then_less : (o : Ordering) → ordering_then o Equal ≡ Less → o ≡ Less
then_less Less e = refl
then_less Equal e = cc
then_less Greater e = cc

atom_built : (refuses : Refusals) (told : Data) → IsKnown refuses → IsAtom IsPicked refuses told → IsBuilt refuses told
atom_built refuses told k (inl free) = record { document = documents.scalar scalars.Null; is = (tt, tt); meets = free.0.0 scalars.Null; json = free.1 }
atom_built refuses told k (inr h) =
    let fit = k.fits [] h.picked.0 h.no_struct h.no_list h.picked.1 in
    record { document = documents.scalar h.picked.0; is = (fit.is, fit.readable); meets = fit.stands; json = h.picked.2 }

-- a list of a length that some list may have
fair_length : (refuses : Refusals) → IsKnown refuses → (¬ refuses [] list) → (length : ℕ) → ((n : ℕ) → n < length → refuses [] (length_at_most n)) → ¬ refuses [] (length_at_least length)
fair_length refuses k may length low g =
    (clear_here refuses k.clear).0 (inr (
      may,
      λ n. elim (cases_lt n length) [
        | inl h ↦ inl (low n h)
        | inr h ↦ inr ((k.placed []).4 length n h g)
      ],
    ))

mutual
  build : (told : Data) (refuses : Refusals) → IsKnown refuses → IsShape IsPicked refuses told → IsBuilt refuses told
  build null refuses k h = atom_built refuses null k h
  build (boolean b) refuses k h = atom_built refuses (boolean b) k h
  build (number n) refuses k h = atom_built refuses (number n) k h
  build (string s) refuses k h = atom_built refuses (string s) k h
  build (array told) refuses k h =
      let built = build_items told refuses 0 k (λ i l. (h.2 (0 + i)).1 (let e : 0 + i ≡ i = omega arith in omega (arith, e, l))) h.3 in
      let e : length_of built.items ≡ count_elements told = built.length in
      record {
        document = documents.list built.items;
        is = built.are;
        meets = (
          h.1,
          (λ g. let low : length_of built.items < count_elements told = (h.2 (length_of built.items)).0 g in let no : ⊥ = omega arith in no),
          fair_length refuses k h.1 (length_of built.items) (λ n l. (h.2 n).1 (omega (arith, e, l))),
          items_less (λ i. at_index refuses (0 + i)) (at_index refuses)
              (λ i path question g. let z : i ≡ 0 + i = omega arith in subst (λ n. refuses (index n ∷ path) question) z g)
              built.items built.meet,
        );
        json = ap array built.json;
      }
  build (object told) refuses k h =
      let built = build_members told refuses k h.2.sound h.2.rising h.3 in
      record {
        document = documents.map built.members;
        is = built.are;
        meets = (h.0, (λ l g. built.has l (h.2.complete l g)), built.meet);
        json = ap object built.json;
      }

  build_items : (told : json.Items) (refuses : Refusals) (first : ℕ) → IsKnown refuses → ((i : ℕ) → i < count_elements told → IsStepDemanded refuses [] (index (first + i))) → AreElements IsPicked refuses first told → AreItemsBuilt refuses first told
  build_items json.no_items refuses first k d h = record { items = documents.no_items; are = tt; meet = tt; length = refl; json = refl }
  build_items (json.item here told) refuses first k d h =
      let z : first + 0 ≡ first = omega arith in
      let demanded : IsStepDemanded refuses [] (index first) = subst (λ n. IsStepDemanded refuses [] (index n)) z (d 0 (omega arith)) in
      let one = build here (refused_below refuses (index first)) (known_below refuses (index first) k demanded) h.0 in
      let more = build_items told refuses (suc first) k
      (λ i l. let e : first + suc i ≡ suc first + i = omega arith in subst (λ n. IsStepDemanded refuses [] (index n)) e (d (suc i) (omega (arith, l)))) h.1 in
      let e : length_of more.items ≡ count_elements told = more.length in
      record {
        items = documents.item one.document more.items;
        are = (one.is, more.are);
        meet = (
          subst (λ n. Meets (at_index refuses n) one.document) (sym z) one.meets,
          items_less (λ i. at_index refuses (suc first + i)) (λ i. at_index refuses (first + suc i))
              (λ i path question g. let s : first + suc i ≡ suc first + i = omega arith in subst (λ n. refuses (index n ∷ path) question) s g)
              more.items more.meet,
        );
        length = let f : length_of more.items + 1 ≡ suc (count_elements told) = omega (arith, e) in f;
        json = λ i. json.item (one.json i) (more.json i);
      }

  build_members : (told : json.Members) (refuses : Refusals) → IsKnown refuses → AllByRecursion (λ key. IsStepDemanded refuses [] (label key)) (keys told) → IsRising (λ key. label key ∷ []) (keys told)
      → shapes.AreMembers IsPicked refuses told → AreMembersBuilt refuses told
  build_members json.no_members refuses k d r h = record { members = documents.no_members; are = tt; meet = tt; has = λ l o. o; before = λ l b. tt; json = refl }
  build_members (json.member key here told) refuses k d r h =
      let one = build here (refused_below refuses (label key)) (known_below refuses (label key) k d.0) h.0 in
      let more = build_members told refuses k d.1 r.1 h.1 in
      record {
        members = documents.member key one.document more.members;
        are = (k.words [] key d.0, more.before key r.0, one.is, more.are);
        meet = ((clear_here refuses k.clear).1 key d.0, one.meets, more.meet);
        has = λ l o. ⊎_elim (λ e. inl e) (λ g. inr (more.has l g)) o;
        before = λ l b. then_less (slice_cmp nat_cmp l key) b.0;
        json = λ i. json.member key (one.json i) (more.json i);
      }

-- What is told of a valid table without conflicts, in the shape of an export, meets it.
pub tells : (tree : Tree Row) (told : Data) → IsValidTable tree → AreConflicts (Told tree) [] → IsShape IsPicked (Told tree) told → IsDocumentOf IsPicked (Told tree) told
tells tree told valid none shape =
    let built = build told (Told tree) (record { placed = placed tree valid; clear = clear_from (Told tree) none; words = worded tree valid; fits = fits tree valid }) shape in
    record { document = built.document; is = built.is; meets = built.meets; json = built.json; shape = shape }
