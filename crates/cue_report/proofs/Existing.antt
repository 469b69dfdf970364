-- A valid table without conflicts has a document that meets it.
use Rattle.std.proofs.Common.{◌≡◌, ◌⊎◌, ◌<◌, ◌≤◌, ◌+◌, inl, inr, ⊎_elim, ℕ, zero, suc, Bool, true, false, not, List, [], ◌∷◌, ◌++◌, ℤ, Option, None, Some, refl, sym, ap, subst, ◌∙◌, arith}
use Rattle.std.specs.List.{AllByRecursion}
use Rattle.std.specs.Option.{option_and_then}
use Rattle.std.specs.Str.{IsUtf8}
use Rattle.std.specs.declared.cmp.Ordering.{Ordering}
use Rattle.std.specs.declared.cmp.Ordering.TheVariants.{Less, Equal, Greater}
use Rattle.std.proofs.lemmas.Bool.{cases_Bool, cases_lt, false≢true}
use Rattle.std.proofs.lemmas.Str.{IsUtf8-append, IsUtf8-nil, IsUtf8-encode, encode_ascii}
use lib.Utf8.{low_scalar}
use Rattle.cue_lattice.specs.declared.scalar.Scalar.{Scalar}
use Rattle.cue_lattice.specs.declared.scalar.Scalar.TheVariants as scalars
use Rattle.cue_lattice.specs.Scalar.{IsScalar}
use Rattle.cue_lattice.specs.Path as paths
use Rattle.cue_lattice.specs.Path.{label, index, step_cmp, Path}
use Rattle.cue_lattice.specs.Question.{Question, Refusals, may_be, struct, list, level_at_most, length_at_most, length_at_least}
use Rattle.cue_lattice.specs.Document as documents
use Rattle.cue_lattice.specs.Document.{Document, Items, Members, IsReadable, IsDocument, AreItems, AreMembers, IsPathBefore, length_of, HasMember}
use Rattle.cue_lattice.specs.Meets.{ItemsMeet, MembersMeet, at_index}
use Rattle.cue_sets.specs.Pieces.{least, is_member, IsCanonical}
use Rattle.cue_sets.specs.PieceLaws.{first_is_least}
use Rattle.cue_sets.specs.Texts.{is_text_member}
use Rattle.cue_sets.specs.TextLaws.{first_is_listed, is_listed-zeros, greatest_length, zeros}
use Rattle.cue_scalars.specs.Scalars.{members, IsScalarSet, RefusesScalar}
use Rattle.cue_scalars.specs.declared.scalar_set.ScalarSet.{ScalarSet}
use Rattle.cue_row.specs.declared.parts.RowParts.{RowParts as Row}
use Rattle.cue_row.specs.declared.kind.RowKind.{RowKind}
use Rattle.cue_row.specs.declared.kind.RowKind.TheVariants as kinds
use Rattle.cue_row.specs.Kinds.{IsEmptySet, IsRowKind}
use Rattle.cue_row.specs.Lengths.{RefusesLength}
use Rattle.cue_row.specs.Row.{RefusesAsked, IsRow}
use Rattle.cue_row.specs.ValidRow.{AreWords, IsWord, IsWordStep, IsValidRow, LengthsFit}
use Rattle.cue_table.specs.Form.{IsStepBelowAll, AreBranches, IsRowKept, IsTable}
use Rattle.cue_table.specs.Tree.{Tree, node, Children, none, child, Rest, no_rest, onward, row_of, below, if_equal, find, step_into, branch_at, row_at}
use Rattle.cue_table.specs.Valid.{IsValidTable}
use Rattle.cue_report.specs.Answers.{path_below, IsStepDemanded, HasNoScalar}
use Rattle.cue_report.specs.Inner.Clear.{IsClear}
use Rattle.cue_report.specs.Documents.{SomeMeets}
use Rattle.cue_report.specs.Export.{refused_below}
use Rattle.cue_report.specs.Listing.{AreConflicts}
use Rattle.cue_report.specs.Inner.Search.{is_empty_set, is_demanded}
use Rattle.cue_report.proofs.Choice.{member_is}
use Rattle.cue_report.proofs.Clear.{clear_here, clear_below, clear_from, IsPlaced, OfLabels, OfLengths, no_conflicts}
use Rattle.cue_report.proofs.Descent.{Told, open_below, seen, first_demanded}
use Rattle.cue_report.proofs.Empty.{refused, empty_members}
use Rattle.cue_report.proofs.Found.{AreAmong, found_first, found_later, found_cases}
use Rattle.cue_report.proofs.Order.{equal_steps}
use Rattle.cue_report.proofs.Rests.{own, at_label, into_cases, form_into, branches}
use Rattle.cue_report.proofs.Rows.{RefusedAt}

-- ---- what a valid table says of its places
of_row : (row : Option Row) (question : Question) → RefusedAt row question → (r : Row) × (row ≡ Some r) × RefusedAt (Some r) question
of_row None question h = absurd h
of_row (Some r) question h = (r, refl, h)

back : (tree : Tree Row) (path : Path) (row : Row) (question : Question) → row_at tree path ≡ Some row → RefusedAt (Some row) question → Told tree path question
back tree path row question e h = subst (λ r. RefusedAt r question) (sym e) h

no_scalars : (tree : Tree Row) (path : Path) (row : Row) → row_at tree path ≡ Some row → IsEmptySet row.value → HasNoScalar (Told tree) path
no_scalars tree path row e h scalar is = back tree path row (may_be scalar) e (refused row.value h scalar is)

of_labels : (tree : Tree Row) → IsValidTable tree → (path : Path) → OfLabels (Told tree) path
of_labels tree valid path l h =
    let here = of_row (row_at tree (path_below path (label l))) (level_at_most 0) h in
    let parent = valid.parents path (label l) here.0 here.1 in
    ⊎_elim
    (λ k. (no_scalars tree path parent.0 parent.1 k.0, back tree path parent.0 list parent.1 k.2))
    (λ k. (no_scalars tree path parent.0 parent.1 k.0, back tree path parent.0 list parent.1 k.2))
    (valid.kinds path (label l) parent.0 here.0 parent.1 here.1)

-- lengths are left out by lists, and by what lets nothing stand
least_kind : (row : Row) (kind : RowKind) → IsRowKind row kind → LengthsFit row kind → (n : ℕ) → n < row.least → IsEmptySet row.value × (row.struct_ok ≡ false)
least_kind row kinds.Free k l n h = absurd (omega (arith, l.0, h))
least_kind row kinds.Scalar k l n h = absurd (omega (arith, l.0, h))
least_kind row kinds.Struct k l n h = absurd (omega (arith, l.0, h))
least_kind row kinds.List k l n h = (k.0, k.1)
least_kind row kinds.Nothing k l n h = (k.0, k.1)

none_most : (row : Row) (n : ℕ) → row.most ≡ None → RefusesLength row.most n → ⊥
none_most row n e h = let no : RefusesLength None n = subst (λ m. RefusesLength m n) e h in no

most_kind : (row : Row) (kind : RowKind) → IsRowKind row kind → LengthsFit row kind → (n : ℕ) → RefusesLength row.most n → IsEmptySet row.value × (row.struct_ok ≡ false)
most_kind row kinds.Free k l n h = absurd (none_most row n l.1 h)
most_kind row kinds.Scalar k l n h = absurd (none_most row n l.1 h)
most_kind row kinds.Struct k l n h = absurd (none_most row n l.1 h)
most_kind row kinds.List k l n h = (k.0, k.1)
most_kind row kinds.Nothing k l n h = (k.0, k.1)

of_least : (tree : Tree Row) → IsValidTable tree → (path : Path) → OfLengths (Told tree) path length_at_most
of_least tree valid path n h =
    let here = of_row (row_at tree path) (length_at_most n) h in
    let v = valid.rows path here.0 here.1 in
    let k = least_kind here.0 v.kind v.is_kind v.row_lengths n here.2 in
    (no_scalars tree path here.0 here.1 k.0, back tree path here.0 struct here.1 k.1)

of_most : (tree : Tree Row) → IsValidTable tree → (path : Path) → OfLengths (Told tree) path length_at_least
of_most tree valid path n h =
    let here = of_row (row_at tree path) (length_at_least n) h in
    let v = valid.rows path here.0 here.1 in
    let k = most_kind here.0 v.kind v.is_kind v.row_lengths n here.2 in
    (no_scalars tree path here.0 here.1 k.0, back tree path here.0 struct here.1 k.1)

falls_at : (row : Option Row) (n m : ℕ) → m ≤ n → RefusedAt row (length_at_most n) → RefusedAt row (length_at_most m)
falls_at None n m l h = h
falls_at (Some row) n m l h = let low : n < row.least = h in let more : m < row.least = omega arith in more

rises : (most : Option ℕ) (n m : ℕ) → n ≤ m → RefusesLength most n → RefusesLength most m
rises None n m l h = h
rises (Some most) n m l h = let high : most < n = h in let more : most < m = omega arith in more

rises_at : (row : Option Row) (n m : ℕ) → n ≤ m → RefusedAt row (length_at_least n) → RefusedAt row (length_at_least m)
rises_at None n m l h = h
rises_at (Some row) n m l h = rises row.most n m l h

pub placed : (tree : Tree Row) → IsValidTable tree → IsPlaced (Told tree)
placed tree valid path = (of_labels tree valid path, of_least tree valid path, of_most tree valid path, λ n m l h. falls_at (row_at tree path) n m l h, λ n m l h. rises_at (row_at tree path) n m l h)

-- the labels that are demanded are in UTF-8
abbrev pub IsWorded : Refusals → Type 0
IsWorded refuses = (path : Path) (l : List ℕ) → IsStepDemanded refuses path (label l) → IsUtf8 l

last_word : (path : Path) (l : List ℕ) → AllByRecursion IsWordStep (path ++ label l ∷ []) → IsWord l
last_word [] l h = h.0
last_word (x ∷ path) l h = last_word path l h.1

pub worded : (tree : Tree Row) → IsValidTable tree → IsWorded (Told tree)
worded tree valid path l h =
    let here = of_row (row_at tree (path_below path (label l))) (level_at_most 0) h in
    (last_word path l (valid.labels (path_below path (label l)) here.0 here.1)).utf8

-- ---- a scalar of a set that has one
record Standing (set : ScalarSet) : Type 0 where
  scalar : Scalar
  is : IsScalar scalar
  readable : IsReadable scalar
  stands : RefusesScalar set scalar → ⊥

pub ascii_then : (x : ℕ) (xs : List ℕ) → x < 128 → IsUtf8 xs → IsUtf8 (x ∷ xs)
ascii_then x xs small u = IsUtf8-append (x ∷ []) xs (subst IsUtf8 (encode_ascii x small) (IsUtf8-encode x (low_scalar x (omega arith)))) u

pub utf8_zeros : (n : ℕ) → IsUtf8 (zeros n)
utf8_zeros zero = IsUtf8-nil
utf8_zeros (suc n) = ascii_then 0 (zeros n) (omega arith) (utf8_zeros n)

member_text : (texts : Bool × List (List ℕ)) → AreWords texts.1 → (texts ≡ (false, []) → ⊥) → (t : List ℕ) × IsUtf8 t × (is_text_member texts t ≡ true)
member_text (false, []) w h = absurd (h refl)
member_text (false, t ∷ ts) w h = (t, w.0.utf8, first_is_listed t ts)
member_text (true, ts) w h =
    let n : ℕ = greatest_length ts + 1 in
    (zeros n, utf8_zeros n, ap not (is_listed-zeros ts n (omega arith)))

member_integer : (pieces : List (ℤ × ℤ)) → IsCanonical pieces → (pieces ≡ [] → ⊥) → (n : ℤ) × (is_member pieces n ≡ true)
member_integer [] a h = absurd (h refl)
member_integer (piece ∷ pieces) a h = (piece.0, (first_is_least least (piece ∷ pieces) piece a (omega arith)).member)

by_member : (set : ScalarSet) (scalar : Scalar) → IsScalarSet set → IsReadable scalar → members set scalar ≡ true → Standing set
by_member set scalar form readable m =
    let left = (member_is set scalar form).0 m in
    record { scalar = scalar; is = left.0; readable = readable; stands = left.1 }

some_standing : (set : ScalarSet) → IsScalarSet set → AreWords set.texts.1 → (is_empty_set set ≡ true → ⊥) → Standing set
some_standing set form words h = elim (cases_Bool set.null) [
  | inl e ↦ by_member set scalars.Null form tt e
  | inr a ↦ elim (cases_Bool set.no) [
    | inl e ↦ by_member set (scalars.Bool false) form tt e
    | inr b ↦ elim (cases_Bool set.yes) [
      | inl e ↦ by_member set (scalars.Bool true) form tt e
      | inr c ↦ numbers set.ints refl a b c
    ]
  ]
]
  where
    text : set.ints ≡ [] → set.null ≡ false → set.no ≡ false → set.yes ≡ false → Standing set
    text ints a b c =
        let found = member_text set.texts words (λ e. h (simp (a, b, c, ints, e))) in
        by_member set (scalars.Text found.0) form found.1 found.2

    numbers : (pieces : List (ℤ × ℤ)) → set.ints ≡ pieces → set.null ≡ false → set.no ≡ false → set.yes ≡ false → Standing set
    numbers [] e a b c = text e a b c
    numbers (piece ∷ pieces) e a b c =
        let found = member_integer set.ints form.ints (λ nil. let wrong : piece ∷ pieces ≡ [] = sym e ∙ nil in cc) in
        by_member set (scalars.Int found.0) form tt found.1

-- ---- trees of which all is known that a document needs
abbrev FitsRow : Option Row → Type 0
FitsRow None = Unit {0}
FitsRow (Some row) = IsValidRow row

-- what is seen of a branch, where there is one
abbrev pub RowsSeen : Option (Tree Row) → Path → Option Row
RowsSeen found path = option_and_then row_of (option_and_then (λ branch. branch_at branch path) found)

abbrev Seen : Option (Tree Row) → Refusals
Seen found path question = RefusedAt (RowsSeen found path) question

record IsWhole (tree : Tree Row) : Type 0 where
  form : IsTable RefusesAsked IsRow tree
  clear : IsClear (Told tree)
  words : IsWorded (Told tree)
  rows : (path : Path) → FitsRow (row_at tree path)

-- a branch is found at hand, or further on
split : (o : Ordering) (step next : paths.Step) (tree inner : Tree Row) (other : Option (Tree Row)) → step_cmp step next ≡ o → if_equal o tree other ≡ Some inner → ((step ≡ next) × (tree ≡ inner)) ⊎ (other ≡ Some inner)
split Less step next tree inner other e f = inr f
split Equal step next tree inner other e f = let same : tree ≡ inner = cc in inl (equal_steps step next e, same)
split Greater step next tree inner other e f = inr f

whole_below : (tree inner : Tree Row) (step : paths.Step) → step_into tree step ≡ Some inner → IsWhole tree → IsStepDemanded (Told tree) [] step → IsWhole inner
whole_below tree inner step f w d = record {
  form = form_into tree inner step w.form f;
  clear = let P : Option (Tree Row) → Type 0 = λ found. IsClear (Seen found) in subst P f (clear_below (Told tree) step w.clear d);
  words = let P : Option (Tree Row) → Type 0 = λ found. IsWorded (Seen found) in subst P f (λ path l h. w.words (step ∷ path) l h);
  rows = λ path. subst (λ found. FitsRow (RowsSeen found path)) f (w.rows (step ∷ path));
}

abbrev Doc : Refusals → Type 0
Doc = SomeMeets

-- a document of each branch that is demanded
abbrev EachHas : Tree Row → Type 0
EachHas tree = (step : paths.Step) (inner : Tree Row) → step_into tree step ≡ Some inner → IsWhole inner → Doc (Told inner)

below_has : (tree inner : Tree Row) (step : paths.Step) → EachHas tree → step_into tree step ≡ Some inner → IsWhole tree → IsStepDemanded (Told tree) [] step → Doc (refused_below (Told tree) step)
below_has tree inner step each f w d =
    let found = each step inner f (whole_below tree inner step f w d) in
    let P : Option (Tree Row) → Type 0 = λ found. Doc (Seen found) in
    subst P (sym f) found

-- ---- a struct
record Built (tree : Tree Row) (rest : Children Row) : Type 0 where
  members : Members
  are : AreMembers members
  meet : MembersMeet (Told tree) members
  has : (l : List ℕ) (inner : Tree Row) → find (label l) rest ≡ Some inner → is_demanded (row_of tree) (label l) (row_of inner) ≡ true → HasMember l members
  before : (k : List ℕ) → IsStepBelowAll (label k) rest → IsPathBefore k members

same_label : (l m : List ℕ) → label l ≡ label m → m ≡ l
same_label l m e = cc

members_of : (tree : Tree Row) → IsWhole tree → EachHas tree → (rest : Children Row) → AreBranches (IsRowKept RefusesAsked IsRow) rest → AreAmong tree rest → Built tree rest
members_of tree w each none b among = record {
  members = documents.no_members;
  are = tt;
  meet = tt;
  has = λ l inner f d. cc;
  before = λ k h. tt;
}
members_of tree w each (child (index n) here rest) b among =
    let more = members_of tree w each rest b.3 (λ step inner f. among step inner (found_later (index n) step here inner rest b.0 f)) in
    record { members = more.members; are = more.are; meet = more.meet; has = λ l inner f d. more.has l inner f d; before = λ k h. more.before k h.1 }
members_of tree w each (child (label m) here rest) b among =
    let more = members_of tree w each rest b.3 (λ step inner f. among step inner (found_later (label m) step here inner rest b.0 f)) in
    let found : step_into tree (label m) ≡ Some here = among (label m) here (found_first (label m) here rest) in
    elim (cases_Bool (is_demanded (row_of tree) (label m) (row_of here))) [
      | inl e ↦
          let demanded : IsStepDemanded (Told tree) [] (label m) = (first_demanded tree here (label m) (seen tree here (label m) found)).0 e in
          let doc = below_has tree here (label m) each found w demanded in
          record {
            members = documents.member m doc.0 more.members;
            are = (w.words [] m demanded, more.before m b.0, doc.1, more.are);
            meet = ((clear_here (Told tree) w.clear).1 m demanded, doc.2, more.meet);
            has = λ l inner f d. ⊎_elim (λ s. inl (same_label l m s.0)) (λ g. inr (more.has l inner g d))
                (split (step_cmp (label l) (label m)) (label l) (label m) here inner (find (label l) rest) refl f);
            before = λ k h. h.0;
          }
      | inr e ↦ record {
        members = more.members;
        are = more.are;
        meet = more.meet;
        has = λ l inner f d. ⊎_elim (λ s. absurd (false≢true (sym e ∙ ap (λ t. is_demanded (row_of tree) (label m) (row_of t)) s.1 ∙ d))) (λ g. more.has l inner g d)
            (split (step_cmp (label l) (label m)) (label l) (label m) here inner (find (label l) rest) refl f);
        before = λ k h. more.before k h.1;
      }
    ]

of_struct : (tree : Tree Row) → IsWhole tree → EachHas tree → (¬ Told tree [] struct) → Doc (Told tree)
of_struct tree w each s =
    let built = members_of tree w each (below tree) (branches tree w.form) (λ step inner f. own tree inner step w.form f) in
    (documents.map built.members, built.are, (s, complete built, built.meet))
  where
    complete : (built : Built tree (below tree)) (l : List ℕ) → Told tree (label l ∷ []) (level_at_most 0) → HasMember l built.members
    complete built l h = ⊎_elim
        (λ f. absurd (open_below tree (label l) [] (level_at_most 0) f h))
        (λ f. built.has l f.0 (sym (at_label tree l) ∙ f.1) ((first_demanded tree f.0 (label l) (seen tree f.0 (label l) f.1)).1 h))
        (found_cases (step_into tree (label l)))

-- ---- a list
record Listed (count : ℕ) (refuses : ℕ → Refusals) : Type 0 where
  items : Items
  are : AreItems items
  length : length_of items ≡ count
  meet : ItemsMeet refuses items

items_of : (count : ℕ) (refuses : ℕ → Refusals) → ((i : ℕ) → i < count → Doc (refuses i)) → Listed count refuses
items_of zero refuses h = record { items = documents.no_items; are = tt; length = refl; meet = tt }
items_of (suc count) refuses h =
    let here = h 0 (omega arith) in
    let more = items_of count (λ i. refuses (suc i)) (λ i l. h (suc i) (omega (arith, l))) in
    let e : length_of more.items ≡ count = more.length in
    record {
      items = documents.item here.0 more.items;
      are = (here.1, more.are);
      length = omega (arith, e);
      meet = (here.2, more.meet);
    }

one_item : (tree : Tree Row) → IsWhole tree → EachHas tree → (i : ℕ) → IsStepDemanded (Told tree) [] (index i) → Doc (at_index (Told tree) i)
one_item tree w each i d = ⊎_elim
    (λ f. (documents.scalar scalars.Null, (tt, tt), λ r. open_below tree (index i) [] (may_be scalars.Null) f r))
    (λ f. below_has tree f.0 (index i) each f.1 w d)
    (found_cases (step_into tree (index i)))

of_list : (row : Row) (children : Children Row) (rest : Rest Row) → IsWhole (node (Some row) children rest) → EachHas (node (Some row) children rest) → row.list_ok ≡ true → Doc (Told (node (Some row) children rest))
of_list row children rest w each l =
    let tree : Tree Row = node (Some row) children rest in
    let built = items_of row.least (at_index (Told tree)) (λ i h. one_item tree w each i h) in
    let e : length_of built.items ≡ row.least = built.length in
    let may : (row.list_ok ≡ false → ⊥) = λ r. false≢true (sym r ∙ l) in (
      documents.list built.items,
      built.are,
      (
        may,
        λ h. let low : length_of built.items < row.least = h in let no : ⊥ = omega arith in no,
        λ h. (clear_here (Told tree) w.clear).0 (inr (
          may,
          λ n. elim (cases_lt n row.least) [
            | inl low ↦ inl low
            | inr high ↦ inr (rises row.most (length_of built.items) n (omega (arith, e, high)) h)
          ],
        )),
        built.meet,
      ),
    )

-- ---- each kind
of_kind : (row : Row) (children : Children Row) (rest : Rest Row) (kind : RowKind) → IsRowKind row kind → IsValidRow row → IsWhole (node (Some row) children rest) → EachHas (node (Some row) children rest) → Doc (Told (node (Some row) children rest))
of_kind row children rest kinds.Free k v w each = (documents.scalar scalars.Null, (tt, tt), k.0 scalars.Null)
of_kind row children rest kinds.Scalar k v w each =
    let found = some_standing row.value w.form.0.0.value v.texts.value (λ e. k.0 (empty_members row.value e)) in
    (documents.scalar found.scalar, (found.is, found.readable), found.stands)
of_kind row children rest kinds.Struct k v w each = of_struct (node (Some row) children rest) w each (λ r. false≢true (sym r ∙ k.1))
of_kind row children rest kinds.List k v w each = of_list row children rest w each k.2
of_kind row children rest kinds.Nothing k v w each =
    let tree : Tree Row = node (Some row) children rest in
    absurd ((clear_here (Told tree) w.clear).0 (inl (no_scalars tree [] row refl k.0, k.1, k.2)))

mutual
  build : (tree : Tree Row) → IsWhole tree → Doc (Told tree)
  build (node None children rest) w = (documents.scalar scalars.Null, (tt, tt), λ r. r)
  build (node (Some row) children rest) w =
      let v : IsValidRow row = w.rows [] in
      of_kind row children rest v.kind v.is_kind v w (λ step inner f whole. into_cases (node (Some row) children rest) inner step (Doc (Told inner)) f
      (λ g. each children step inner g whole) (λ n i is e l. in_rest rest n inner e whole))

  in_rest : (rest : Rest Row) (n : ℕ) (inner : Tree Row) → rest ≡ onward n inner → IsWhole inner → Doc (Told inner)
  in_rest no_rest n inner e w = cc
  in_rest (onward m tree) n inner e w = let same : tree ≡ inner = cc in subst (λ t. Doc (Told t)) same (build tree (subst IsWhole (sym same) w))

  each : (children : Children Row) (step : paths.Step) (inner : Tree Row) → find step children ≡ Some inner → IsWhole inner → Doc (Told inner)
  each none step inner f w = cc
  each (child next tree children) step inner f w =
      ⊎_elim (λ e. subst (λ t. Doc (Told t)) e.1 (build tree (subst IsWhole (sym e.1) w))) (λ g. each children step inner g w)
      (split (step_cmp step next) step next tree inner (find step children) refl f)

rows_fit : (tree : Tree Row) → IsValidTable tree → (path : Path) (row : Option Row) → row_at tree path ≡ row → FitsRow row
rows_fit tree valid path None e = tt
rows_fit tree valid path (Some row) e = valid.rows path row e

-- Without conflicts there is a document that meets the table,
pub exists : (tree : Tree Row) → IsValidTable tree → AreConflicts (Told tree) [] → SomeMeets (Told tree)
exists tree valid free = build tree (record {
  form = valid.form;
  clear = clear_from (Told tree) free;
  words = worded tree valid;
  rows = λ path. rows_fit tree valid path (row_at tree path) refl;
})

-- and where there is one, there are no conflicts.
pub free_of_conflicts : (tree : Tree Row) → IsValidTable tree → SomeMeets (Told tree) → AreConflicts (Told tree) []
free_of_conflicts tree valid (d, is, met) = no_conflicts d (Told tree) is (placed tree valid) met
