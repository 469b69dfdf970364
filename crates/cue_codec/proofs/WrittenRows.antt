-- The bytes of the rows of a branch, written by a walk.
use Rattle.std.proofs.Common.{◌≡◌, ℕ, ◌+◌, ◌*◌, ◌^◌, ◌<◌, ◌≤◌, zero, suc, List, [], ◌∷◌, ◌++◌, append_assoc, length, map, Option, Some, None, refl, sym, ap, subst, ◌∙◌, arith}
use Rattle.std.specs.List.{flat_map, AllByRecursion}
use Rattle.std.proofs.lemmas.List.{append-nil, length-append, length-map}
use Rattle.std.proofs.lemmas.List.Concat.{flat_map-append, flat_map-cons}
use Rattle.cue_lattice.specs.Path.{Step, label, index}
use Rattle.cue_row.specs.declared.parts.RowParts.{RowParts as Row}
use Rattle.cue_row.specs.Levels.{level_of}
use Rattle.cue_row.specs.ValidRow.{IsWord, IsWordStep, AreLabelWords, AreLengths, IsValidRow}
use Rattle.cue_table.specs.Spans.{Span, field, elements, alike_elements, branches_of_span, branches_of_spans}
use Rattle.cue_table.specs.Tree.{Tree, node, Children, child, row_of, below, rest_below, rest_at, fixed_of, children_of}
use Rattle.cue_table.specs.Inner.ValidWalk.{IsSound, AreSound, HasChild}
use Rattle.cue_table.specs.Inner.Walks.{first_child}
use Rattle.cue_table.proofs.ValidWalks.{sound_parts, rest_sound}
use Rattle.cue_codec.specs.Entry.{StateStep, at, to_rest, Entry, one_step_below, entries_of, entries_below, entries_onward}
use Rattle.cue_codec.specs.Inner.Spans.{branch_count}
use Rattle.cue_codec.specs.Parts.{step_bytes}
use Rattle.cue_codec.specs.Reading.{IsShort, IsShortStep, AreShortLabels}
use Rattle.cue_codec.specs.RowBytes.{row_part_bytes, parts_of_row, row_bytes_from, IsShortRow}
use Rattle.cue_codec.specs.Version.{written_version}
use Rattle.cue_codec.proofs.Entries.{others_of, own_entry, entries_begin, entries_begin_below, entries_more, entries_end, entries_rest, entries_no_rest}

-- ---- how many rows

pub count_begin : (tree : Tree Row) (row : Row) → row_of tree ≡ Some row → length (entries_of written_version tree) ≡ 1 + length (others_of written_version tree)
count_begin tree row e = omega (arith, ap length (entries_begin written_version tree row e))

pub count_below : (tree : Tree Row) → row_of tree ≡ None → length (entries_of written_version tree) ≡ length (others_of written_version tree)
count_below tree e = ap length (entries_begin_below written_version tree e)

count_child : (step : Step) (tree : Tree Row) (children : Children Row) → length (entries_below written_version (child step tree children)) ≡ length (entries_of written_version tree) + length (entries_below written_version children)
count_child step tree children =
    length-append (map (one_step_below (at step)) (entries_of written_version tree)) (entries_below written_version children)
    ∙ ap (λ n. n + length (entries_below written_version children)) (length-map (entries_of written_version tree) (one_step_below (at step)))

count_alike : (i more : ℕ) (tree : Tree Row) (others : Children Row) → length (entries_below written_version (alike_elements i more tree others)) ≡ (more + 1) * length (entries_of written_version tree) + length (entries_below written_version others)
count_alike i zero tree others = omega (arith, count_child (index i) tree others)
count_alike i (suc more) tree others = omega (arith, count_child (index i) tree (alike_elements (suc i) more tree others), count_alike (suc i) more tree others)

count_spanned : (span : Span) (tree : Tree Row) (others : Children Row) → length (entries_below written_version (branches_of_span span tree others)) ≡ branch_count span * length (entries_of written_version tree) + length (entries_below written_version others)
count_spanned (field text) tree others = omega (arith, count_child (label text) tree others)
count_spanned (elements i more) tree others = count_alike i more tree others

-- branches that are kept as one have as many rows each
pub count_more :
    (span : Span) (tree : Tree Row) (rest left : List (Span × Tree Row)) (more : List Entry) → rest ≡ (span, tree) ∷ left
    → length (entries_below written_version (branches_of_spans rest) ++ more) ≡ branch_count span * length (entries_of written_version tree) + length (entries_below written_version (branches_of_spans left) ++ more)
count_more span tree rest left more e =
    omega (arith, ap (λ spans. length (entries_below written_version (branches_of_spans spans))) e, count_spanned span tree (branches_of_spans left), length-append (entries_below written_version (branches_of_spans rest)) more, length-append (entries_below written_version (branches_of_spans left)) more)

-- where no span is left, no branch is
pub no_branch : (rest : List (Span × Tree Row)) → rest ≡ [] → children_of (branches_of_spans rest) ≡ []
no_branch rest e = ap (λ spans. children_of (branches_of_spans spans)) e

-- the branches that a span stands for have no fewer rows than one of them
pub rows_least : (span : Span) (n : ℕ) → n ≤ branch_count span * n
rows_least (field text) n = omega arith
rows_least (elements first more) n = some_times more n
  where
    some_times : (more n : ℕ) → n ≤ (more + 1) * n
    some_times zero n = omega arith
    some_times (suc more) n = let fewer = some_times more n in omega (arith, fewer)

-- ---- their bytes

-- a row behind a step is a row from one step further
row_behind : (depth : ℕ) (steps : List ℕ) (step : StateStep) (row : Entry) → row_bytes_from written_version depth steps (one_step_below step row) ≡ row_bytes_from written_version (depth + 1) (steps ++ step_bytes written_version step) row
unfolding row_bytes_from
row_behind depth steps step row =
    let said : List ℕ = level_of row.row.level ∷ row_part_bytes written_version (parts_of_row row.row row.fixed) in
    let count : depth + length (step ∷ row.path) ≡ depth + 1 + length row.path = omega arith in
    let path : steps ++ (flat_map (step_bytes written_version) (step ∷ row.path) ++ said) ≡ (steps ++ step_bytes written_version step) ++ (flat_map (step_bytes written_version) row.path ++ said) =
    ap (λ t. steps ++ (t ++ said)) (flat_map-cons (step_bytes written_version) step row.path)
    ∙ ap (λ t. steps ++ t) (append_assoc (step_bytes written_version step) (flat_map (step_bytes written_version) row.path) said)
    ∙ sym (append_assoc steps (step_bytes written_version step) (flat_map (step_bytes written_version) row.path ++ said)) in
    λ i. count i ∷ path i

pub rows_behind : (depth : ℕ) (steps : List ℕ) (step : StateStep) (rows : List Entry) → flat_map (row_bytes_from written_version depth steps) (map (one_step_below step) rows) ≡ flat_map (row_bytes_from written_version (depth + 1) (steps ++ step_bytes written_version step)) rows
rows_behind depth steps step [] = refl
rows_behind depth steps step (row ∷ rows) =
    flat_map-cons (row_bytes_from written_version depth steps) (one_step_below step row) (map (one_step_below step) rows)
    ∙ ap (λ t. t ++ flat_map (row_bytes_from written_version depth steps) (map (one_step_below step) rows)) (row_behind depth steps step row)
    ∙ ap (λ t. row_bytes_from written_version (depth + 1) (steps ++ step_bytes written_version step) row ++ t) (rows_behind depth steps step rows)
    ∙ sym (flat_map-cons (row_bytes_from written_version (depth + 1) (steps ++ step_bytes written_version step)) row rows)

pub bytes_begin :
    (depth : ℕ) (steps : List ℕ) (tree : Tree Row) (row : Row) (old new : List ℕ) → row_of tree ≡ Some row → new ≡ old ++ row_bytes_from written_version depth steps (own_entry written_version tree row)
    → new ++ flat_map (row_bytes_from written_version depth steps) (others_of written_version tree) ≡ old ++ flat_map (row_bytes_from written_version depth steps) (entries_of written_version tree)
bytes_begin depth steps tree row old new e h =
    let f : Entry → List ℕ = row_bytes_from written_version depth steps in
    ap (λ t. t ++ flat_map f (others_of written_version tree)) h
    ∙ append_assoc old (f (own_entry written_version tree row)) (flat_map f (others_of written_version tree))
    ∙ ap (λ t. old ++ t) (sym (flat_map-cons f (own_entry written_version tree row) (others_of written_version tree)) ∙ ap (flat_map f) (sym (entries_begin written_version tree row e)))

pub bytes_begin_below : (depth : ℕ) (steps : List ℕ) (tree : Tree Row) (old : List ℕ) → row_of tree ≡ None → old ++ flat_map (row_bytes_from written_version depth steps) (others_of written_version tree) ≡ old ++ flat_map (row_bytes_from written_version depth steps) (entries_of written_version tree)
bytes_begin_below depth steps tree old e = ap (λ rows. old ++ flat_map (row_bytes_from written_version depth steps) rows) (sym (entries_begin_below written_version tree e))

bytes_behind :
    (depth : ℕ) (steps : List ℕ) (step : StateStep) (rows more all : List Entry) (now next : List ℕ) → all ≡ map (one_step_below step) rows ++ more
    → next ≡ now ++ flat_map (row_bytes_from written_version (depth + 1) (steps ++ step_bytes written_version step)) rows
    → next ++ flat_map (row_bytes_from written_version depth steps) more ≡ now ++ flat_map (row_bytes_from written_version depth steps) all
bytes_behind depth steps step rows more all now next e h =
    let f : Entry → List ℕ = row_bytes_from written_version depth steps in
    ap (λ t. t ++ flat_map f more) (h ∙ ap (λ t. now ++ t) (sym (rows_behind depth steps step rows)))
    ∙ append_assoc now (flat_map f (map (one_step_below step) rows)) (flat_map f more)
    ∙ ap (λ t. now ++ t) (sym (flat_map-append f (map (one_step_below step) rows) more) ∙ ap (flat_map f) (sym e))

pub bytes_more :
    (depth : ℕ) (steps : List ℕ) (step : Step) (tree : Tree Row) (rest left : Children Row) (more : List Entry) (now next all : List ℕ) → children_of rest ≡ (step, tree) ∷ children_of left
    → next ≡ now ++ flat_map (row_bytes_from written_version (depth + 1) (steps ++ step_bytes written_version (at step))) (entries_of written_version tree)
    → now ++ flat_map (row_bytes_from written_version depth steps) (entries_below written_version rest ++ more) ≡ all
    → next ++ flat_map (row_bytes_from written_version depth steps) (entries_below written_version left ++ more) ≡ all
bytes_more depth steps step tree rest left more now next all e h k =
    bytes_behind depth steps (at step) (entries_of written_version tree) (entries_below written_version left ++ more) (entries_below written_version rest ++ more) now next (entries_more written_version step tree rest left more e) h ∙ k

pub bytes_rest :
    (depth : ℕ) (steps : List ℕ) (tree branch : Tree Row) (left : Children Row) (now next all : List ℕ) → children_of left ≡ [] → rest_at (rest_below tree) ≡ Some branch
    → next ≡ now ++ flat_map (row_bytes_from written_version (depth + 1) (steps ++ step_bytes written_version to_rest)) (entries_of written_version branch)
    → now ++ flat_map (row_bytes_from written_version depth steps) (entries_below written_version left ++ entries_onward written_version (rest_below tree)) ≡ all
    → next ≡ all
bytes_rest depth steps tree branch left now next all e r h k =
    let more = entries_end written_version left (entries_onward written_version (rest_below tree)) e ∙ entries_rest written_version tree branch r ∙ sym (append-nil (map (one_step_below to_rest) (entries_of written_version branch))) in
    sym (append-nil next)
    ∙ bytes_behind depth steps to_rest (entries_of written_version branch) [] (entries_below written_version left ++ entries_onward written_version (rest_below tree)) now next more h
    ∙ k

pub bytes_no_rest :
    (depth : ℕ) (steps : List ℕ) (tree : Tree Row) (left : Children Row) (now all : List ℕ) → children_of left ≡ [] → rest_at (rest_below tree) ≡ None
    → now ++ flat_map (row_bytes_from written_version depth steps) (entries_below written_version left ++ entries_onward written_version (rest_below tree)) ≡ all → now ≡ all
bytes_no_rest depth steps tree left now all e r k =
    let none = entries_end written_version left (entries_onward written_version (rest_below tree)) e ∙ entries_no_rest written_version tree r in
    sym (append-nil now) ∙ ap (λ rows. now ++ flat_map (row_bytes_from written_version depth steps) rows) (sym none) ∙ k

-- ---- what is written is not too long

short_words : (texts : List (List ℕ)) → AllByRecursion IsWord texts → AllByRecursion IsShort texts
short_words [] h = tt
short_words (text ∷ texts) h = (let s = h.0.short in omega (arith, s), short_words texts h.1)

pub word_step : (step : Step) → IsWordStep step → IsShortStep step
word_step (label text) h = let s = h.short in omega (arith, s)
word_step (index n) h = tt

pub valid_short : (row : Row) → IsValidRow row → IsShortRow row
valid_short row h = record {
  labels = short_labels row.labels h.texts.labels;
  value = short_words row.value.texts.1 h.texts.value;
  usual = short_words row.usual.texts.1 h.texts.usual;
} where
  short_labels : (labels : Option (List (List ℕ))) → AreLabelWords labels → AreShortLabels labels
  short_labels None k = tt
  short_labels (Some labels) k = short_words labels k

pub child_word : (parent : Row) (step : Step) (row : Option Row) → HasChild parent step row → IsWordStep step
child_word parent step None h = absurd h
child_word parent step (Some row) h = h.word

-- what stands first of the branches that are left
pub sound_next : (parent : Row) (step : Step) (tree : Tree Row) (rest left : Children Row) → children_of rest ≡ (step, tree) ∷ children_of left → AreSound parent rest → IsShortStep step × IsSound tree × AreSound parent left
sound_next parent step tree rest left e h =
    let now = subst (AreSound parent) (first_child rest left step tree e) h in (word_step step (child_word parent step (row_of tree) now.0), now.1, now.2)

pub sound_parent : (tree : Tree Row) → IsSound tree → (row : Row) × (row_of tree ≡ Some row) × AreSound row (below tree)
sound_parent (node None children rest) h = absurd h
sound_parent (node (Some row) children rest) h = (row, refl, h.2)

-- the rest of a table that is right
pub sound_onward : (tree branch : Tree Row) → rest_at (rest_below tree) ≡ Some branch → IsSound tree → IsSound branch
sound_onward tree branch e h =
    let parent = sound_parent tree h in
    ((rest_sound parent.0 tree branch e).1 (sound_parts tree parent.0 parent.1 h).rest).1

pub few_lengths : (least : ℕ) (most : Option ℕ) → AreLengths least most → least < 2 ^ 32
few_lengths least None h = omega (arith, h)
few_lengths least (Some most) h = let a = h.0 in omega (arith, a)

-- the index from which on the elements are alike is not too long to be written
pub sound_fixed : (tree : Tree Row) (row : Row) → row_of tree ≡ Some row → IsSound tree → fixed_of tree < 2 ^ 32
sound_fixed tree row e h =
    let whole = sound_parts tree row e h in
    omega (arith, whole.fixed, few_lengths row.least row.most whole.valid.limits)
