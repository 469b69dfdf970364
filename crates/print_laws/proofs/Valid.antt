-- What a valid table is printed as can be printed.
use Rattle.std.proofs.Common.{◌≡◌, ℕ, zero, suc, ◌+◌, ℤ, pos, ◌+ℤ◌, ◌≤ℤ◌, ◌&&◌, ◌||◌, ◌==◌, Bool, true, false, not, List, [], ◌∷◌, ◌++◌, map, filter, cond, Option, None, Some, is_some, refl, ap, subst, ◌∙◌, arith, nat_lt, if◌then◌else◌, Ordering, Less, Equal, Greater}
use Rattle.std.specs.Ordering.{int_eq}
use Rattle.std.specs.Str.{bytes_eq}
use Rattle.std.specs.List.{AllByRecursion}
use Rattle.std.proofs.lemmas.Int.{ints}
use Rattle.cue_lattice.specs.Path.{Step, label, index, step_cmp, Path}
use Rattle.cue_lattice.specs.Scalar.{IsInteger}
use Rattle.cue_lattice.specs.Word.{IsWord}
use Rattle.cue_sets.specs.Pieces.{least, greatest, AscendsFrom}
use Rattle.cue_sets.specs.Texts.{text_cmp, is_listed}
use Rattle.cue_scalars.specs.Scalars.{IsScalarSet}
use Rattle.cue_scalars.specs.declared.scalar_set.ScalarSet.{ScalarSet}
use Rattle.cue_row.specs.declared.parts.RowParts.{RowParts as Row}
use Rattle.cue_row.specs.Row.{RefusesAsked, IsRow}
use Rattle.cue_row.specs.ValidRow.{AreWords, AreLabelWords, HasWords, IsWordStep}
use Rattle.cue_table.specs.Tree.{Tree, node, Children, none, child, Rest, no_rest, onward, find, row_at}
use Rattle.cue_table.specs.Form.{IsStepBelowAll, IsTreeTaken, IsTree, AreBranches, IsRestOf, IsRowKept}
use Rattle.cue_table.specs.Valid.{IsValidTable}
use Rattle.cue_table.proofs.Depth.{found_row, found_later, taken_row}
use Rattle.cue_table.proofs.Branches.{find_first, find_own, find_rest}
use Rattle.cue_print.specs.Difference.{inserted_at, insert_text, all_inserted, texts_without, scalars_without}
use Rattle.cue_print.specs.Expressions.{PrintedTerm, integers, number, at_most, at_least, between, text}
use Rattle.cue_print.specs.Expressions.{Value, top, Parts, no_parts, list, bottom, Fields, no_more, field, ends}
use Rattle.cue_print.specs.Printed.{field_in_front, fields_of_labels, fields_of_others, struct_if_any, struct_part, elements_from, elements, dots, list_part, scalar_value, has_field, list_left, nothing_value, scalar_or_nothing, value_by, row_value, value_of, fields_below, element_below, element_at, rest_value, file_of}
use Rattle.cue_print.specs.Terms.{null_terms, truth_terms, piece_term, text_terms, terms_of}
use Rattle.cue_print.proofs.Left.{left_set}
use Rattle.print_laws.specs.Inner.Printable.{IsPrintableTerm, ArePrintableTerms, HasPart, IsPrintable, ArePrintableParts, ArePrintableFields, ArePrintableElements, IsPrintableEnding}

-- ---- words
cond_words : (t : List ℕ) (ts : List (List ℕ)) (kept : Bool) → IsWord t → AreWords ts → AreWords (cond kept (t ∷ ts) ts)
cond_words t ts true word words = (word, words)
cond_words t ts false word words = words

kept_words : (keep : List ℕ → Bool) (ts : List (List ℕ)) → AreWords ts → AreWords (filter keep ts)
kept_words keep [] words = tt
kept_words keep (t ∷ ts) words = cond_words t (filter keep ts) (keep t) words.0 (kept_words keep ts words.1)

inserted_here : (o : Ordering) (t first : List ℕ) (others later : List (List ℕ)) → IsWord t → IsWord first → AreWords others → AreWords later → AreWords (inserted_at o t first others later)
inserted_here Less t first others later word here words more = (word, (here, words))
inserted_here Equal t first others later word here words more = (here, words)
inserted_here Greater t first others later word here words more = (here, more)

inserted_words : (t : List ℕ) (ts : List (List ℕ)) → IsWord t → AreWords ts → AreWords (insert_text t ts)
inserted_words t [] word words = (word, tt)
inserted_words t (first ∷ others) word words = inserted_here (text_cmp t first) t first others (insert_text t others) word words.0 words.1 (inserted_words t others word words.1)

all_words : (ts us : List (List ℕ)) → AreWords ts → AreWords us → AreWords (all_inserted ts us)
all_words [] us words others = others
all_words (t ∷ ts) us words others = inserted_words t (all_inserted ts us) words.0 (all_words ts us words.1 others)

left_words : (a : Bool) (ts : List (List ℕ)) (b : Bool) (us : List (List ℕ)) → AreWords ts → AreWords us → AreWords (texts_without (a, ts) (b, us)).1
left_words false ts b us words others = kept_words _ ts words
left_words true ts true us words others = kept_words _ us others
left_words true ts false us words others = all_words us ts others words

-- ---- terms
both_printable : (xs ys : List PrintedTerm) → ArePrintableTerms xs → ArePrintableTerms ys → ArePrintableTerms (xs ++ ys)
both_printable [] ys first second = second
both_printable (x ∷ xs) ys first second = (first.0, both_printable xs ys first.1 second)

null_printable : (is : Bool) → ArePrintableTerms (null_terms is)
null_printable false = tt
null_printable true = (tt, tt)

truths_printable : (lacks has : Bool) → ArePrintableTerms (truth_terms lacks has)
truths_printable false false = tt
truths_printable true false = (tt, tt)
truths_printable false true = (tt, tt)
truths_printable true true = (tt, tt)

piece_by : (a b : ℤ) (whole one low high : Bool) → IsInteger a → IsInteger b → IsPrintableTerm (if whole then integers else (if one then number a else (if low then at_most b else (if high then at_least a else between a b))))
piece_by a b true one low high first last = tt
piece_by a b false true low high first last = first
piece_by a b false false true high first last = last
piece_by a b false false false true first last = first
piece_by a b false false false false first last = (first, last)

piece_printable : (piece : ℤ × ℤ) → IsInteger piece.0 → IsInteger piece.1 → IsPrintableTerm (piece_term piece)
piece_printable piece first last = piece_by piece.0 piece.1 (int_eq piece.0 least && int_eq piece.1 greatest) (int_eq piece.0 piece.1) (int_eq piece.0 least) (int_eq piece.1 greatest) first last

pieces_printable : (start : ℤ) (pieces : List (ℤ × ℤ)) → least ≤ℤ start → AscendsFrom start pieces → ArePrintableTerms (map piece_term pieces)
pieces_printable start [] from ascends = tt
pieces_printable start (piece ∷ pieces) from ascends =
    let a : least ≤ℤ start = from in
    let b : start ≤ℤ piece.0 = ascends.0 in
    let c : piece.0 ≤ℤ piece.1 = ascends.1 in
    let d : piece.1 ≤ℤ greatest = ascends.2 in
    let first : IsInteger piece.0 = (omega (arith, ints), omega (arith, ints)) in
    let last : IsInteger piece.1 = (omega (arith, ints), omega (arith, ints)) in
    (piece_printable piece first last, pieces_printable (piece.1 +ℤ pos 2) pieces (omega (arith, ints)) ascends.3)

each_text : (ts : List (List ℕ)) → AreWords ts → ArePrintableTerms (map text ts)
each_text [] words = tt
each_text (t ∷ ts) words = (words.0, each_text ts words.1)

texts_printable : (all_but : Bool) (ts : List (List ℕ)) → AreWords ts → ArePrintableTerms (text_terms (all_but, ts))
texts_printable false ts words = each_text ts words
texts_printable true [] words = (tt, tt)
texts_printable true (t ∷ ts) words = (words, tt)

-- the terms of a set of words and of integers of 64 bits
set_printable : (set : ScalarSet) → IsScalarSet set → AreWords set.texts.1 → ArePrintableTerms (terms_of set)
unfolding terms_of
set_printable set is words =
    both_printable (null_terms set.null) _ (null_printable set.null)
    (both_printable (truth_terms set.no set.yes) _ (truths_printable set.no set.yes)
    (both_printable (map piece_term set.ints) _ (pieces_printable least set.ints (omega (arith, ints)) is.ints) (texts_printable set.texts.0 set.texts.1 words)))

-- ---- structs
declared_by : (l name : List ℕ) (same : Bool) (here other : Fields) → ArePrintableFields here → ArePrintableFields other → ArePrintableFields (if same then here else other)
declared_by l name true here other first second = first
declared_by l name false here other first second = second

declared_printable : (l : List ℕ) (fields others : Fields) → IsWord l → ArePrintableFields fields → ArePrintableFields others → ArePrintableFields (field_in_front l fields others)
declared_printable l no_more others word are more = (word, tt, more)
declared_printable l (field name level value fields) others word are more =
    declared_by l name (bytes_eq name l) (field l level value others) (field_in_front l fields others) (word, are.1, more) (declared_printable l fields others word are.2 more)

inside_printable : (labels : List (List ℕ)) (fields : Fields) → AreWords labels → ArePrintableFields fields → ArePrintableFields (fields_of_labels labels fields)
inside_printable [] fields words are = tt
inside_printable (l ∷ labels) fields words are = declared_printable l fields (fields_of_labels labels fields) words.0 are (inside_printable labels fields words.1 are)

outside_printable : (labels : List (List ℕ)) (fields : Fields) → ArePrintableFields fields → ArePrintableFields (fields_of_others labels fields)
outside_printable labels no_more are = tt
outside_printable labels (field name level value fields) are =
    let others = outside_printable labels fields are.2 in
    declared_by name name (is_listed labels name) (fields_of_others labels fields) (field name level value (fields_of_others labels fields)) others (are.0, are.1, others)

any_printable : (fields : Fields) (parts : Parts) → ArePrintableFields fields → ArePrintableParts parts → ArePrintableParts (struct_if_any fields parts)
any_printable no_more parts are more = more
any_printable (field name level value fields) parts are more = (are, more)

struct_printable : (labels : Option (List (List ℕ))) (fields : Fields) (parts : Parts) → AreLabelWords labels → ArePrintableFields fields → ArePrintableParts parts → ArePrintableParts (struct_part labels fields parts)
struct_printable None fields parts words are more = (are, more)
struct_printable (Some labels) fields parts words are more = (inside_printable labels fields words are, any_printable (fields_of_others labels fields) parts (outside_printable labels fields are) more)

struct_some : (labels : Option (List (List ℕ))) (fields : Fields) (parts : Parts) → HasPart (struct_part labels fields parts)
struct_some None fields parts = tt
struct_some (Some labels) fields parts = tt

-- ---- lists
elements_printable : (first count : ℕ) (value_at : ℕ → Value) → ((n : ℕ) → IsPrintable (value_at n)) → ArePrintableElements (elements_from first count value_at)
elements_printable first zero value_at are = tt
elements_printable first (suc count) value_at are = (are first, elements_printable (first + 1) count value_at are)

-- one list, or two of which the second has the greatest length
abbrev lists_by : Bool → ℕ → ℕ → (ℕ → Value) → Option Value → Parts → Parts
lists_by one least most value_at further parts =
    if one then list (elements least value_at) ends parts else list (elements least value_at) (dots further) (list (elements most (λ n. top)) ends parts)

list_by : (one : Bool) (least most : ℕ) (value_at : ℕ → Value) (further : Option Value) (parts : Parts) → ((n : ℕ) → IsPrintable (value_at n)) → IsPrintableEnding (dots further) → ArePrintableParts parts
    → ArePrintableParts (lists_by one least most value_at further parts)
list_by true least most value_at further parts are last more = (elements_printable 0 least value_at are, tt, more)
list_by false least most value_at further parts are last more = (elements_printable 0 least value_at are, last, (elements_printable 0 most (λ n. top) (λ n. tt), tt, more))

list_printable : (least : ℕ) (most : Option ℕ) (value_at : ℕ → Value) (further : Option Value) (parts : Parts) → ((n : ℕ) → IsPrintable (value_at n)) → IsPrintableEnding (dots further) → ArePrintableParts parts
    → ArePrintableParts (list_part least most value_at further parts)
list_printable least None value_at further parts are last more = (elements_printable 0 least value_at are, last, more)
list_printable least (Some most) value_at further parts are last more = list_by (least == most && not (is_some further)) least most value_at further parts are last more

list_some_by : (one : Bool) (least most : ℕ) (value_at : ℕ → Value) (further : Option Value) (parts : Parts) → HasPart (lists_by one least most value_at further parts)
list_some_by true _ _ _ _ _ = tt
list_some_by false _ _ _ _ _ = tt

list_some : (least : ℕ) (most : Option ℕ) (value_at : ℕ → Value) (further : Option Value) (parts : Parts) → HasPart (list_part least most value_at further parts)
list_some _ None _ _ _ = tt
list_some least (Some most) value_at further parts = list_some_by (least == most && not (is_some further)) least most value_at further parts

-- ---- places
part_by : (there : Bool) (here other : Parts) → ArePrintableParts here → ArePrintableParts other → ArePrintableParts (if there then here else other)
part_by true here other first second = first
part_by false here other first second = second

some_by : (there : Bool) (here other : Parts) → HasPart here → HasPart other → HasPart (if there then here else other)
some_by true here other first second = first
some_by false here other first second = second

-- what is known of a row and of what stands below it
record IsPlace (row : Row) (fields : Fields) (value_at : ℕ → Value) (further : Option Value) : Type 0 where
  pub is : IsRow row
  pub words : HasWords row
  pub below : ArePrintableFields fields
  pub values : (n : ℕ) → IsPrintable (value_at n)
  pub ending : IsPrintableEnding (dots further)

nothing_printable : (row : Row) (fields : Fields) (value_at : ℕ → Value) (further : Option Value) → IsPlace row fields value_at further → IsPrintable (nothing_value row fields value_at further)
nothing_printable row fields value_at further place =
    let listed = nat_lt 0 row.least || is_some row.most || is_some further in
    let fielded = is_some row.labels || has_field fields in
    let end = bottom no_parts in
    let lists = list_part row.least row.most value_at further end in
    let left = list_left row value_at further end in
    let left_are : ArePrintableParts left = part_by listed lists end (list_printable row.least row.most value_at further end place.values place.ending tt) tt in (
      some_by fielded (struct_part row.labels fields left) left (struct_some row.labels fields left) (some_by listed lists end (list_some row.least row.most value_at further end) tt),
      part_by fielded (struct_part row.labels fields left) left (struct_printable row.labels fields left place.words.labels place.below left_are) left_are,
    )

scalar_printable : (value usual others : List PrintedTerm) → ArePrintableTerms value → ArePrintableTerms usual → ArePrintableTerms others → IsPrintable (scalar_value value usual others)
scalar_printable value usual [] first second third = (tt, first)
scalar_printable value usual (term ∷ others) first second third = (second, third)

scalar_or_nothing_printable : (terms : List PrintedTerm) (row : Row) (fields : Fields) (value_at : ℕ → Value) (further : Option Value) → ArePrintableTerms terms → IsPlace row fields value_at further → IsPrintable (scalar_or_nothing terms row fields value_at further)
scalar_or_nothing_printable [] row fields value_at further are place = nothing_printable row fields value_at further place
scalar_or_nothing_printable (term ∷ terms) row fields value_at further are place =
    scalar_printable (term ∷ terms) (terms_of row.usual) (terms_of (scalars_without row.value row.usual)) are
    (set_printable row.usual place.is.usual place.words.usual)
    (set_printable (scalars_without row.value row.usual) (left_set row.value row.usual place.is.value place.is.usual)
    (left_words row.value.texts.0 row.value.texts.1 row.usual.texts.0 row.usual.texts.1 place.words.value place.words.usual))

value_printable : (struct_ok list_ok : Bool) (row : Row) (fields : Fields) (value_at : ℕ → Value) (further : Option Value) → IsPlace row fields value_at further → IsPrintable (value_by struct_ok list_ok row fields value_at further)
value_printable true true row fields value_at further place = tt
value_printable true false row fields value_at further place = (struct_some row.labels fields no_parts, struct_printable row.labels fields no_parts place.words.labels place.below tt)
value_printable false true row fields value_at further place = (list_some row.least row.most value_at further no_parts, list_printable row.least row.most value_at further no_parts place.values place.ending tt)
value_printable false false row fields value_at further place = scalar_or_nothing_printable (terms_of row.value) row fields value_at further (set_printable row.value place.is.value place.words.value) place

row_printable : (row : Row) (fields : Fields) (value_at : ℕ → Value) (further : Option Value) → IsPlace row fields value_at further → IsPrintable (row_value row fields value_at further)
unfolding row_value
row_printable row fields value_at further place = value_printable row.struct_ok row.list_ok row fields value_at further place

-- ---- trees
abbrev Kept : Row → Type 0
Kept = IsRowKept RefusesAsked IsRow

-- what a valid table says of the row at a path
abbrev AreFacts : Tree Row → Type 0
AreFacts tree = (path : Path) (row : Row) → row_at tree path ≡ Some row → HasWords row × AllByRecursion IsWordStep path

abbrev AreFactsBelow : Children Row → Type 0
AreFactsBelow children = (step : Step) (tree : Tree Row) → find step children ≡ Some tree → (path : Path) (row : Row) → row_at tree path ≡ Some row → HasWords row × IsWordStep step × AllByRecursion IsWordStep path

first_facts : (step : Step) (tree : Tree Row) (children : Children Row) → AreFactsBelow (child step tree children) → AreFacts tree
first_facts step tree children facts path row at = let fact = facts step tree (find_first step tree children) path row at in (fact.0, fact.2)

later_facts : (step : Step) (tree : Tree Row) (children : Children Row) → IsStepBelowAll step children → AreFactsBelow (child step tree children) → AreFactsBelow children
later_facts step tree children below facts other branch found = facts other branch (found_later step tree children below other branch found (step_cmp other step) refl)

-- the rows below a place are rows of the tree
below_facts : (here : Row) (children : Children Row) (rest : Rest Row) → IsRestOf Kept children rest → AreFacts (node (Some here) children rest) → AreFactsBelow children
below_facts here children rest is facts step tree found path row at =
    let fact = facts (step ∷ path) row (ap (λ t. found_row t path) (find_own Kept rest step tree children is found) ∙ at) in
    (fact.0, fact.1.0, fact.1.1)

-- so are those of the rest
rest_facts : (here : Row) (children : Children Row) (n : ℕ) (tree : Tree Row) → AreFacts (node (Some here) children (onward n tree)) → AreFacts tree
rest_facts here children n tree facts path row at =
    let fact = facts (index n ∷ path) row (ap (λ t. found_row t path) (find_rest n tree children n (omega arith)) ∙ at) in
    (fact.0, fact.1.1)

-- the label of a branch is a word
label_word : (l : List ℕ) (tree : Tree Row) (children : Children Row) → IsTreeTaken tree → IsTree Kept tree → AreFactsBelow (child (label l) tree children) → IsWord l
label_word l tree children some is facts =
    let row = taken_row Kept tree some is in
    (facts (label l) tree (find_first (label l) tree children) row.0 row.1 row.2).1

value_if : (here : Bool) (a b : Value) → IsPrintable a → IsPrintable b → IsPrintable (if here then a else b)
value_if true a b first second = first
value_if false a b first second = second

-- an element is one of its own or the rest
at_printable : (rest : Rest Row) (own : ℕ → Value) → ((n : ℕ) → IsPrintable (own n)) → IsPrintableEnding (dots (rest_value rest)) → (n : ℕ) → IsPrintable (element_at rest own n)
unfolding value_of
at_printable no_rest own are last n = are n
at_printable (onward m tree) own are last n = value_if (nat_lt n m) (own n) (value_of tree) (are n) last

mutual
  unfolding value_of

  tree_printable : (tree : Tree Row) → IsTree Kept tree → AreFacts tree → IsPrintable (value_of tree)
  tree_printable (node None children rest) is facts = tt
  tree_printable (node (Some row) children rest) is facts =
      let below = below_facts row children rest is.2 facts in
      let further = rest_printable rest row children is.2 facts in
      row_printable row (fields_below children) (element_at rest (element_below children)) (rest_value rest)
      (record {
        is = is.0.0;
        words = (facts [] row refl).0;
        below = fields_printable children is.1 below;
        values = at_printable rest (element_below children) (element_printable children is.1 below) further;
        ending = further;
      })

  rest_printable : (rest : Rest Row) (here : Row) (children : Children Row) → IsRestOf Kept children rest → AreFacts (node (Some here) children rest) → IsPrintableEnding (dots (rest_value rest))
  rest_printable no_rest here children is facts = tt
  rest_printable (onward n tree) here children is facts = tree_printable tree is.3 (rest_facts here children n tree facts)

  fields_printable : (children : Children Row) → AreBranches Kept children → AreFactsBelow children → ArePrintableFields (fields_below children)
  fields_printable none are facts = tt
  fields_printable (child (label l) tree children) are facts =
      (label_word l tree children are.1 are.2 facts, tree_printable tree are.2 (first_facts (label l) tree children facts), fields_printable children are.3 (later_facts (label l) tree children are.0 facts))
  fields_printable (child (index n) tree children) are facts = fields_printable children are.3 (later_facts (index n) tree children are.0 facts)

  element_printable : (children : Children Row) → AreBranches Kept children → AreFactsBelow children → (n : ℕ) → IsPrintable (element_below children n)
  element_printable none are facts n = tt
  element_printable (child (label l) tree children) are facts n = element_printable children are.3 (later_facts (label l) tree children are.0 facts) n
  element_printable (child (index m) tree children) are facts n =
      value_if (m == n) (value_of tree) (element_below children n) (tree_printable tree are.2 (first_facts (index m) tree children facts)) (element_printable children are.3 (later_facts (index m) tree children are.0 facts) n)

-- The fields of a valid table can be printed.
pub valid_printable : (table : Tree Row) (fields : Fields) → IsValidTable table → file_of table ≡ Some fields → ArePrintableFields fields
unfolding file_of
valid_printable (node None children rest) fields valid is = cc
valid_printable (node (Some row) children rest) fields valid is =
    let facts : AreFacts (node (Some row) children rest) = λ path here at. ((valid.rows path here at).texts, valid.labels path here at) in
    let same : fields_below children ≡ fields = cc in
    subst ArePrintableFields same (fields_printable children valid.form.1 (below_facts row children rest valid.form.2 facts))
