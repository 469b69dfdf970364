-- Parts that are unified, one in front of others.
use Rattle.std.proofs.Common.{◌≡◌, ℕ, Bool, true, false, ◌||◌, List, [], ◌∷◌, ◌++◌, Option, Some, None, refl, sym, ap, ◌∙◌, append_assoc}
use Rattle.std.specs.Prelude.{codes, is_some, nat_lt, if◌then◌else◌}
use Rattle.std.specs.List.{flat_map}
use Rattle.std.proofs.lemmas.List.{append-nil}
use Rattle.cue_row.specs.declared.level.Level.{Level}
use Rattle.cue_row.specs.declared.parts.RowParts.{RowParts as Row}
use Rattle.cue_row.specs.LabelSets.{allows_label}
use Rattle.cue_row.specs.Quoted.{quote_text}
use Rattle.cue_table.specs.Tree.{Tree, Children, row_of, labels_of}
use Rattle.cue_print.specs.Expressions.{Value, top, all, Parts, no_parts, struct, close, list, bottom, Fields, no_more, field, Ending, ends}
use Rattle.cue_print.specs.Printed.{fields_of_labels, fields_of_others, struct_if_any, struct_part, elements, dots, list_part, has_field, list_left, nothing_value, level_at, value_of, fields_below}
use Rattle.cue_print.specs.Spelled.{join_texts, enclose_text, mark_text, struct_text, list_text, value_text, part_texts, field_texts, element_texts, ending_texts}
use Rattle.cue_print.specs.Inner.Writing.{separator_before, after_conjunction, field_opening, beside_text, fields_closing, written_struct, struct_before, is_exact, rest_value_text, ending_text, longest_text, written_list, list_before}
use Rattle.cue_print.proofs.Fields.{fields_of, fields_are, declaration}
use Rattle.cue_print.proofs.Joined.{joined_more, left_joined}
use Rattle.cue_print.proofs.ListTexts.{none_before}

-- the parts behind another one
abbrev pub behind : Parts → List ℕ
behind parts = flat_map after_conjunction (part_texts parts)

-- one part
alone : (t : List ℕ) → t ++ [] ≡ t
alone t = append-nil t

-- ---- structs
pub open_struct : (fields : Fields) → enclose_text (codes "{") (join_texts (codes ", ") (field_texts fields)) (codes "}") ≡ value_text (all (struct_part None fields no_parts))
unfolding value_text part_texts
open_struct fields = sym (alone (struct_text (field_texts fields)))

pub closed_struct :
    (labels : List (List ℕ)) (fields : Fields)
    → codes "close({" ++ (join_texts (codes ", ") (field_texts (fields_of_labels labels fields)) ++ (codes "})" ++ beside_text (Some labels) fields)) ≡ value_text (all (struct_part (Some labels) fields no_parts))
unfolding value_text part_texts beside_text
closed_struct labels fields =
    let inner : List ℕ = join_texts (codes ", ") (field_texts (fields_of_labels labels fields)) in
    let rest : List ℕ = flat_map after_conjunction (part_texts (struct_if_any (fields_of_others labels fields) no_parts)) in
    ap (λ t. codes "close({" ++ t) (sym (append_assoc inner (codes "})") rest) ∙ ap (λ t. t ++ rest) (sym (append_assoc inner (codes "}") (codes ")"))))

-- a struct, as it is written
pub struct_spelled : (labels : Option (List (List ℕ))) (fields : Fields) → written_struct labels fields ≡ value_text (all (struct_part labels fields no_parts))
struct_spelled None fields = open_struct fields
struct_spelled (Some labels) fields = closed_struct labels fields

if_any_then : (fields : Fields) (parts : Parts) → behind (struct_if_any fields parts) ≡ behind (struct_if_any fields no_parts) ++ behind parts
unfolding part_texts
if_any_then no_more parts = refl
if_any_then (field l level value fields) parts =
    ap (λ t. t ++ behind parts) (sym (alone (after_conjunction (struct_text (field_texts (field l level value fields))))))

pub struct_then : (labels : Option (List (List ℕ))) (fields : Fields) (parts : Parts) → value_text (all (struct_part labels fields parts)) ≡ value_text (all (struct_part labels fields no_parts)) ++ behind parts
unfolding value_text part_texts
struct_then None fields parts = ap (λ t. t ++ behind parts) (sym (alone (struct_text (field_texts fields))))
struct_then (Some labels) fields parts =
    let closed : List ℕ = enclose_text (codes "close(") (struct_text (field_texts (fields_of_labels labels fields))) (codes ")") in
    ap (λ t. closed ++ t) (if_any_then (fields_of_others labels fields) parts) ∙ sym (append_assoc closed (behind (struct_if_any (fields_of_others labels fields) no_parts)) (behind parts))

-- ---- lists
-- how a list ends, by whether its elements alone tell it
abbrev pub ended : Bool → Option Value → Ending
ended true further = ends
ended false further = dots further

ending_told : (further : Option Value) → ending_texts (dots further) ≡ (codes "..." ++ rest_value_text further) ∷ []
unfolding ending_texts
ending_told None = refl
ending_told (Some value) = refl

-- the elements of a list, and what ends them
pub list_ended :
    (count : ℕ) (value_at : ℕ → Value) (exact : Bool) (further : Option Value)
    → join_texts (codes ", ") (element_texts (elements count value_at) ++ ending_texts (ended exact further)) ≡ join_texts (codes ", ") (element_texts (elements count value_at)) ++ ending_text count exact further
unfolding ending_texts
list_ended count value_at true further =
    ap (join_texts (codes ", ")) (append-nil (element_texts (elements count value_at))) ∙ sym (append-nil (join_texts (codes ", ") (element_texts (elements count value_at))))
list_ended count value_at false further =
    ap (λ ts. join_texts (codes ", ") (element_texts (elements count value_at) ++ ts)) (ending_told further)
    ∙ joined_more (codes ", ") (element_texts (elements count value_at)) (codes "..." ++ rest_value_text further)
    ∙ ap (λ b. join_texts (codes ", ") (element_texts (elements count value_at)) ++ (separator_before (codes ", ") b ++ (codes "..." ++ rest_value_text further))) (none_before count value_at)

list_told :
    (least : ℕ) (most : Option ℕ) (value_at : ℕ → Value) (further : Option Value)
    → list_text (element_texts (elements least value_at) ++ ending_texts (ended (is_exact least most further) further)) ++ longest_text most (is_exact least most further)
    ≡ value_text (all (list_part least most value_at further no_parts))
unfolding ending_texts value_text part_texts longest_text
list_told least None value_at further = refl
list_told least (Some most) value_at further = by (is_exact least (Some most) further) where
  by :
      (b : Bool)
      → list_text (element_texts (elements least value_at) ++ ending_texts (ended b further)) ++ longest_text (Some most) b
      ≡ value_text (all (if b then list (elements least value_at) ends no_parts else list (elements least value_at) (dots further) (list (elements most (λ n. top)) ends no_parts)))
  by true = refl
  by false =
      let tops : List (List ℕ) = element_texts (elements most (λ n. top)) in
      ap (λ t. list_text (element_texts (elements least value_at) ++ ending_texts (dots further)) ++ t)
      (ap (λ ts. after_conjunction (list_text ts)) (sym (append-nil tops)) ∙ sym (append-nil (after_conjunction (list_text (tops ++ [])))))

pub list_then : (least : ℕ) (most : Option ℕ) (value_at : ℕ → Value) (further : Option Value) (parts : Parts) → value_text (all (list_part least most value_at further parts)) ≡ value_text (all (list_part least most value_at further no_parts)) ++ behind parts
unfolding value_text part_texts
list_then least None value_at further parts = ap (λ t. t ++ behind parts) (sym (alone (list_text (element_texts (elements least value_at) ++ ending_texts (dots further)))))
list_then least (Some most) value_at further parts = by (is_exact least (Some most) further) where
  one_or_two : Bool → Parts → Parts
  one_or_two b others = if b then list (elements least value_at) ends others else list (elements least value_at) (dots further) (list (elements most (λ n. top)) ends others)

  by : (b : Bool) → value_text (all (one_or_two b parts)) ≡ value_text (all (one_or_two b no_parts)) ++ behind parts
  by true = ap (λ t. t ++ behind parts) (sym (alone (list_text (element_texts (elements least value_at) ++ ending_texts ends))))
  by false =
      let short : List ℕ = list_text (element_texts (elements least value_at) ++ ending_texts (dots further)) in
      let long : List ℕ = after_conjunction (list_text (element_texts (elements most (λ n. top)) ++ ending_texts ends)) in
      ap (λ t. short ++ t) (ap (λ t. t ++ behind parts) (sym (alone long))) ∙ sym (append_assoc short (long ++ []) (behind parts))

-- a list, as it is written
pub list_spelled :
    (least : ℕ) (most : Option ℕ) (value_at : ℕ → Value) (further : Option Value)
    → written_list least most value_at further ≡ value_text (all (list_part least most value_at further no_parts))
list_spelled least most value_at further =
    let exact : Bool = is_exact least most further in
    let inner : List ℕ = join_texts (codes ", ") (element_texts (elements least value_at)) in
    let end : List ℕ = ending_text least exact further in
    let long : List ℕ = longest_text most exact in
    ap (λ t. codes "[" ++ t) (sym (append_assoc inner end (codes "]" ++ long)) ∙ sym (append_assoc (inner ++ end) (codes "]") long))
    ∙ ap (λ t. (codes "[" ++ (t ++ codes "]")) ++ long) (sym (list_ended least value_at exact further))
    ∙ list_told least most value_at further

-- ---- nothing
-- a value is never told by no part
pub list_left_behind : (row : Row) (value_at : ℕ → Value) (further : Option Value) → value_text (all (list_left row value_at further (bottom no_parts))) ≡ list_before row value_at further ++ codes "_|_"
unfolding value_text part_texts list_before
list_left_behind row value_at further = by (nat_lt 0 row.least || is_some row.most || is_some further) where
  by :
      (b : Bool)
      → value_text (all (if b then list_part row.least row.most value_at further (bottom no_parts) else bottom no_parts))
      ≡ (if b then written_list row.least row.most value_at further ++ codes " & " else []) ++ codes "_|_"
  by true =
      list_then row.least row.most value_at further (bottom no_parts)
      ∙ sym (append_assoc (value_text (all (list_part row.least row.most value_at further no_parts))) (codes " & ") (codes "_|_"))
      ∙ ap (λ t. (t ++ codes " & ") ++ codes "_|_") (sym (list_spelled row.least row.most value_at further))
  by false = refl

-- parts behind others, where there is one
is_filled : Parts → Bool
is_filled no_parts = false
is_filled parts = true

behind_filled : (parts : Parts) → is_filled parts ≡ true → behind parts ≡ codes " & " ++ value_text (all parts)
unfolding value_text part_texts is_filled
behind_filled no_parts e = cc
behind_filled (struct fields parts) e = refl
behind_filled (close fields parts) e = refl
behind_filled (list values g parts) e = refl
behind_filled (bottom parts) e = refl

one_or_two :
    (b : Bool) (least most : ℕ) (value_at : ℕ → Value) (further : Option Value) (parts : Parts)
    → is_filled (if b then list (elements least value_at) ends parts else list (elements least value_at) (dots further) (list (elements most (λ n. top)) ends parts)) ≡ true
unfolding is_filled
one_or_two true least most value_at further parts = refl
one_or_two false least most value_at further parts = refl

left_filled : (row : Row) (value_at : ℕ → Value) (further : Option Value) → is_filled (list_left row value_at further (bottom no_parts)) ≡ true
unfolding is_filled
left_filled row value_at further = by (nat_lt 0 row.least || is_some row.most || is_some further) where
  part : (most : Option ℕ) → is_filled (list_part row.least most value_at further (bottom no_parts)) ≡ true
  part None = refl
  part (Some most) = one_or_two (is_exact row.least (Some most) further) row.least most value_at further (bottom no_parts)

  by : (b : Bool) → is_filled (if b then list_part row.least row.most value_at further (bottom no_parts) else bottom no_parts) ≡ true
  by false = refl
  by true = part row.most

pub nothing_told : (row : Row) (fields : Fields) (value_at : ℕ → Value) (further : Option Value) → struct_before row fields ++ (list_before row value_at further ++ codes "_|_") ≡ value_text (nothing_value row fields value_at further)
unfolding struct_before
nothing_told row fields value_at further = ap (λ t. struct_before row fields ++ t) (sym (list_left_behind row value_at further)) ∙ by (is_some row.labels || has_field fields) where
  rest : Parts
  rest = list_left row value_at further (bottom no_parts)

  by :
      (b : Bool)
      → (if b then written_struct row.labels fields ++ codes " & " else []) ++ value_text (all (list_left row value_at further (bottom no_parts)))
      ≡ value_text (all (if b then struct_part row.labels fields (list_left row value_at further (bottom no_parts)) else list_left row value_at further (bottom no_parts)))
  by true =
      ap (λ t. (t ++ codes " & ") ++ value_text (all (list_left row value_at further (bottom no_parts)))) (struct_spelled row.labels fields)
      ∙ append_assoc (value_text (all (struct_part row.labels fields no_parts))) (codes " & ") (value_text (all (list_left row value_at further (bottom no_parts))))
      ∙ ap (λ t. value_text (all (struct_part row.labels fields no_parts)) ++ t) (sym (behind_filled (list_left row value_at further (bottom no_parts)) (left_filled row value_at further)))
      ∙ sym (struct_then row.labels fields (list_left row value_at further (bottom no_parts)))
  by false = refl

-- ---- fields whose labels may not stand
abbrev pub outside_of : Option (List (List ℕ)) → Fields → Fields
outside_of None fields = no_more
outside_of (Some labels) fields = fields_of_others labels fields

-- what is left of them, where one was written or not
abbrev pub outside_text : Bool → Fields → List ℕ
outside_text true fields = behind (struct_if_any fields no_parts)
outside_text false fields = left_joined (codes ", ") false (field_texts fields) ++ codes "}"

outside_first : (labels : Option (List (List ℕ))) (fields : Fields) → outside_text true (outside_of labels fields) ≡ beside_text labels fields
unfolding beside_text part_texts
outside_first None fields = refl
outside_first (Some labels) fields = refl

-- all fields are left in front of the walk
pub all_outside :
    (labels : Option (List (List ℕ))) (children : Children Row) (items : List (List ℕ × Tree Row)) → items ≡ labels_of children
    → outside_text true (outside_of labels (fields_of items)) ≡ beside_text labels (fields_below children)
all_outside labels children items e = ap (λ fs. outside_text true (outside_of labels fs)) (ap fields_of e ∙ sym (fields_are children)) ∙ outside_first labels (fields_below children)

first_opened :
    (is_first : Bool) (l : List ℕ) (level : Level) (value : Value) (fields : Fields)
    → outside_text is_first (field l level value fields) ≡ field_opening is_first ++ ((quote_text l ++ (mark_text level ++ value_text value)) ++ outside_text false fields)
unfolding part_texts field_texts
first_opened true l level value fields =
    let one : List ℕ = quote_text l ++ (mark_text level ++ value_text value) in
    let rest : List ℕ = left_joined (codes ", ") false (field_texts fields) in
    alone (field_opening true ++ ((one ++ rest) ++ codes "}")) ∙ ap (λ t. field_opening true ++ t) (append_assoc one rest (codes "}"))
first_opened false l level value fields =
    let one : List ℕ = quote_text l ++ (mark_text level ++ value_text value) in
    let rest : List ℕ = left_joined (codes ", ") false (field_texts fields) in
    ap (λ t. codes ", " ++ t) (append_assoc one rest (codes "}"))

outside_more : (labels : Option (List (List ℕ))) (l : List ℕ) (level : Level) (value : Value) (fields : Fields) → allows_label labels l ≡ false → outside_of labels (field l level value fields) ≡ field l level value (outside_of labels fields)
outside_more None l level value fields e = cc
outside_more (Some labels) l level value fields e = rw e refl

outside_past : (labels : Option (List (List ℕ))) (l : List ℕ) (level : Level) (value : Value) (fields : Fields) → allows_label labels l ≡ true → outside_of labels (field l level value fields) ≡ outside_of labels fields
outside_past None l level value fields e = refl
outside_past (Some labels) l level value fields e = rw e refl

none_outside : (labels : Option (List (List ℕ))) → outside_of labels no_more ≡ no_more
none_outside None = refl
none_outside (Some labels) = refl

-- the next field is one of them
pub first_outside :
    (is_first : Bool) (labels : Option (List (List ℕ))) (items others : List (List ℕ × Tree Row)) (item : List ℕ × Tree Row) → items ≡ item ∷ others → allows_label labels item.0 ≡ false
    → outside_text is_first (outside_of labels (fields_of items)) ≡ field_opening is_first ++ (declaration item.0 item.1 ++ outside_text false (outside_of labels (fields_of others)))
first_outside is_first labels items others item e h =
    ap (λ is. outside_text is_first (outside_of labels (fields_of is))) e
    ∙ ap (outside_text is_first) (outside_more labels item.0 (level_at (row_of item.1)) (value_of item.1) (fields_of others) h)
    ∙ first_opened is_first item.0 (level_at (row_of item.1)) (value_of item.1) (outside_of labels (fields_of others))

-- the next field is none of them
pub first_inside :
    (is_first : Bool) (labels : Option (List (List ℕ))) (items others : List (List ℕ × Tree Row)) (item : List ℕ × Tree Row) → items ≡ item ∷ others → allows_label labels item.0 ≡ true
    → outside_text is_first (outside_of labels (fields_of items)) ≡ outside_text is_first (outside_of labels (fields_of others))
first_inside is_first labels items others item e h =
    ap (λ is. outside_text is_first (outside_of labels (fields_of is))) e
    ∙ ap (outside_text is_first) (outside_past labels item.0 (level_at (row_of item.1)) (value_of item.1) (fields_of others) h)

no_outside : (labels : Option (List (List ℕ))) (items : List (List ℕ × Tree Row)) → items ≡ [] → outside_of labels (fields_of items) ≡ no_more
no_outside labels items e = ap (λ is. outside_of labels (fields_of is)) e ∙ none_outside labels

-- all are written
pub outside_closed : (is_first : Bool) (labels : Option (List (List ℕ))) (items : List (List ℕ × Tree Row)) → items ≡ [] → outside_text is_first (outside_of labels (fields_of items)) ≡ fields_closing is_first ++ []
unfolding field_texts part_texts
outside_closed true labels items e = ap (outside_text true) (no_outside labels items e)
outside_closed false labels items e = ap (outside_text false) (no_outside labels items e)
