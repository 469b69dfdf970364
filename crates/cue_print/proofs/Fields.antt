-- The fields below a place, and how they are written one after the other.
use Rattle.std.proofs.Common.{◌≡◌, ℕ, true, false, List, [], ◌∷◌, ◌++◌, refl, sym, ap, ◌∙◌, append_assoc}
use Rattle.std.specs.Prelude.{codes}
use Rattle.std.specs.List.{flat_map}
use Rattle.cue_lattice.specs.Path.{label, index}
use Rattle.cue_row.specs.declared.parts.RowParts.{RowParts as Row}
use Rattle.cue_row.specs.Quoted.{quote_text}
use Rattle.cue_table.specs.Tree.{Tree, Children, none, child, row_of, labels_of}
use Rattle.cue_print.specs.Expressions.{Fields, no_more, field}
use Rattle.cue_print.specs.Printed.{has_field, level_at, value_of, fields_below}
use Rattle.cue_print.specs.Spelled.{mark_text, line, value_text, field_texts}

-- the fields of places with their labels
abbrev pub fields_of : List (List ℕ × Tree Row) → Fields
fields_of [] = no_more
fields_of (item ∷ items) = field item.0 (level_at (row_of item.1)) (value_of item.1) (fields_of items)

pub fields_are : (children : Children Row) → fields_below children ≡ fields_of (labels_of children)
unfolding fields_below
fields_are none = refl
fields_are (child (label l) tree children) = ap (λ fields. field l (level_at (row_of tree)) (value_of tree) fields) (fields_are children)
fields_are (child (index n) tree children) = fields_are children

pub no_field : (children : Children Row) → labels_of children ≡ [] → false ≡ has_field (fields_below children)
no_field children e = sym (ap has_field (fields_are children ∙ ap fields_of e))

pub some_field : (children : Children Row) (item : List ℕ × Tree Row) (items : List (List ℕ × Tree Row)) → labels_of children ≡ item ∷ items → true ≡ has_field (fields_below children)
some_field children item items e = sym (ap has_field (fields_are children ∙ ap fields_of e))

-- the text of one field
abbrev pub declaration : List ℕ → Tree Row → List ℕ
declaration l tree = quote_text l ++ (mark_text (level_at (row_of tree)) ++ value_text (value_of tree))

-- the text of the next field, in front of those of the others
pub first_field :
    (items others : List (List ℕ × Tree Row)) (item : List ℕ × Tree Row) → items ≡ item ∷ others
    → field_texts (fields_of items) ≡ declaration item.0 item.1 ∷ field_texts (fields_of others)
unfolding field_texts
first_field items others item e = ap (λ is. field_texts (fields_of is)) e

pub no_field_left : (items : List (List ℕ × Tree Row)) → items ≡ [] → field_texts (fields_of items) ≡ []
unfolding field_texts
no_field_left items e = ap (λ is. field_texts (fields_of is)) e

-- all texts are left in front of the walk
pub all_fields : (children : Children Row) (items : List (List ℕ × Tree Row)) → items ≡ labels_of children → field_texts (fields_of items) ≡ field_texts (fields_below children)
all_fields children items e = ap field_texts (ap fields_of e ∙ sym (fields_are children))

-- ---- fields in lines
pub first_line : (texts others : List (List ℕ)) (text : List ℕ) → texts ≡ text ∷ others → flat_map line texts ≡ text ++ (codes "\n" ++ flat_map line others)
first_line texts others text e = ap (flat_map line) e ∙ append_assoc text (codes "\n") (flat_map line others)
