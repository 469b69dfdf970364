-- Branches that are found at a label or at a number.
use Rattle.std.proofs.Common.{◌≡◌, ℕ, Bool, true, false, List, [], ◌∷◌, Option, Some, None, nat_eq, refl, sym, ap, ◌∙◌, arith}
use Rattle.std.specs.Prelude.{is_some, nat_lt, if◌then◌else◌}
use Rattle.std.specs.Str.{bytes_eq}
use Rattle.std.specs.Ordering.{nat_cmp}
use Rattle.std.specs.declared.cmp.Ordering.{Ordering}
use Rattle.std.specs.declared.cmp.Ordering.TheVariants.{Less, Equal, Greater}
use Rattle.std.specs.Cmp.{nat_cmp_is}
use Rattle.std.specs.FinMap.{nat_cmp-IsAntisymmetric}
use Rattle.cue_lattice.specs.Path.{label, index}
use Rattle.cue_sets.specs.Texts.{text_cmp}
use Rattle.cue_sets.specs.TextLaws.{reverse_cmp, same_from_equal, bytes_eq-itself, bytes_eq-less, bytes_eq-greater}
use Rattle.cue_row.specs.declared.level.Level.TheVariants.{Optional}
use Rattle.cue_row.specs.declared.parts.RowParts.{RowParts as Row}
use Rattle.cue_table.specs.Tree.{Tree, node, Children, none, child, Rest, no_rest, onward, row_of, below, rest_below, if_equal, find, find_with, step_into, rest_at}
use Rattle.cue_print.specs.Expressions.{Value, top, Fields, field}
use Rattle.cue_print.specs.Printed.{level_at, field_in_front, fields_of_labels, value_of, fields_below, element_at, element_below, rest_value}
use Rattle.cue_print.specs.Spelled.{value_text, field_texts}
use Rattle.cue_print.specs.Inner.Writing.{rest_value_text, fields_at, found_text, declared_text}

-- ---- labels
-- the field of a label, by the branch that is found at it
abbrev pub field_for : List ℕ → Option (Tree Row) → Fields → Fields
field_for l None others = field l Optional top others
field_for l (Some tree) others = field l (level_at (row_of tree)) (value_of tree) others

declared_found : (children : Children Row) (l : List ℕ) (others : Fields) → field_in_front l (fields_below children) others ≡ field_for l (find (label l) children) others
unfolding fields_below
declared_found none l others = refl
declared_found (child (index n) tree children) l others = declared_found children l others
declared_found (child (label m) tree children) l others = at (text_cmp l m) refl (declared_found children l others) where
  at :
      (o : Ordering) → text_cmp l m ≡ o → field_in_front l (fields_below children) others ≡ field_for l (find (label l) children) others
      → field_in_front l (fields_below (child (label m) tree children)) others ≡ field_for l (if_equal (text_cmp l m) tree (find (label l) children)) others
  at Less h later = rw (bytes_eq-greater m l h, h) later
  at Equal h later = rw (ap (bytes_eq m) (same_from_equal l m h) ∙ bytes_eq-itself m, h) refl
  at Greater h later = rw (bytes_eq-less m l (reverse_cmp l m Greater h), h) later

declared_with : (rest : Rest Row) (children : Children Row) (l : List ℕ) (others : Fields) → field_in_front l (fields_below children) others ≡ field_for l (find_with rest (label l) children) others
declared_with no_rest children l others = declared_found children l others
declared_with (onward n tree) children l others = declared_found children l others

declared_into : (tree : Tree Row) (l : List ℕ) (others : Fields) → field_in_front l (fields_below (below tree)) others ≡ field_for l (step_into tree (label l)) others
declared_into (node row children rest) l others = declared_with rest children l others

found_left : (l : List ℕ) (found : Option (Tree Row)) (others : Fields) → field_texts (field_for l found others) ≡ found_text l found ∷ field_texts others
unfolding field_texts value_text
found_left l None others = refl
found_left l (Some tree) others = refl

-- the text of the first label, in front of those of the others
pub first_label :
    (tree : Tree Row) (labels others : List (List ℕ)) (l : List ℕ) → labels ≡ l ∷ others
    → field_texts (fields_of_labels labels (fields_at tree)) ≡ declared_text l tree ∷ field_texts (fields_of_labels others (fields_at tree))
first_label tree labels others l e =
    ap (λ ls. field_texts (fields_of_labels ls (fields_at tree))) e
    ∙ ap field_texts (declared_into tree l (fields_of_labels others (fields_at tree))) ∙ found_left l (step_into tree (label l)) (fields_of_labels others (fields_at tree))

pub no_label_left : (tree : Tree Row) (labels : List (List ℕ)) → labels ≡ [] → field_texts (fields_of_labels labels (fields_at tree)) ≡ []
unfolding field_texts
no_label_left tree labels e = ap (λ ls. field_texts (fields_of_labels ls (fields_at tree))) e

-- ---- numbers
-- the element of a number, by the branch that is found at it
abbrev pub element_for : Option (Tree Row) → Value
element_for None = top
element_for (Some tree) = value_of tree

same_number : (m n : ℕ) → nat_eq m n ≡ true → m ≡ n
same_number m n h = grind arith

one_number : (n m : ℕ) → n ≡ m → nat_eq m n ≡ true
one_number n m h = grind arith

-- numbers that are in order are two
other_number : (n m : ℕ) (o : Ordering) → nat_cmp n m ≡ o → (o ≡ Equal → ⊥) → nat_eq m n ≡ false
other_number n m o h not_equal = by (nat_eq m n) refl where
  by : (b : Bool) → nat_eq m n ≡ b → b ≡ false
  by false e = refl
  by true e = absurd (not_equal (sym h ∙ sym (nat_cmp_is n m Equal (sym (same_number m n e)))))

element_found : (children : Children Row) (n : ℕ) → element_below children n ≡ element_for (find (index n) children)
unfolding element_below
element_found none n = refl
element_found (child (label l) tree children) n = element_found children n
element_found (child (index m) tree children) n = at (nat_cmp n m) refl (element_found children n) where
  at :
      (o : Ordering) → nat_cmp n m ≡ o → element_below children n ≡ element_for (find (index n) children)
      → element_below (child (index m) tree children) n ≡ element_for (if_equal (nat_cmp n m) tree (find (index n) children))
  at Less h later = rw (other_number n m Less h (λ e. cc), h) later
  at Equal h later = rw (one_number n m (nat_cmp-IsAntisymmetric n m h), h) refl
  at Greater h later = rw (other_number n m Greater h (λ e. cc), h) later

element_with : (rest : Rest Row) (children : Children Row) (n : ℕ) → element_at rest (element_below children) n ≡ element_for (find_with rest (index n) children)
unfolding element_at
element_with no_rest children n = element_found children n
element_with (onward m tree) children n = by (nat_lt n m) where
  by : (b : Bool) → (if b then element_below children n else value_of tree) ≡ element_for (if b then find (index n) children else Some tree)
  by true = element_found children n
  by false = refl

pub element_into : (tree : Tree Row) (n : ℕ) → element_at (rest_below tree) (element_below (below tree)) n ≡ element_for (step_into tree (index n))
element_into (node row children rest) n = element_with rest children n

-- ---- rests
pub rest_is_some : (rest : Rest Row) → is_some (rest_at rest) ≡ is_some (rest_value rest)
unfolding rest_value
rest_is_some no_rest = refl
rest_is_some (onward n tree) = refl

-- what is told of further elements, by the rest that is found
told_for : Option (Tree Row) → List ℕ
told_for None = []
told_for (Some tree) = value_text (value_of tree)

told_found : (rest : Rest Row) → rest_value_text (rest_value rest) ≡ told_for (rest_at rest)
unfolding rest_value told_for
told_found no_rest = refl
told_found (onward n tree) = refl

pub no_rest_told : (tree : Tree Row) → None ≡ rest_at (rest_below tree) → [] ≡ rest_value_text (rest_value (rest_below tree))
unfolding told_for
no_rest_told tree e = ap told_for e ∙ sym (told_found (rest_below tree))

pub rest_told : (tree rest : Tree Row) → Some rest ≡ rest_at (rest_below tree) → value_text (value_of rest) ≡ rest_value_text (rest_value (rest_below tree))
unfolding told_for
rest_told tree rest e = ap told_for e ∙ sym (told_found (rest_below tree))
