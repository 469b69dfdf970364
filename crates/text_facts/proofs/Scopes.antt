-- Names: which are faults, of which kind and at which byte, in the order of the text.
use Rattle.std.proofs.Common.{◌≡◌, true, false, [], ◌∷◌, ◌++◌, Some, None, refl, rules}
use Rattle.std.specs.Prelude.{codes}
use Rattle.cue_lattice.specs.declared.refusal.Kind.TheVariants.{UnknownName, FieldReference}
use Rattle.cue_scope.specs.declared.named.Named.TheVariants as sets
use Rattle.cue_scope.specs.Named.{named_of, is_literal}
use Rattle.cue_scope.specs.Names.{name_faults, refuse_name}
use Rattle.cue_syntax.specs.declared.tree.Identifier.TheVariants.{Plain, Definition, Hidden}
use Rattle.cue_syntax.specs.declared.tree.Mark.TheVariants.{Regular}
use Rattle.cue_syntax.specs.Syntax.{name, parenthesis, struct, close, list, branch, field, definition, each_rest, elements_of, entries_in}
use Rattle.text_facts.proofs.OnLiterals.{lexed}
use Rattle.text_facts.proofs.Trees.{Says, file, label, quoted, number, both, either, read}

the_names_of_sets : (named_of (codes "int") ≡ Some sets.Int) × (named_of (codes "string") ≡ Some sets.Text) × (named_of (codes "bool") ≡ Some sets.Bool) × (named_of (codes "int8") ≡ Some sets.Int8) × (named_of (codes "int16") ≡ Some sets.Int16) × (named_of (codes "int32") ≡ Some sets.Int32) × (named_of (codes "int64") ≡ Some sets.Int64) × (named_of (codes "uint8") ≡ Some sets.Uint8) × (named_of (codes "uint16") ≡ Some sets.Uint16) × (named_of (codes "uint32") ≡ Some sets.Uint32) × (named_of (codes "uint") ≡ Some sets.Uint)
the_names_of_sets = (refl, refl, refl, refl, refl, refl, refl, refl, refl, refl, refl)

no_names_of_sets : (named_of (codes "uint64") ≡ None) × (named_of (codes "number") ≡ None) × (named_of (codes "float") ≡ None) × (named_of (codes "Int") ≡ None) × (named_of (codes "null") ≡ None) × (named_of [] ≡ None)
no_names_of_sets = (refl, refl, refl, refl, refl, refl)

the_names_of_scalars : (is_literal (codes "true") ≡ true) × (is_literal (codes "false") ≡ true) × (is_literal (codes "null") ≡ true) × (is_literal (codes "int") ≡ false) × (is_literal (codes "True") ≡ false)
the_names_of_scalars = (refl, refl, refl, refl, refl)

known_names : (Says (codes "a: int & true | null") (λ es. name_faults es ≡ [])) × (Says (codes "a: _") (λ es. name_faults es ≡ [])) × (Says (codes "a: close({})") (λ es. name_faults es ≡ []))
unfolding lexed
known_names = ((_, read _ (file (field (label (codes "a") Regular) [] (either (branch false 3 (both ((name (Plain (codes "int")) 3) ∷ (name (Plain (codes "true")) 9) ∷ [])) ∷ branch false 16 (name (Plain (codes "null")) 16) ∷ [])) ∷ [])) refl (search rules) (search rules), refl), (_, read _ (file (field (label (codes "a") Regular) [] (name (Hidden (codes "_")) 3) ∷ [])) refl (search rules) (search rules), refl), (_, read _ (file (field (label (codes "a") Regular) [] (close 3 (entries_in []) false false) ∷ [])) refl (search rules) (search rules), refl))

an_unknown_name : (Says (codes "a: number") (λ es. name_faults es ≡ refuse_name UnknownName 3)) × (Says (codes "a: #B") (λ es. name_faults es ≡ refuse_name UnknownName 3)) × (Says (codes "a: _b") (λ es. name_faults es ≡ refuse_name UnknownName 3)) × (Says (codes "a: _#B") (λ es. name_faults es ≡ refuse_name UnknownName 3))
unfolding lexed
an_unknown_name = ((_, read _ (file (field (label (codes "a") Regular) [] (name (Plain (codes "number")) 3) ∷ [])) refl (search rules) (search rules), refl), (_, read _ (file (field (label (codes "a") Regular) [] (name (Definition (codes "#B")) 3) ∷ [])) refl (search rules) (search rules), refl), (_, read _ (file (field (label (codes "a") Regular) [] (name (Hidden (codes "_b")) 3) ∷ [])) refl (search rules) (search rules), refl), (_, read _ (file (field (label (codes "a") Regular) [] (name (Hidden (codes "_#B")) 3) ∷ [])) refl (search rules) (search rules), refl))

a_reference_to_a_field : (Says (codes "a: 1, b: a") (λ es. name_faults es ≡ refuse_name FieldReference 9)) × (Says (codes "a: b, b: 1") (λ es. name_faults es ≡ refuse_name FieldReference 3)) × (Says (codes "a: a") (λ es. name_faults es ≡ refuse_name FieldReference 3))
unfolding lexed
a_reference_to_a_field = ((_, read _ (file (field (label (codes "a") Regular) [] (number 1) ∷ field (label (codes "b") Regular) [] (name (Plain (codes "a")) 9) ∷ [])) refl (search rules) (search rules), refl), (_, read _ (file (field (label (codes "a") Regular) [] (name (Plain (codes "b")) 3) ∷ field (label (codes "b") Regular) [] (number 1) ∷ [])) refl (search rules) (search rules), refl), (_, read _ (file (field (label (codes "a") Regular) [] (name (Plain (codes "a")) 3) ∷ [])) refl (search rules) (search rules), refl))

-- but neither a literal nor a quoted label does
a_label_hides_the_name_of_a_set : (Says (codes "int: 1, a: int") (λ es. name_faults es ≡ refuse_name FieldReference 11)) × (Says (codes "true: 1, a: true") (λ es. name_faults es ≡ [])) × (Says (codes "\"int\": 1, a: int") (λ es. name_faults es ≡ []))
unfolding lexed
a_label_hides_the_name_of_a_set = ((_, read _ (file (field (label (codes "int") Regular) [] (number 1) ∷ field (label (codes "a") Regular) [] (name (Plain (codes "int")) 11) ∷ [])) refl (search rules) (search rules), refl), (_, read _ (file (field (label (codes "true") Regular) [] (number 1) ∷ field (label (codes "a") Regular) [] (name (Plain (codes "true")) 12) ∷ [])) refl (search rules) (search rules), refl), (_, read _ (file (field (quoted (codes "int") Regular) [] (number 1) ∷ field (label (codes "a") Regular) [] (name (Plain (codes "int")) 13) ∷ [])) refl (search rules) (search rules), refl))

a_label_hides_close : (Says (codes "close: 1, a: close({})") (λ es. name_faults es ≡ refuse_name FieldReference 13)) × (Says (codes "\"close\": 1, a: close({})") (λ es. name_faults es ≡ []))
unfolding lexed
a_label_hides_close = ((_, read _ (file (field (label (codes "close") Regular) [] (number 1) ∷ field (label (codes "a") Regular) [] (close 13 (entries_in []) false false) ∷ [])) refl (search rules) (search rules), refl), (_, read _ (file (field (quoted (codes "close") Regular) [] (number 1) ∷ field (label (codes "a") Regular) [] (close 15 (entries_in []) false false) ∷ [])) refl (search rules) (search rules), refl))

close_without_a_parenthesis : Says (codes "a: close") (λ es. name_faults es ≡ refuse_name UnknownName 3)
unfolding lexed
close_without_a_parenthesis = (_, read _ (file (field (label (codes "a") Regular) [] (name (Plain (codes "close")) 3) ∷ [])) refl (search rules) (search rules), refl)

-- and one beside it is not
a_struct_around_is_in_scope : (Says (codes "a: {b: 1, c: {d: b}}") (λ es. name_faults es ≡ refuse_name FieldReference 17)) × (Says (codes "a: {b: 1}, c: b") (λ es. name_faults es ≡ refuse_name UnknownName 14))
unfolding lexed
a_struct_around_is_in_scope = ((_, read _ (file (field (label (codes "a") Regular) [] (struct (entries_in (field (label (codes "b") Regular) [] (number 1) ∷ field (label (codes "c") Regular) [] (struct (entries_in (field (label (codes "d") Regular) [] (name (Plain (codes "b")) 17) ∷ [])) false) ∷ [])) false) ∷ [])) refl (search rules) (search rules), refl), (_, read _ (file (field (label (codes "a") Regular) [] (struct (entries_in (field (label (codes "b") Regular) [] (number 1) ∷ [])) false) ∷ field (label (codes "c") Regular) [] (name (Plain (codes "b")) 14) ∷ [])) refl (search rules) (search rules), refl))

-- but a struct at the same place is not
a_chain_is_in_scope : (Says (codes "a: b: b") (λ es. name_faults es ≡ refuse_name FieldReference 6)) × (Says (codes "a: b: 1, a: c: b") (λ es. name_faults es ≡ refuse_name UnknownName 15))
unfolding lexed
a_chain_is_in_scope = ((_, read _ (file (field (label (codes "a") Regular) ((label (codes "b") Regular) ∷ []) (name (Plain (codes "b")) 6) ∷ [])) refl (search rules) (search rules), refl), (_, read _ (file (field (label (codes "a") Regular) ((label (codes "b") Regular) ∷ []) (number 1) ∷ field (label (codes "a") Regular) ((label (codes "c") Regular) ∷ []) (name (Plain (codes "b")) 15) ∷ [])) refl (search rules) (search rules), refl))

the_file_encloses_its_definitions : (Says (codes "a: 1, #B: a") (λ es. name_faults es ≡ refuse_name FieldReference 10)) × (Says (codes "#B: {c: 1}, a: c") (λ es. name_faults es ≡ refuse_name UnknownName 15))
unfolding lexed
the_file_encloses_its_definitions = ((_, read _ (file (field (label (codes "a") Regular) [] (number 1) ∷ definition (codes "#B") 6 [] (name (Plain (codes "a")) 10) ∷ [])) refl (search rules) (search rules), refl), (_, read _ (file (definition (codes "#B") 0 [] (struct (entries_in (field (label (codes "c") Regular) [] (number 1) ∷ [])) false) ∷ field (label (codes "a") Regular) [] (name (Plain (codes "c")) 15) ∷ [])) refl (search rules) (search rules), refl))

-- and from a struct
a_definition_may_be_used_before_it_stands : Says (codes "a: {b: #C}, #C: 1") (λ es. name_faults es ≡ [])
unfolding lexed
a_definition_may_be_used_before_it_stands = (_, read _ (file (field (label (codes "a") Regular) [] (struct (entries_in (field (label (codes "b") Regular) [] (name (Definition (codes "#C")) 7) ∷ [])) false) ∷ definition (codes "#C") 12 [] (number 1) ∷ [])) refl (search rules) (search rules), refl)

-- elements, a rest, parts, terms, parentheses, close
each_place_is_looked_at : (Says (codes "a: [b, ...c]") (λ es. name_faults es ≡ refuse_name UnknownName 4 ++ refuse_name UnknownName 10)) × (Says (codes "a: (b) & c | d") (λ es. name_faults es ≡ refuse_name UnknownName 4 ++ refuse_name UnknownName 9 ++ refuse_name UnknownName 13)) × (Says (codes "a: close({b: c})") (λ es. name_faults es ≡ refuse_name UnknownName 13))
unfolding lexed
each_place_is_looked_at = ((_, read _ (file (field (label (codes "a") Regular) [] (list (elements_of ((name (Plain (codes "b")) 4) ∷ [])) (each_rest (name (Plain (codes "c")) 10)) false) ∷ [])) refl (search rules) (search rules), refl), (_, read _ (file (field (label (codes "a") Regular) [] (either (branch false 3 (both ((parenthesis (name (Plain (codes "b")) 4) false) ∷ (name (Plain (codes "c")) 9) ∷ [])) ∷ branch false 13 (name (Plain (codes "d")) 13) ∷ [])) ∷ [])) refl (search rules) (search rules), refl), (_, read _ (file (field (label (codes "a") Regular) [] (close 3 (entries_in (field (label (codes "b") Regular) [] (name (Plain (codes "c")) 13) ∷ [])) false false) ∷ [])) refl (search rules) (search rules), refl))
