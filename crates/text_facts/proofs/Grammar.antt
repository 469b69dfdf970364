-- Which texts the grammar has, each with its tree, and which texts it has no tree for.
use Rattle.std.proofs.Common.{true, false, [], ◌∷◌, Some, None, refl, rules}
use Rattle.std.specs.Prelude.{codes}
use Rattle.cue_syntax.specs.declared.tree.Comparison.TheVariants.{Less, AtMost, Greater, AtLeast}
use Rattle.cue_syntax.specs.declared.tree.Identifier.TheVariants.{Plain, Definition, Hidden}
use Rattle.cue_syntax.specs.declared.tree.Mark.TheVariants.{Regular, Optional, Required}
use Rattle.cue_syntax.specs.declared.tree.Sign.TheVariants.{Absent, Minus, Plus}
use Rattle.cue_syntax.specs.Syntax.{name, integer, text, bottom, bound, other_integer, other_text, parenthesis, struct, close, list, branch, ellipsis, field, definition, no_rest, any_rest, each_rest, elements_of, entries_in}
use Rattle.text_facts.proofs.OnLiterals.{lexed}
use Rattle.text_facts.proofs.Trees.{IsTreeOf, HasNoTree, file, label, quoted, signed, number, both, either, read, unread}

nothing_at_all : (IsTreeOf (codes "") (file [])) × (IsTreeOf (codes "// a") (file []))
unfolding lexed
nothing_at_all = (read _ _ refl (search rules) (search rules), read _ _ refl (search rules) (search rules))

a_field : IsTreeOf (codes "a: 1") (file (field (label (codes "a") Regular) [] (number 1) ∷ []))
unfolding lexed
a_field = read _ _ refl (search rules) (search rules)

a_comma_behind_the_last : (IsTreeOf (codes "a: 1,") (record { package_clause = None; declarations = entries_in (field (label (codes "a") Regular) [] (number 1) ∷ []); comma = true })) × (IsTreeOf (codes "a: 1\n") (record { package_clause = None; declarations = entries_in (field (label (codes "a") Regular) [] (number 1) ∷ []); comma = true }))
unfolding lexed
a_comma_behind_the_last = (read _ _ refl (search rules) (search rules), read _ _ refl (search rules) (search rules))

marks_of_labels : IsTreeOf (codes "a?: 1, b!: 2") (file (field (label (codes "a") Optional) [] (number 1) ∷ field (label (codes "b") Required) [] (number 2) ∷ []))
unfolding lexed
marks_of_labels = read _ _ refl (search rules) (search rules)

a_quoted_label : IsTreeOf (codes "\"a b\": 1") (file (field (quoted (codes "a b") Regular) [] (number 1) ∷ []))
unfolding lexed
a_quoted_label = read _ _ refl (search rules) (search rules)

a_chain_of_labels : IsTreeOf (codes "a: b?: \"c\": 1") (file (field (label (codes "a") Regular) ((label (codes "b") Optional) ∷ (quoted (codes "c") Regular) ∷ []) (number 1) ∷ []))
unfolding lexed
a_chain_of_labels = read _ _ refl (search rules) (search rules)

keywords_are_labels : IsTreeOf (codes "for: true: 1, package: 2") (file (field (label (codes "for") Regular) ((label (codes "true") Regular) ∷ []) (number 1) ∷ field (label (codes "package") Regular) [] (number 2) ∷ []))
unfolding lexed
keywords_are_labels = read _ _ refl (search rules) (search rules)

-- its name, and whether a comma stands behind it
a_clause_of_a_package : (IsTreeOf (codes "package a") (record { package_clause = (Some (record { name = (Plain (codes "a")); comma = false })); declarations = entries_in []; comma = false })) × (IsTreeOf (codes "package _b\na: 1") (record { package_clause = (Some (record { name = (Hidden (codes "_b")); comma = true })); declarations = entries_in (field (label (codes "a") Regular) [] (number 1) ∷ []); comma = false }))
unfolding lexed
a_clause_of_a_package = (read _ _ refl (search rules) (search rules), read _ _ refl (search rules) (search rules))

definitions : IsTreeOf (codes "#A: b: 1, a: #A") (file (definition (codes "#A") 0 ((label (codes "b") Regular) ∷ []) (number 1) ∷ field (label (codes "a") Regular) [] (name (Definition (codes "#A")) 13) ∷ []))
unfolding lexed
definitions = read _ _ refl (search rules) (search rules)

scalars : IsTreeOf (codes "a: \"x\", b: -1, c: +1, d: _|_, e: null, f: _") (file (field (label (codes "a") Regular) [] (text (codes "x")) ∷ field (label (codes "b") Regular) [] (integer (signed Minus 1)) ∷ field (label (codes "c") Regular) [] (integer (signed Plus 1)) ∷ field (label (codes "d") Regular) [] bottom ∷ field (label (codes "e") Regular) [] (name (Plain (codes "null")) 33) ∷ field (label (codes "f") Regular) [] (name (Hidden (codes "_")) 42) ∷ []))
unfolding lexed
scalars = read _ _ refl (search rules) (search rules)

bounds : IsTreeOf (codes "a: <1, b: <=-1, c: >1, d: >=1, e: !=1, f: !=\"x\"") (file (field (label (codes "a") Regular) [] (bound Less (signed Absent 1)) ∷ field (label (codes "b") Regular) [] (bound AtMost (signed Minus 1)) ∷ field (label (codes "c") Regular) [] (bound Greater (signed Absent 1)) ∷ field (label (codes "d") Regular) [] (bound AtLeast (signed Absent 1)) ∷ field (label (codes "e") Regular) [] (other_integer (signed Absent 1)) ∷ field (label (codes "f") Regular) [] (other_text (codes "x")) ∷ []))
unfolding lexed
bounds = read _ _ refl (search rules) (search rules)

a_conjunction_binds_before_a_disjunction : IsTreeOf (codes "a: 1 & 2 | 3") (file (field (label (codes "a") Regular) [] (either (branch false 3 (both ((number 1) ∷ (number 2) ∷ [])) ∷ branch false 11 (number 3) ∷ [])) ∷ []))
unfolding lexed
a_conjunction_binds_before_a_disjunction = read _ _ refl (search rules) (search rules)

marked_terms : (IsTreeOf (codes "a: *1 | 2") (file (field (label (codes "a") Regular) [] (either (branch true 4 (number 1) ∷ branch false 8 (number 2) ∷ [])) ∷ []))) × (IsTreeOf (codes "a: 1 | *<2") (file (field (label (codes "a") Regular) [] (either (branch false 3 (number 1) ∷ branch true 8 (bound Less (signed Absent 2)) ∷ [])) ∷ [])))
unfolding lexed
marked_terms = (read _ _ refl (search rules) (search rules), read _ _ refl (search rules) (search rules))

-- and a comma in them
parentheses_are_kept : (IsTreeOf (codes "a: (1 | 2) & 3") (file (field (label (codes "a") Regular) [] (both ((parenthesis (either (branch false 4 (number 1) ∷ branch false 8 (number 2) ∷ [])) false) ∷ (number 3) ∷ [])) ∷ []))) × (IsTreeOf (codes "a: (1,)") (file (field (label (codes "a") Regular) [] (parenthesis (number 1) true) ∷ [])))
unfolding lexed
parentheses_are_kept = (read _ _ refl (search rules) (search rules), read _ _ refl (search rules) (search rules))

structs : (IsTreeOf (codes "a: {}") (file (field (label (codes "a") Regular) [] (struct (entries_in []) false) ∷ []))) × (IsTreeOf (codes "a: {b: 1, ...}") (file (field (label (codes "a") Regular) [] (struct (entries_in (field (label (codes "b") Regular) [] (number 1) ∷ ellipsis ∷ [])) false) ∷ []))) × (IsTreeOf (codes "a: {b: 1\n}") (file (field (label (codes "a") Regular) [] (struct (entries_in (field (label (codes "b") Regular) [] (number 1) ∷ [])) true) ∷ [])))
unfolding lexed
structs = (read _ _ refl (search rules) (search rules), read _ _ refl (search rules) (search rules), read _ _ refl (search rules) (search rules))

lists : (IsTreeOf (codes "a: []") (file (field (label (codes "a") Regular) [] (list (elements_of []) no_rest false) ∷ []))) × (IsTreeOf (codes "a: [1, 2]") (file (field (label (codes "a") Regular) [] (list (elements_of ((number 1) ∷ (number 2) ∷ [])) no_rest false) ∷ []))) × (IsTreeOf (codes "a: [1,]") (file (field (label (codes "a") Regular) [] (list (elements_of ((number 1) ∷ [])) no_rest true) ∷ [])))
unfolding lexed
lists = (read _ _ refl (search rules) (search rules), read _ _ refl (search rules) (search rules), read _ _ refl (search rules) (search rules))

lists_that_go_on : (IsTreeOf (codes "a: [...]") (file (field (label (codes "a") Regular) [] (list (elements_of []) any_rest false) ∷ []))) × (IsTreeOf (codes "a: [1, ...]") (file (field (label (codes "a") Regular) [] (list (elements_of ((number 1) ∷ [])) any_rest false) ∷ []))) × (IsTreeOf (codes "a: [...int]") (file (field (label (codes "a") Regular) [] (list (elements_of []) (each_rest (name (Plain (codes "int")) 7)) false) ∷ []))) × (IsTreeOf (codes "a: [1, ...2 | 3,]") (file (field (label (codes "a") Regular) [] (list (elements_of ((number 1) ∷ [])) (each_rest (either (branch false 10 (number 2) ∷ branch false 14 (number 3) ∷ []))) true) ∷ [])))
unfolding lexed
lists_that_go_on = (read _ _ refl (search rules) (search rules), read _ _ refl (search rules) (search rules), read _ _ refl (search rules) (search rules), read _ _ refl (search rules) (search rules))

-- and close as a name
a_closed_struct : (IsTreeOf (codes "a: close({b: 1})") (file (field (label (codes "a") Regular) [] (close 3 (entries_in (field (label (codes "b") Regular) [] (number 1) ∷ [])) false false) ∷ []))) × (IsTreeOf (codes "a: close({},)") (file (field (label (codes "a") Regular) [] (close 3 (entries_in []) false true) ∷ []))) × (IsTreeOf (codes "a: close") (file (field (label (codes "a") Regular) [] (name (Plain (codes "close")) 3) ∷ [])))
unfolding lexed
a_closed_struct = (read _ _ refl (search rules) (search rules), read _ _ refl (search rules) (search rules), read _ _ refl (search rules) (search rules))

an_ellipsis_at_the_top : IsTreeOf (codes "..., a: 1") (file (ellipsis ∷ field (label (codes "a") Regular) [] (number 1) ∷ []))
unfolding lexed
an_ellipsis_at_the_top = read _ _ refl (search rules) (search rules)

no_default_alone : HasNoTree (codes "a: *1")
unfolding lexed
no_default_alone = unread _ _ refl refl

-- nor is a marked one a conjunction
no_term_is_a_disjunction : (HasNoTree (codes "a: *1 & 2 | 3")) × (HasNoTree (codes "a: **1 | 2"))
unfolding lexed
no_term_is_a_disjunction = (unread _ _ refl refl, unread _ _ refl refl)

a_field_has_a_value : (HasNoTree (codes "a:")) × (HasNoTree (codes "a")) × (HasNoTree (codes "a: ,")) × (HasNoTree (codes "a 1"))
unfolding lexed
a_field_has_a_value = (unread _ _ refl refl, unread _ _ refl refl, unread _ _ refl refl, unread _ _ refl refl)

no_mark_but_one : (HasNoTree (codes "a?!: 1")) × (HasNoTree (codes "a!?: 1"))
unfolding lexed
no_mark_but_one = (unread _ _ refl refl, unread _ _ refl refl)

no_two_commas : (HasNoTree (codes ",")) × (HasNoTree (codes "a: 1,, b: 2")) × (HasNoTree (codes "a: [,]")) × (HasNoTree (codes "a: [1,,]")) × (HasNoTree (codes "a: {,}"))
unfolding lexed
no_two_commas = (unread _ _ refl refl, unread _ _ refl refl, unread _ _ refl refl, unread _ _ refl refl, unread _ _ refl refl)

keywords_are_no_operands : (HasNoTree (codes "a: for")) × (HasNoTree (codes "a: package")) × (HasNoTree (codes "a: [in]")) × (HasNoTree (codes "package"))
unfolding lexed
keywords_are_no_operands = (unread _ _ refl refl, unread _ _ refl refl, unread _ _ refl refl, unread _ _ refl refl)

no_package_with_a_sign : (HasNoTree (codes "package #a")) × (HasNoTree (codes "package _#a")) × (HasNoTree (codes "a: 1, package b"))
unfolding lexed
no_package_with_a_sign = (unread _ _ refl refl, unread _ _ refl refl, unread _ _ refl refl)

-- nor with a mark, nor in a chain
no_definition_in_a_struct : (HasNoTree (codes "a: {#B: 1}")) × (HasNoTree (codes "#A?: 1")) × (HasNoTree (codes "a: #B: 1"))
unfolding lexed
no_definition_in_a_struct = (unread _ _ refl refl, unread _ _ refl refl, unread _ _ refl refl)

no_hidden_label : (HasNoTree (codes "_a: 1")) × (HasNoTree (codes "a: _b: 1"))
unfolding lexed
no_hidden_label = (unread _ _ refl refl, unread _ _ refl refl)

no_embedding : (HasNoTree (codes "1")) × (HasNoTree (codes "{a: 1}")) × (HasNoTree (codes "a: {1}"))
unfolding lexed
no_embedding = (unread _ _ refl refl, unread _ _ refl refl, unread _ _ refl refl)

-- but of a list
no_typed_ellipsis_of_a_struct : (HasNoTree (codes "a: {...int}")) × (HasNoTree (codes "... int"))
unfolding lexed
no_typed_ellipsis_of_a_struct = (unread _ _ refl refl, unread _ _ refl refl)

-- and of a text only !=
no_bound_of_a_name : (HasNoTree (codes "a: <b")) × (HasNoTree (codes "a: <\"x\"")) × (HasNoTree (codes "a: <")) × (HasNoTree (codes "a: !=b"))
unfolding lexed
no_bound_of_a_name = (unread _ _ refl refl, unread _ _ refl refl, unread _ _ refl refl, unread _ _ refl refl)

-- and of a struct alone
no_call_but_close : (HasNoTree (codes "a: b(1)")) × (HasNoTree (codes "a: close()")) × (HasNoTree (codes "a: close(1)")) × (HasNoTree (codes "a: close({}, 1)"))
unfolding lexed
no_call_but_close = (unread _ _ refl refl, unread _ _ refl refl, unread _ _ refl refl, unread _ _ refl refl)

no_arithmetic : (HasNoTree (codes "a: 1 + 2")) × (HasNoTree (codes "a: - -1")) × (HasNoTree (codes "a: -\"x\""))
unfolding lexed
no_arithmetic = (unread _ _ refl refl, unread _ _ refl refl, unread _ _ refl refl)

what_opens_closes : (HasNoTree (codes "a: {")) × (HasNoTree (codes "a: }")) × (HasNoTree (codes "a: (1")) × (HasNoTree (codes "a: [1)")) × (HasNoTree (codes "a: ()"))
unfolding lexed
what_opens_closes = (unread _ _ refl refl, unread _ _ refl refl, unread _ _ refl refl, unread _ _ refl refl, unread _ _ refl refl)

nothing_behind_a_rest : (HasNoTree (codes "a: [..., 1]")) × (HasNoTree (codes "a: [... 1 2]"))
unfolding lexed
nothing_behind_a_rest = (unread _ _ refl refl, unread _ _ refl refl)
