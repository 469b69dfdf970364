-- What texts mean: names are replaced, and parentheses and places are gone.
use Rattle.std.proofs.Common.{◌≡◌, ℕ, true, false, List, [], ◌∷◌, Some, refl, rules}
use Rattle.std.specs.Prelude.{codes}
use Rattle.cue_scope.specs.declared.named.Named.TheVariants as sets
use Rattle.cue_scope.specs.Core as core
use Rattle.cue_scope.specs.Core.{Core, null, truth, top, named, closed, no_cores, ends, goes_on, each, no_choices, choice, Members, no_members, member, dots}
use Rattle.cue_scope.specs.Meaning.{meant_text, meaning_within}
use Rattle.cue_scope.specs.Terms.{bad_terms}
use Rattle.cue_syntax.specs.declared.tree.Comparison.TheVariants.{Less, AtMost}
use Rattle.cue_syntax.specs.declared.tree.Identifier.TheVariants.{Plain, Definition, Hidden}
use Rattle.cue_syntax.specs.declared.tree.Mark.TheVariants.{Regular, Optional, Required}
use Rattle.cue_syntax.specs.declared.tree.Sign.TheVariants.{Absent, Minus}
use Rattle.cue_syntax.specs.Syntax.{name, integer, text, bottom, bound, other_integer, other_text, parenthesis, struct, close, list, branch, ellipsis, field, definition, no_rest, any_rest, each_rest, elements_of, entries_in}
use Rattle.text_facts.proofs.OnLiterals.{lexed}
use Rattle.text_facts.proofs.Trees.{Says, file, label, quoted, signed, number, both, either, read}

-- a regular field before others
abbrev with : List ℕ → Core → Members → Members
with l c ms = member l Regular c ms

abbrev one : List ℕ → Core → Core
one l c = core.struct (with l c no_members)

abbrev just : ℕ → Core
just n = core.integer (signed Absent n)

abbrev two : Core → Core → Core
two c d = core.conjunction (core.core c (core.core d no_cores))

no_declarations : (Says (codes "") (λ es. meant_text es ≡ core.struct no_members)) × (Says (codes "package a") (λ es. meant_text es ≡ core.struct no_members)) × (Says (codes "...") (λ es. meant_text es ≡ core.struct no_members))
unfolding lexed
no_declarations = ((_, read _ (file []) refl (search rules) (search rules), refl), (_, read _ (record { package_clause = (Some (record { name = (Plain (codes "a")); comma = false })); declarations = entries_in []; comma = false }) refl (search rules) (search rules), refl), (_, read _ (file (ellipsis ∷ [])) refl (search rules) (search rules), refl))

words_of_the_language : (Says (codes "a: null") (λ es. meant_text es ≡ one (codes "a") (null))) × (Says (codes "a: true") (λ es. meant_text es ≡ one (codes "a") (truth true))) × (Says (codes "a: false") (λ es. meant_text es ≡ one (codes "a") (truth false))) × (Says (codes "a: int8") (λ es. meant_text es ≡ one (codes "a") (named sets.Int8))) × (Says (codes "a: _") (λ es. meant_text es ≡ one (codes "a") (top))) × (Says (codes "a: _|_") (λ es. meant_text es ≡ one (codes "a") (core.bottom)))
unfolding lexed
words_of_the_language = ((_, read _ (file (field (label (codes "a") Regular) [] (name (Plain (codes "null")) 3) ∷ [])) refl (search rules) (search rules), refl), (_, read _ (file (field (label (codes "a") Regular) [] (name (Plain (codes "true")) 3) ∷ [])) refl (search rules) (search rules), refl), (_, read _ (file (field (label (codes "a") Regular) [] (name (Plain (codes "false")) 3) ∷ [])) refl (search rules) (search rules), refl), (_, read _ (file (field (label (codes "a") Regular) [] (name (Plain (codes "int8")) 3) ∷ [])) refl (search rules) (search rules), refl), (_, read _ (file (field (label (codes "a") Regular) [] (name (Hidden (codes "_")) 3) ∷ [])) refl (search rules) (search rules), refl), (_, read _ (file (field (label (codes "a") Regular) [] bottom ∷ [])) refl (search rules) (search rules), refl))

literals : (Says (codes "a: -1") (λ es. meant_text es ≡ one (codes "a") (core.integer (signed Minus 1)))) × (Says (codes "a: \"x\"") (λ es. meant_text es ≡ one (codes "a") (core.text (codes "x")))) × (Says (codes "a: <=2") (λ es. meant_text es ≡ one (codes "a") (core.bound AtMost (signed Absent 2)))) × (Says (codes "a: !=2") (λ es. meant_text es ≡ one (codes "a") (core.other_integer (signed Absent 2)))) × (Says (codes "a: !=\"x\"") (λ es. meant_text es ≡ one (codes "a") (core.other_text (codes "x"))))
unfolding lexed
literals = ((_, read _ (file (field (label (codes "a") Regular) [] (integer (signed Minus 1)) ∷ [])) refl (search rules) (search rules), refl), (_, read _ (file (field (label (codes "a") Regular) [] (text (codes "x")) ∷ [])) refl (search rules) (search rules), refl), (_, read _ (file (field (label (codes "a") Regular) [] (bound AtMost (signed Absent 2)) ∷ [])) refl (search rules) (search rules), refl), (_, read _ (file (field (label (codes "a") Regular) [] (other_integer (signed Absent 2)) ∷ [])) refl (search rules) (search rules), refl), (_, read _ (file (field (label (codes "a") Regular) [] (other_text (codes "x")) ∷ [])) refl (search rules) (search rules), refl))

parentheses_mean_nothing : (Says (codes "a: (1)") (λ es. meant_text es ≡ one (codes "a") (just 1))) × (Says (codes "a: (1 & 2) & 3") (λ es. meant_text es ≡ one (codes "a") (two (two (just 1) (just 2)) (just 3))))
unfolding lexed
parentheses_mean_nothing = ((_, read _ (file (field (label (codes "a") Regular) [] (parenthesis (number 1) false) ∷ [])) refl (search rules) (search rules), refl), (_, read _ (file (field (label (codes "a") Regular) [] (both ((parenthesis (both ((number 1) ∷ (number 2) ∷ [])) false) ∷ (number 3) ∷ [])) ∷ [])) refl (search rules) (search rules), refl))

terms_and_their_marks : Says (codes "a: *1 | 2") (λ es. meant_text es ≡ one (codes "a") (core.disjunction (choice true (just 1) (choice false (just 2) no_choices))))
unfolding lexed
terms_and_their_marks = (_, read _ (file (field (label (codes "a") Regular) [] (either (branch true 4 (number 1) ∷ branch false 8 (number 2) ∷ [])) ∷ [])) refl (search rules) (search rules), refl)

a_chain_is_nested_structs : Says (codes "a: b?: 1") (λ es. meant_text es ≡ one (codes "a") (core.struct (member (codes "b") Optional (just 1) no_members)))
unfolding lexed
a_chain_is_nested_structs = (_, read _ (file (field (label (codes "a") Regular) ((label (codes "b") Optional) ∷ []) (number 1) ∷ [])) refl (search rules) (search rules), refl)

a_quoted_label_is_the_label : Says (codes "\"a\"!: 1") (λ es. meant_text es ≡ core.struct (member (codes "a") Required (just 1) no_members))
unfolding lexed
a_quoted_label_is_the_label = (_, read _ (file (field (quoted (codes "a") Required) [] (number 1) ∷ [])) refl (search rules) (search rules), refl)

structs_and_lists : (Says (codes "a: {b: 1, ...}") (λ es. meant_text es ≡ one (codes "a") (core.struct (with (codes "b") (just 1) (dots no_members))))) × (Says (codes "a: close({...})") (λ es. meant_text es ≡ one (codes "a") (core.close (dots no_members)))) × (Says (codes "a: [1]") (λ es. meant_text es ≡ one (codes "a") (core.list (core.element (just 1) ends)))) × (Says (codes "a: [1, ...]") (λ es. meant_text es ≡ one (codes "a") (core.list (core.element (just 1) goes_on)))) × (Says (codes "a: [...1]") (λ es. meant_text es ≡ one (codes "a") (core.list (each (just 1)))))
unfolding lexed
structs_and_lists = ((_, read _ (file (field (label (codes "a") Regular) [] (struct (entries_in (field (label (codes "b") Regular) [] (number 1) ∷ ellipsis ∷ [])) false) ∷ [])) refl (search rules) (search rules), refl), (_, read _ (file (field (label (codes "a") Regular) [] (close 3 (entries_in (ellipsis ∷ [])) false false) ∷ [])) refl (search rules) (search rules), refl), (_, read _ (file (field (label (codes "a") Regular) [] (list (elements_of ((number 1) ∷ [])) no_rest false) ∷ [])) refl (search rules) (search rules), refl), (_, read _ (file (field (label (codes "a") Regular) [] (list (elements_of ((number 1) ∷ [])) any_rest false) ∷ [])) refl (search rules) (search rules), refl), (_, read _ (file (field (label (codes "a") Regular) [] (list (elements_of []) (each_rest (number 1)) false) ∷ [])) refl (search rules) (search rules), refl))

-- with the chain of labels before it, and the uses in it
a_use_is_the_body_closed : (Says (codes "#A: 1, a: #A") (λ es. meant_text es ≡ one (codes "a") (closed (just 1)))) × (Says (codes "#A: b: 1, a: #A") (λ es. meant_text es ≡ one (codes "a") (closed (one (codes "b") (just 1))))) × (Says (codes "a: #A, #A: {b: #B}, #B: 2") (λ es. meant_text es ≡ one (codes "a") (closed (one (codes "b") (closed (just 2))))))
unfolding lexed meaning_within
a_use_is_the_body_closed = ((_, read _ (file (definition (codes "#A") 0 [] (number 1) ∷ field (label (codes "a") Regular) [] (name (Definition (codes "#A")) 10) ∷ [])) refl (search rules) (search rules), refl), (_, read _ (file (definition (codes "#A") 0 ((label (codes "b") Regular) ∷ []) (number 1) ∷ field (label (codes "a") Regular) [] (name (Definition (codes "#A")) 13) ∷ [])) refl (search rules) (search rules), refl), (_, read _ (file (field (label (codes "a") Regular) [] (name (Definition (codes "#A")) 3) ∷ definition (codes "#A") 7 [] (struct (entries_in (field (label (codes "b") Regular) [] (name (Definition (codes "#B")) 15) ∷ [])) false) ∷ definition (codes "#B") 20 [] (number 2) ∷ [])) refl (search rules) (search rules), refl))

definitions_alone_mean_nothing : Says (codes "#A: 1") (λ es. meant_text es ≡ core.struct no_members)
unfolding lexed
definitions_alone_mean_nothing = (_, read _ (file (definition (codes "#A") 0 [] (number 1) ∷ [])) refl (search rules) (search rules), refl)

-- stands in no legal text
a_name_without_a_meaning : (Says (codes "a: number") (λ es. meant_text es ≡ one (codes "a") (core.bottom))) × (Says (codes "a: #A") (λ es. meant_text es ≡ one (codes "a") (core.bottom))) × (Says (codes "#A: #A, a: #A") (λ es. meant_text es ≡ one (codes "a") (closed core.bottom)))
unfolding lexed meaning_within
a_name_without_a_meaning = ((_, read _ (file (field (label (codes "a") Regular) [] (name (Plain (codes "number")) 3) ∷ [])) refl (search rules) (search rules), refl), (_, read _ (file (field (label (codes "a") Regular) [] (name (Definition (codes "#A")) 3) ∷ [])) refl (search rules) (search rules), refl), (_, read _ (file (definition (codes "#A") 0 [] (name (Definition (codes "#A")) 4) ∷ field (label (codes "a") Regular) [] (name (Definition (codes "#A")) 11) ∷ [])) refl (search rules) (search rules), refl))

scalar_terms : (Says (codes "a: 1 | \"x\" | int & <3 | _|_") (λ es. bad_terms es ≡ [])) × (Says (codes "a: (null | true)") (λ es. bad_terms es ≡ [])) × (Says (codes "#A: 1, a: #A | 2") (λ es. bad_terms es ≡ []))
unfolding lexed meaning_within
scalar_terms = ((_, read _ (file (field (label (codes "a") Regular) [] (either (branch false 3 (number 1) ∷ branch false 7 (text (codes "x")) ∷ branch false 13 (both ((name (Plain (codes "int")) 13) ∷ (bound Less (signed Absent 3)) ∷ [])) ∷ branch false 24 bottom ∷ [])) ∷ [])) refl (search rules) (search rules), refl), (_, read _ (file (field (label (codes "a") Regular) [] (parenthesis (either (branch false 4 (name (Plain (codes "null")) 4) ∷ branch false 11 (name (Plain (codes "true")) 11) ∷ [])) false) ∷ [])) refl (search rules) (search rules), refl), (_, read _ (file (definition (codes "#A") 0 [] (number 1) ∷ field (label (codes "a") Regular) [] (either (branch false 10 (name (Definition (codes "#A")) 10) ∷ branch false 15 (number 2) ∷ [])) ∷ [])) refl (search rules) (search rules), refl))

-- at the term behind its mark, and an outer one before those in it
terms_that_are_not_scalar : (Says (codes "a: {} | 1") (λ es. bad_terms es ≡ 3 ∷ [])) × (Says (codes "a: *[] | [1]") (λ es. bad_terms es ≡ 4 ∷ 9 ∷ [])) × (Says (codes "a: _ | 1") (λ es. bad_terms es ≡ 3 ∷ [])) × (Says (codes "#A: {}, a: 1 | #A") (λ es. bad_terms es ≡ 15 ∷ [])) × (Says (codes "a: ({} | 1) | 2") (λ es. bad_terms es ≡ 3 ∷ 4 ∷ []))
unfolding lexed meaning_within
terms_that_are_not_scalar = ((_, read _ (file (field (label (codes "a") Regular) [] (either (branch false 3 (struct (entries_in []) false) ∷ branch false 8 (number 1) ∷ [])) ∷ [])) refl (search rules) (search rules), refl), (_, read _ (file (field (label (codes "a") Regular) [] (either (branch true 4 (list (elements_of []) no_rest false) ∷ branch false 9 (list (elements_of ((number 1) ∷ [])) no_rest false) ∷ [])) ∷ [])) refl (search rules) (search rules), refl), (_, read _ (file (field (label (codes "a") Regular) [] (either (branch false 3 (name (Hidden (codes "_")) 3) ∷ branch false 7 (number 1) ∷ [])) ∷ [])) refl (search rules) (search rules), refl), (_, read _ (file (definition (codes "#A") 0 [] (struct (entries_in []) false) ∷ field (label (codes "a") Regular) [] (either (branch false 11 (number 1) ∷ branch false 15 (name (Definition (codes "#A")) 15) ∷ [])) ∷ [])) refl (search rules) (search rules), refl), (_, read _ (file (field (label (codes "a") Regular) [] (either (branch false 3 (parenthesis (either (branch false 4 (struct (entries_in []) false) ∷ branch false 9 (number 1) ∷ [])) false) ∷ branch false 14 (number 2) ∷ [])) ∷ [])) refl (search rules) (search rules), refl))
