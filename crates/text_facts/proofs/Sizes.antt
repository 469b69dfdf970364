-- How large texts are, and how deep.
use Rattle.std.proofs.Common.{◌≡◌, true, false, [], ◌∷◌, Some, refl, rules}
use Rattle.std.specs.Prelude.{codes}
use Rattle.cue_scope.specs.Meaning.{meant_text, meaning_within}
use Rattle.cue_scope.specs.Limits.{size, depth}
use Rattle.cue_syntax.specs.Grammar.{levels_of_entries}
use Rattle.cue_syntax.specs.declared.tree.Comparison.TheVariants.{Less}
use Rattle.cue_syntax.specs.declared.tree.Identifier.TheVariants.{Plain, Definition}
use Rattle.cue_syntax.specs.declared.tree.Mark.TheVariants.{Regular}
use Rattle.cue_syntax.specs.declared.tree.Sign.TheVariants.{Absent}
use Rattle.cue_syntax.specs.Syntax.{name, bound, parenthesis, struct, close, list, branch, ellipsis, field, definition, no_rest, any_rest, each_rest, elements_of, entries_in}
use Rattle.text_facts.proofs.OnLiterals.{lexed}
use Rattle.text_facts.proofs.Trees.{Says, file, label, signed, number, both, either, read}

-- in the struct of the file, which is 1
a_field_counts_itself_and_its_value : (Says (codes "") (λ es. size (meant_text es) ≡ 1)) × (Says (codes "a: 1") (λ es. size (meant_text es) ≡ 3)) × (Says (codes "a: 1, b: <2") (λ es. size (meant_text es) ≡ 5)) × (Says (codes "a: b: 1") (λ es. size (meant_text es) ≡ 5))
unfolding lexed
a_field_counts_itself_and_its_value = ((_, read _ (file []) refl (search rules) (search rules), refl), (_, read _ (file (field (label (codes "a") Regular) [] (number 1) ∷ [])) refl (search rules) (search rules), refl), (_, read _ (file (field (label (codes "a") Regular) [] (number 1) ∷ field (label (codes "b") Regular) [] (bound Less (signed Absent 2)) ∷ [])) refl (search rules) (search rules), refl), (_, read _ (file (field (label (codes "a") Regular) ((label (codes "b") Regular) ∷ []) (number 1) ∷ [])) refl (search rules) (search rules), refl))

-- parentheses and marks add nothing
an_operator_counts_once_with_its_parts : (Says (codes "a: 1 & 2 & 3") (λ es. size (meant_text es) ≡ 6)) × (Says (codes "a: (1 & 2) & 3") (λ es. size (meant_text es) ≡ 7)) × (Says (codes "a: *1 | (2)") (λ es. size (meant_text es) ≡ 5))
unfolding lexed
an_operator_counts_once_with_its_parts = ((_, read _ (file (field (label (codes "a") Regular) [] (both ((number 1) ∷ (number 2) ∷ (number 3) ∷ [])) ∷ [])) refl (search rules) (search rules), refl), (_, read _ (file (field (label (codes "a") Regular) [] (both ((parenthesis (both ((number 1) ∷ (number 2) ∷ [])) false) ∷ (number 3) ∷ [])) ∷ [])) refl (search rules) (search rules), refl), (_, read _ (file (field (label (codes "a") Regular) [] (either (branch true 4 (number 1) ∷ branch false 8 (parenthesis (number 2) false) ∷ [])) ∷ [])) refl (search rules) (search rules), refl))

structs_and_lists_count : (Says (codes "a: {}") (λ es. size (meant_text es) ≡ 3)) × (Says (codes "a: {...}") (λ es. size (meant_text es) ≡ 4)) × (Says (codes "a: close({})") (λ es. size (meant_text es) ≡ 4)) × (Says (codes "a: []") (λ es. size (meant_text es) ≡ 3)) × (Says (codes "a: [1, 2]") (λ es. size (meant_text es) ≡ 5)) × (Says (codes "a: [...]") (λ es. size (meant_text es) ≡ 4)) × (Says (codes "a: [...1]") (λ es. size (meant_text es) ≡ 5))
unfolding lexed
structs_and_lists_count = ((_, read _ (file (field (label (codes "a") Regular) [] (struct (entries_in []) false) ∷ [])) refl (search rules) (search rules), refl), (_, read _ (file (field (label (codes "a") Regular) [] (struct (entries_in (ellipsis ∷ [])) false) ∷ [])) refl (search rules) (search rules), refl), (_, read _ (file (field (label (codes "a") Regular) [] (close 3 (entries_in []) false false) ∷ [])) refl (search rules) (search rules), refl), (_, read _ (file (field (label (codes "a") Regular) [] (list (elements_of []) no_rest false) ∷ [])) refl (search rules) (search rules), refl), (_, read _ (file (field (label (codes "a") Regular) [] (list (elements_of ((number 1) ∷ (number 2) ∷ [])) no_rest false) ∷ [])) refl (search rules) (search rules), refl), (_, read _ (file (field (label (codes "a") Regular) [] (list (elements_of []) any_rest false) ∷ [])) refl (search rules) (search rules), refl), (_, read _ (file (field (label (codes "a") Regular) [] (list (elements_of []) (each_rest (number 1)) false) ∷ [])) refl (search rules) (search rules), refl))

each_use_counts_the_body : (Says (codes "#A: {b: 1}, a: #A") (λ es. size (meant_text es) ≡ 6)) × (Says (codes "#A: {b: 1}, a: #A, c: #A") (λ es. size (meant_text es) ≡ 11))
unfolding lexed meaning_within
each_use_counts_the_body = ((_, read _ (file (definition (codes "#A") 0 [] (struct (entries_in (field (label (codes "b") Regular) [] (number 1) ∷ [])) false) ∷ field (label (codes "a") Regular) [] (name (Definition (codes "#A")) 15) ∷ [])) refl (search rules) (search rules), refl), (_, read _ (file (definition (codes "#A") 0 [] (struct (entries_in (field (label (codes "b") Regular) [] (number 1) ∷ [])) false) ∷ field (label (codes "a") Regular) [] (name (Definition (codes "#A")) 15) ∷ field (label (codes "c") Regular) [] (name (Definition (codes "#A")) 22) ∷ [])) refl (search rules) (search rules), refl))

-- and the uses in it
uses_of_uses_multiply : Says (codes "#A: [1, 1], #B: [#A, #A], a: #B") (λ es. size (meant_text es) ≡ 12)
unfolding lexed meaning_within
uses_of_uses_multiply = (_, read _ (file (definition (codes "#A") 0 [] (list (elements_of ((number 1) ∷ (number 1) ∷ [])) no_rest false) ∷ definition (codes "#B") 12 [] (list (elements_of ((name (Definition (codes "#A")) 17) ∷ (name (Definition (codes "#A")) 21) ∷ [])) no_rest false) ∷ field (label (codes "a") Regular) [] (name (Definition (codes "#B")) 29) ∷ [])) refl (search rules) (search rules), refl)

-- unused definitions, a clause of a package, and ... at the top
what_adds_nothing : (Says (codes "#A: {b: 1}") (λ es. size (meant_text es) ≡ 1)) × (Says (codes "package a") (λ es. size (meant_text es) ≡ 1)) × (Says (codes "..., a: 1") (λ es. size (meant_text es) ≡ 3))
unfolding lexed meaning_within
what_adds_nothing = ((_, read _ (file (definition (codes "#A") 0 [] (struct (entries_in (field (label (codes "b") Regular) [] (number 1) ∷ [])) false) ∷ [])) refl (search rules) (search rules), refl), (_, read _ (record { package_clause = (Some (record { name = (Plain (codes "a")); comma = false })); declarations = entries_in []; comma = false }) refl (search rules) (search rules), refl), (_, read _ (file (ellipsis ∷ field (label (codes "a") Regular) [] (number 1) ∷ [])) refl (search rules) (search rules), refl))

steps_of_the_longest_path : (Says (codes "") (λ es. depth (meant_text es) ≡ 0)) × (Says (codes "a: 1") (λ es. depth (meant_text es) ≡ 1)) × (Says (codes "a: {b: 1}, c: 2") (λ es. depth (meant_text es) ≡ 2)) × (Says (codes "a: b: c: 1") (λ es. depth (meant_text es) ≡ 3)) × (Says (codes "a: {}") (λ es. depth (meant_text es) ≡ 1))
unfolding lexed
steps_of_the_longest_path = ((_, read _ (file []) refl (search rules) (search rules), refl), (_, read _ (file (field (label (codes "a") Regular) [] (number 1) ∷ [])) refl (search rules) (search rules), refl), (_, read _ (file (field (label (codes "a") Regular) [] (struct (entries_in (field (label (codes "b") Regular) [] (number 1) ∷ [])) false) ∷ field (label (codes "c") Regular) [] (number 2) ∷ [])) refl (search rules) (search rules), refl), (_, read _ (file (field (label (codes "a") Regular) ((label (codes "b") Regular) ∷ (label (codes "c") Regular) ∷ []) (number 1) ∷ [])) refl (search rules) (search rules), refl), (_, read _ (file (field (label (codes "a") Regular) [] (struct (entries_in []) false) ∷ [])) refl (search rules) (search rules), refl))

-- those behind the last one are one step
elements_are_steps : (Says (codes "a: [1]") (λ es. depth (meant_text es) ≡ 2)) × (Says (codes "a: []") (λ es. depth (meant_text es) ≡ 1)) × (Says (codes "a: [...]") (λ es. depth (meant_text es) ≡ 1)) × (Says (codes "a: [...1]") (λ es. depth (meant_text es) ≡ 2)) × (Says (codes "a: {b: 1} & [[1]]") (λ es. depth (meant_text es) ≡ 3))
unfolding lexed
elements_are_steps = ((_, read _ (file (field (label (codes "a") Regular) [] (list (elements_of ((number 1) ∷ [])) no_rest false) ∷ [])) refl (search rules) (search rules), refl), (_, read _ (file (field (label (codes "a") Regular) [] (list (elements_of []) no_rest false) ∷ [])) refl (search rules) (search rules), refl), (_, read _ (file (field (label (codes "a") Regular) [] (list (elements_of []) any_rest false) ∷ [])) refl (search rules) (search rules), refl), (_, read _ (file (field (label (codes "a") Regular) [] (list (elements_of []) (each_rest (number 1)) false) ∷ [])) refl (search rules) (search rules), refl), (_, read _ (file (field (label (codes "a") Regular) [] (both ((struct (entries_in (field (label (codes "b") Regular) [] (number 1) ∷ [])) false) ∷ (list (elements_of ((list (elements_of ((number 1) ∷ [])) no_rest false) ∷ [])) no_rest false) ∷ [])) ∷ [])) refl (search rules) (search rules), refl))

a_use_has_the_steps_of_its_body : (Says (codes "#A: {b: 1}, a: #A") (λ es. depth (meant_text es) ≡ 2)) × (Says (codes "#A: {b: 1}") (λ es. depth (meant_text es) ≡ 0))
unfolding lexed meaning_within
a_use_has_the_steps_of_its_body = ((_, read _ (file (definition (codes "#A") 0 [] (struct (entries_in (field (label (codes "b") Regular) [] (number 1) ∷ [])) false) ∷ field (label (codes "a") Regular) [] (name (Definition (codes "#A")) 15) ∷ [])) refl (search rules) (search rules), refl), (_, read _ (file (definition (codes "#A") 0 [] (struct (entries_in (field (label (codes "b") Regular) [] (number 1) ∷ [])) false) ∷ [])) refl (search rules) (search rules), refl))

-- of brackets, and of the labels of a chain after the first
levels_that_are_open : (Says (codes "a: 1") (λ es. levels_of_entries es ≡ 0)) × (Says (codes "a: {}") (λ es. levels_of_entries es ≡ 1)) × (Says (codes "a: ([{}])") (λ es. levels_of_entries es ≡ 3)) × (Says (codes "a: close({})") (λ es. levels_of_entries es ≡ 2)) × (Says (codes "a: b: c: 1") (λ es. levels_of_entries es ≡ 2)) × (Says (codes "#A: b: 1") (λ es. levels_of_entries es ≡ 1)) × (Says (codes "a: {}, b: {c: []}") (λ es. levels_of_entries es ≡ 2)) × (Says (codes "a: {b: c: {}}") (λ es. levels_of_entries es ≡ 3))
unfolding lexed
levels_that_are_open = ((_, read _ (file (field (label (codes "a") Regular) [] (number 1) ∷ [])) refl (search rules) (search rules), refl), (_, read _ (file (field (label (codes "a") Regular) [] (struct (entries_in []) false) ∷ [])) refl (search rules) (search rules), refl), (_, read _ (file (field (label (codes "a") Regular) [] (parenthesis (list (elements_of ((struct (entries_in []) false) ∷ [])) no_rest false) false) ∷ [])) refl (search rules) (search rules), refl), (_, read _ (file (field (label (codes "a") Regular) [] (close 3 (entries_in []) false false) ∷ [])) refl (search rules) (search rules), refl), (_, read _ (file (field (label (codes "a") Regular) ((label (codes "b") Regular) ∷ (label (codes "c") Regular) ∷ []) (number 1) ∷ [])) refl (search rules) (search rules), refl), (_, read _ (file (definition (codes "#A") 0 ((label (codes "b") Regular) ∷ []) (number 1) ∷ [])) refl (search rules) (search rules), refl), (_, read _ (file (field (label (codes "a") Regular) [] (struct (entries_in []) false) ∷ field (label (codes "b") Regular) [] (struct (entries_in (field (label (codes "c") Regular) [] (list (elements_of []) no_rest false) ∷ [])) false) ∷ [])) refl (search rules) (search rules), refl), (_, read _ (file (field (label (codes "a") Regular) [] (struct (entries_in (field (label (codes "b") Regular) ((label (codes "c") Regular) ∷ []) (struct (entries_in []) false) ∷ [])) false) ∷ [])) refl (search rules) (search rules), refl))
