-- Which texts are legal, and which check refuses the others, at which byte.
use Rattle.std.proofs.Common.{◌≡◌, true, false, [], ◌∷◌, inl, refl, rules, arith}
use Rattle.std.specs.Prelude.{codes}
use Rattle.cue_lattice.specs.declared.refusal.Kind.TheVariants.{Repeated, UnknownName, FieldReference, Cycle, NotScalar, Syntax}
use Rattle.cue_lattice.specs.Refusal.{refusal_at}
use Rattle.cue_scope.specs.Graph.{start}
use Rattle.cue_scope.specs.Meaning.{meaning_within}
use Rattle.cue_scope.specs.Refusing.{IsLegalTree, TextRefuses}
use Rattle.cue_syntax.specs.declared.tree.Identifier.TheVariants.{Plain, Definition}
use Rattle.cue_syntax.specs.declared.tree.Mark.TheVariants.{Regular, Optional}
use Rattle.cue_syntax.specs.Syntax.{name, text, struct, branch, field, definition, entries_in}
use Rattle.text_facts.proofs.Definitions.{one_that_leads_to_none_is_acyclic, none_is_acyclic}
use Rattle.text_facts.proofs.OnLiterals.{lexed}
use Rattle.text_facts.proofs.Trees.{Says, file, label, number, either, read}

legal_texts : (Says (codes "a: int | *1, b: {c?: \"x\"}") (λ es. IsLegalTree es)) × (Says (codes "a: #A, #A: 1") (λ es. IsLegalTree es))
unfolding lexed meaning_within
legal_texts = ((_, read _ (file (field (label (codes "a") Regular) [] (either (branch false 3 (name (Plain (codes "int")) 3) ∷ branch true 10 (number 1) ∷ [])) ∷ field (label (codes "b") Regular) [] (struct (entries_in (field (label (codes "c") Optional) [] (text (codes "x")) ∷ [])) false) ∷ [])) refl (search rules) (search rules), record { small = record { scalar = record { ordered = record { named = record { unrepeated = refl; names = refl }; acyclic = none_is_acyclic }; terms = refl }; size = search rules }; depth = search rules }), (_, read _ (file (field (label (codes "a") Regular) [] (name (Definition (codes "#A")) 3) ∷ definition (codes "#A") 7 [] (number 1) ∷ [])) refl (search rules) (search rules), record { small = record { scalar = record { ordered = record { named = record { unrepeated = refl; names = refl }; acyclic = one_that_leads_to_none_is_acyclic }; terms = refl }; size = search rules }; depth = search rules }))

no_declaration_is_legal : Says (codes "") (λ es. IsLegalTree es)
unfolding lexed meaning_within
no_declaration_is_legal = (_, read _ (file []) refl (search rules) (search rules), record { small = record { scalar = record { ordered = record { named = record { unrepeated = refl; names = refl }; acyclic = none_is_acyclic }; terms = refl }; size = search rules }; depth = search rules })

-- at the second label, whatever else is wrong
a_repeated_definition : Says (codes "#A: 1, #A: b") (λ es. TextRefuses es (refusal_at Repeated 7))
unfolding lexed meaning_within
a_repeated_definition = (_, read _ (file (definition (codes "#A") 0 [] (number 1) ∷ definition (codes "#A") 7 [] (name (Plain (codes "b")) 11) ∷ [])) refl (search rules) (search rules), record { rest = []; is = refl })

-- the first of them
an_unknown_name_or_a_field : (Says (codes "a: b") (λ es. TextRefuses es (refusal_at UnknownName 3))) × (Says (codes "a: 1, b: a") (λ es. TextRefuses es (refusal_at FieldReference 9))) × (Says (codes "a: b, c: a") (λ es. TextRefuses es (refusal_at UnknownName 3)))
unfolding lexed meaning_within
an_unknown_name_or_a_field = ((_, read _ (file (field (label (codes "a") Regular) [] (name (Plain (codes "b")) 3) ∷ [])) refl (search rules) (search rules), (refl, record { rest = []; is = refl })), (_, read _ (file (field (label (codes "a") Regular) [] (number 1) ∷ field (label (codes "b") Regular) [] (name (Plain (codes "a")) 9) ∷ [])) refl (search rules) (search rules), (refl, record { rest = []; is = refl })), (_, read _ (file (field (label (codes "a") Regular) [] (name (Plain (codes "b")) 3) ∷ field (label (codes "c") Regular) [] (name (Plain (codes "a")) 9) ∷ [])) refl (search rules) (search rules), (refl, record { rest = _; is = refl })))

a_definition_of_itself : Says (codes "#T: {a?: #T}") (λ es. TextRefuses es (refusal_at Cycle 0))
unfolding lexed meaning_within
a_definition_of_itself = (_, read _ (file (definition (codes "#T") 0 [] (struct (entries_in (field (label (codes "a") Optional) [] (name (Definition (codes "#T")) 9) ∷ [])) false) ∷ [])) refl (search rules) (search rules), (record { unrepeated = refl; names = refl }, record { number = 0; first = record { reaches = start 0 (inl refl); first = λ j below. absurd (omega (arith, below)) }; place = refl }))

-- at the term, behind its mark
a_term_that_is_not_scalar : Says (codes "a: 1 | {}") (λ es. TextRefuses es (refusal_at NotScalar 7))
unfolding lexed meaning_within
a_term_that_is_not_scalar = (_, read _ (file (field (label (codes "a") Regular) [] (either (branch false 3 (number 1) ∷ branch false 7 (struct (entries_in []) false) ∷ [])) ∷ [])) refl (search rules) (search rules), (record { named = record { unrepeated = refl; names = refl }; acyclic = none_is_acyclic }, record { rest = []; is = refl }))

a_legal_text_is_refused_by_none : Says (codes "a: 1") (λ es. (TextRefuses es (refusal_at UnknownName 3) → ⊥) × (TextRefuses es (refusal_at Syntax 0) → ⊥))
unfolding lexed meaning_within
a_legal_text_is_refused_by_none = (_, read _ (file (field (label (codes "a") Regular) [] (number 1) ∷ [])) refl (search rules) (search rules), (λ h. let e = h.1 in let r : [] ≡ _ ∷ e.rest = e.is in cc, λ h. h))

a_name_is_wrong_so_that_it_is_not_legal : Says (codes "a: b") (λ es. IsLegalTree es → ⊥)
unfolding lexed meaning_within
a_name_is_wrong_so_that_it_is_not_legal = (_, read _ (file (field (label (codes "a") Regular) [] (name (Plain (codes "b")) 3) ∷ [])) refl (search rules) (search rules), λ h. let e = h.small.scalar.ordered.named.names in cc)
