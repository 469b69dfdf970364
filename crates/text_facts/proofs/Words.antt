-- Words, and trees without their places.
use Rattle.std.proofs.Common.{◌≡◌, ◌≤◌, true, false, [], ◌∷◌, Some, None, refl, rules, arith}
use Rattle.std.specs.Prelude.{codes}
use Rattle.std.specs.Str.{is_utf8, chars}
use Rattle.std.proofs.lemmas.Str.{is_utf8-from_IsUtf8}
use Rattle.cue_lattice.specs.Word.{IsWord}
use Rattle.cue_lex.proofs.Longest.{identifier_longest}
use Rattle.cue_lex.specs.declared.token.TokenKind.TheVariants.{Name, Text, Bottom}
use Rattle.cue_lex.specs.Kinds.{HasWord}
use Rattle.cue_lex.specs.Names.{IsIdentifierText}
use Rattle.cue_syntax.specs.declared.tree.Mark.TheVariants.{Regular, Optional}
use Rattle.cue_syntax.specs.declared.tree.Identifier.TheVariants.{Plain, Definition}
use Rattle.cue_syntax.specs.Syntax.{branch, field, name, definition, close, entries_in, no_entries, FileTree}
use Rattle.cue_syntax.specs.Grammar.{IsFragment}
use Rattle.cue_syntax.specs.Unplaced.{unplaced_file}
use Rattle.cue_syntax.specs.Words.{HasWordLabel}
use Rattle.text_facts.proofs.OnLiterals.{lexed}
use Rattle.text_facts.proofs.Trees.{file, label, quoted, number, either}

-- é, and nothing at all
words : IsWord (0xC3 ∷ 0xA9 ∷ []) × IsWord []
unfolding lexed
words = (record { utf8 = (0xE9 ∷ [], (refl, refl)); short = search rules }, record { utf8 = ([], (refl, refl)); short = search rules })

-- half a character
no_word : IsWord (0xC3 ∷ []) → ⊥
unfolding is_utf8 chars
no_word h = let e = is_utf8-from_IsUtf8 (0xC3 ∷ []) h.utf8 in let no : false ≡ true = e in cc

tokens_with_words : HasWord (Name (codes "a")) × HasWord Bottom × HasWordLabel (quoted (codes "b") Optional)
unfolding lexed
tokens_with_words = (record { utf8 = (codes "a", (refl, refl)); short = search rules }, tt, record { utf8 = (codes "b", (refl, refl)); short = search rules })

a_token_without_a_word : HasWord (Text (0xC3 ∷ [])) → ⊥
a_token_without_a_word h = no_word h

-- by the longest identifier at the front of each
no_identifiers : (IsIdentifierText (codes "1a") → ⊥) × (IsIdentifierText (codes "a-b") → ⊥) × (IsIdentifierText (codes "#") → ⊥)
unfolding lexed
no_identifiers = (
  λ h. let le : 2 ≤ 0 = identifier_longest (codes "1a") (codes "1a") [] h refl in absurd (omega (arith, le)),
  λ h. let le : 3 ≤ 1 = identifier_longest (codes "a-b") (codes "a-b") [] h refl in absurd (omega (arith, le)),
  λ h. let le : 1 ≤ 0 = identifier_longest (codes "#") (codes "#") [] h refl in absurd (omega (arith, le)),
)

-- a: b | *3, #C: close({})
abbrev placed : FileTree
placed = file (field (label (codes "a") Regular) [] (either (branch false 3 (name (Plain (codes "b")) 3) ∷ branch true 8 (number 3) ∷ [])) ∷ definition (codes "#C") 11 [] (close 15 no_entries false true) ∷ [])

each_place_is_0 : unplaced_file placed ≡ file (field (label (codes "a") Regular) [] (either (branch false 0 (name (Plain (codes "b")) 0) ∷ branch true 0 (number 3) ∷ [])) ∷ definition (codes "#C") 0 [] (close 0 no_entries false true) ∷ [])
each_place_is_0 = refl

-- a: 1,
a_fragment : IsFragment None (entries_in (field (label (codes "a") Regular) [] (number 1) ∷ [])) true
unfolding lexed
a_fragment = record { package_clause = search rules; right = search rules; ends = search rules; levels = search rules; words = ((record { utf8 = (codes "a", (refl, refl)); short = search rules }, tt, tt), tt) }

-- a comma behind nothing, a package named as a definition, a label that is half a character, a magnitude that no sign has
no_fragments : (IsFragment None no_entries true → ⊥) × (IsFragment (Some (record { name = Definition (codes "#a"); comma = true })) no_entries false → ⊥) × (IsFragment None (entries_in (field (label (0xC3 ∷ []) Regular) [] (number 1) ∷ [])) false → ⊥) × (IsFragment None (entries_in (field (label (codes "a") Regular) [] (number 9223372036854775808) ∷ [])) false → ⊥)
no_fragments = (λ h. h.ends, λ h. h.package_clause, λ h. no_word h.words.0.0, λ h. let e : 9223372036854775808 ≤ 9223372036854775807 = h.right.0 in absurd (omega (arith, e)))
