-- The limits, each with what just keeps within it and what does not.
use Rattle.std.proofs.Common.{◌≡◌, subst, ℕ, zero, suc, ◌<◌, inl, inr, false, List, [], ◌∷◌, length, drop, Ok, refl, rules, arith}
use Rattle.std.specs.Prelude.{codes, nat_le}
use Rattle.std.proofs.lemmas.Bool.Decides.{nat_tests}
use Rattle.cue_lattice.specs.Limits.{text_limit, word_limit, level_limit, step_limit, size_limit}
use Rattle.cue_lattice.specs.Refusal.{refusal_at}
use Rattle.cue_lattice.specs.declared.refusal.Kind.TheVariants.{TooLong, TextTooLong, Nesting, TooLarge, TooDeep}
use Rattle.cue_lex.specs.Tokens.{tokens}
use Rattle.cue_lex.specs.declared.token.Token.{Token}
use Rattle.cue_lex.specs.declared.token.TokenKind.TheVariants.{Name, Mark}
use Rattle.cue_lex.specs.declared.punctuation.Punctuation.TheVariants.{OpenParenthesis}
use Rattle.cue_syntax.specs.declared.tree.Label.{Label}
use Rattle.cue_syntax.specs.declared.tree.Mark.TheVariants.{Regular}
use Rattle.cue_syntax.specs.Syntax.{Elements, element, no_elements, Entries, entries_in, field, list, no_rest}
use Rattle.cue_syntax.specs.Grammar.{unlimited, at_most, levels_of_entries}
use Rattle.cue_syntax.specs.Viability.{IsTokenAt, IsKeywordName, IsCallOfClose}
use Rattle.cue_syntax.specs.Refusals.{BeginsWithin, IsCallBehind, FitsRefusal}
use Rattle.cue_syntax.proofs.NoTextWhereStuck.{stuck_begins_none}
use Rattle.cue_syntax.proofs.TakenBeginsAText.{begins}
use Rattle.cue_scope.specs.Limits.{size, depth}
use Rattle.cue_scope.specs.Meaning.{meant_text}
use Rattle.cue_scope.specs.Refusing.{IsLegalTree, TextRefuses}
use Rattle.text_facts.proofs.Definitions.{none_is_acyclic}
use Rattle.text_facts.proofs.OnLiterals.{lexed}
use Rattle.text_facts.proofs.Spelt.{at, mark_at, fault}
use Rattle.text_facts.proofs.Trees.{words_of, label, number}

the_limits : (text_limit ≡ 1048576) × (word_limit ≡ 65535) × (level_limit ≡ 64) × (step_limit ≡ 64) × (size_limit ≡ 65536)
the_limits = (refl, refl, refl, refl, refl)

-- ---- texts and words
-- so many times this byte, and then the rest
abbrev times : ℕ → ℕ → List ℕ → List ℕ
times zero byte rest = rest
times (suc n) byte rest = byte ∷ times n byte rest

-- at the limit, whatever stands in it
too_long : (text : List ℕ) → 1048576 < length text → tokens text ≡ fault TooLong 1048576
unfolding tokens
too_long text more = let e : nat_le (length text) 1048576 ≡ false = grind (arith, nat_tests) in simp e

the_longest_name : tokens (times 65535 97 []) ≡ Ok (at 0 65535 (Name (times 65535 97 [])) ∷ [])
unfolding lexed
the_longest_name = refl

a_name_too_long : tokens (times 65536 97 []) ≡ fault TextTooLong 0
unfolding lexed
a_name_too_long = refl

-- at its quote
a_text_too_long : tokens (32 ∷ 34 ∷ times 65536 97 (34 ∷ [])) ≡ fault TextTooLong 1
unfolding lexed
a_text_too_long = refl

-- ---- levels
-- behind a label and a colon so many parentheses open
abbrev opening : ℕ → List ℕ
opening n = 97 ∷ 58 ∷ times n 40 []

-- the 65th
a_level_too_many : FitsRefusal level_limit 67 (words_of (tokens (opening 65))) (refusal_at Nesting 66)
unfolding lexed
a_level_too_many = record { j = 66; place = refl; fits = record { k = 66; within = inl (begins (at_most 64) words last refl); beyond = beyond; deeper = begins unlimited words [] refl; named = inl (refl, λ h. h) } }
  where
    words : List Token
    words = words_of (tokens (opening 65))

    last : List Token
    last = mark_at 66 OpenParenthesis ∷ []

    no_keyword : (earlier : ℕ) → suc earlier ≡ 67 → IsTokenAt IsKeywordName (drop earlier words) → ⊥
    no_keyword earlier next h = subst (λ n. IsTokenAt IsKeywordName (drop n words)) (let e : earlier ≡ 66 = omega (arith, next) in e) h

    no_close : (earlier : ℕ) → suc earlier ≡ 67 → IsCallBehind earlier words → ⊥
    no_close earlier next h =
        let e : h.from ≡ 65 = omega (arith, next, h.next) in
        let call : IsCallOfClose (drop 65 words) = subst (λ n. IsCallOfClose (drop n words)) e h.call in
        let is : Mark OpenParenthesis ≡ Name (codes "close") = call.0 in
        cc

    beyond : ¬ BeginsWithin 64 67 words
    beyond (inl h) = stuck_begins_none (at_most 64) words last refl h
    beyond (inr h) = elim h.why [
      | inl keyword ↦ no_keyword h.earlier h.next keyword
      | inr call ↦ no_close h.earlier h.next call
    ]

-- ---- trees
-- a: a: .. 1, with so many labels behind the first
abbrev chained : ℕ → List Label
chained zero = []
chained (suc n) = label (codes "a") Regular ∷ chained n

abbrev chain_of : ℕ → Entries
chain_of n = entries_in (field (label (codes "a") Regular) (chained n) (number 1) ∷ [])

-- with 65 labels 64 levels are open
the_steps_of_chains : (depth (meant_text (chain_of 63)) ≡ 64) × (depth (meant_text (chain_of 64)) ≡ 65) × (levels_of_entries (chain_of 64) ≡ 64)
the_steps_of_chains = (refl, refl, refl)

the_deepest_chain : IsLegalTree (chain_of 63)
the_deepest_chain = record { small = record { scalar = record { ordered = record { named = record { unrepeated = refl; names = refl }; acyclic = none_is_acyclic }; terms = refl }; size = search rules }; depth = search rules }

a_chain_too_deep : TextRefuses (chain_of 64) (refusal_at TooDeep 0)
a_chain_too_deep = (record { scalar = record { ordered = record { named = record { unrepeated = refl; names = refl }; acyclic = none_is_acyclic }; terms = refl }; size = search rules }, search rules, refl)

-- a: [1, 1, ..], of so many elements
abbrev ones : ℕ → Elements
ones zero = no_elements
ones (suc n) = element (number 1) (ones n)

abbrev list_of : ℕ → Entries
list_of n = entries_in (field (label (codes "a") Regular) [] (list (ones n) no_rest false) ∷ [])

the_sizes_of_lists : (size (meant_text (list_of 65533)) ≡ 65536) × (size (meant_text (list_of 65534)) ≡ 65537)
the_sizes_of_lists = (refl, refl)

a_list_too_large : TextRefuses (list_of 65534) (refusal_at TooLarge 0)
a_list_too_large = (record { ordered = record { named = record { unrepeated = refl; names = refl }; acyclic = none_is_acyclic }; terms = refl }, search rules, refl)
