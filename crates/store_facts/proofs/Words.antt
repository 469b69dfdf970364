-- Limits, words, and what refusals say.
use Rattle.std.proofs.Common.{◌≡◌, ℕ, [], ◌∷◌, replicate, true, false, Some, refl, arith, lit≤}
use Rattle.std.specs.Prelude.{codes}
use Rattle.std.specs.Str.{is_utf8, chars}
use lib.Utf8.{encode}
use Rattle.std.proofs.lemmas.Str.{IsUtf8-from_is_utf8, is_utf8-from_IsUtf8}
use Rattle.std.proofs.lemmas.Bool.{false≢true}
use Rattle.std.proofs.lemmas.List.{length-replicate}
use Rattle.cue_lattice.specs.Limits.{text_limit, word_limit, level_limit, step_limit, size_limit, length_limit}
use Rattle.cue_lattice.specs.Word.{IsWord}
use Rattle.cue_lattice.specs.Bools.{is_nil}
use Rattle.cue_lattice.specs.declared.refusal.Kind.TheVariants as kinds
use Rattle.cue_lattice.specs.Refusal.{number_of, name_at, refusal_at, memory}

the_limits : (text_limit ≡ 1048576) × (word_limit ≡ 65535) × (level_limit ≡ 64) × (step_limit ≡ 64)
    × (size_limit ≡ 65536) × (length_limit ≡ 65536)
the_limits = (refl, refl, refl, refl, refl, refl)

an_accented_letter_is_a_word : IsWord (0xc3 ∷ 0xa9 ∷ [])
unfolding is_utf8 chars encode
an_accented_letter_is_a_word = record { utf8 = IsUtf8-from_is_utf8 (0xc3 ∷ 0xa9 ∷ []) refl; short = lit≤ tt }

the_empty_text_is_a_word : IsWord []
unfolding is_utf8 chars encode
the_empty_text_is_a_word = record { utf8 = IsUtf8-from_is_utf8 [] refl; short = lit≤ tt }

-- the first of two bytes alone
half_a_letter_is_none : IsWord (0xc3 ∷ []) → ⊥
unfolding is_utf8 chars encode
half_a_letter_is_none h = false≢true (is_utf8-from_IsUtf8 (0xc3 ∷ []) h.utf8)

a_text_of_65536_bytes_is_none : IsWord (replicate 65536 0) → ⊥
a_text_of_65536_bytes_is_none h = omega (arith, length-replicate {A = ℕ} 65536 0, h.short)

an_empty_list : (is_nil {X = ℕ} [] ≡ true) × (is_nil {X = ℕ} (7 ∷ []) ≡ false)
an_empty_list = (refl, refl)

want_of_memory_is_24_at_0 : (number_of memory.kind ≡ 24) × (name_at 24 ≡ Some (codes "Memory")) × (memory.place ≡ 0)
want_of_memory_is_24_at_0 = (refl, refl, refl)

a_kind_at_a_place : ((refusal_at kinds.Syntax 7).place ≡ 7) × (number_of (refusal_at kinds.Syntax 7).kind ≡ 7)
a_kind_at_a_place = (refl, refl)

numbers_and_names : (name_at (number_of kinds.TooLong) ≡ Some (codes "TooLong"))
    × (name_at (number_of kinds.Repeated) ≡ Some (codes "Repeated"))
    × (name_at (number_of kinds.Version) ≡ Some (codes "Version"))
    × (name_at (number_of kinds.NotState) ≡ Some (codes "NotState"))
    × (name_at (number_of kinds.Failed) ≡ Some (codes "Failed"))
numbers_and_names = (refl, refl, refl, refl, refl)
