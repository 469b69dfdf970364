-- Texts on which all that a text goes through is short: the empty one, and those that are too long.
use Rattle.std.proofs.Common.{◌≡◌, inl, ℕ, List, [], length, false, None, refl, ap, arith, lit<, lit≤}
use Rattle.std.specs.Str.{is_utf8, chars}
use Rattle.std.proofs.lemmas.Str.{IsUtf8-from_is_utf8}
use lib.Utf8.{encode}
use Rattle.cue_lattice.specs.declared.refusal.Kind.TheVariants as kinds
use Rattle.cue_lattice.specs.declared.refusal.Refusal.{Refusal}
use Rattle.cue_lattice.specs.Refusal.{refusal_at, memory}
use Rattle.cue_lattice.specs.Question.{list}
use Rattle.cue_lex.specs.Tokens.{tokens}
use Rattle.cue_syntax.specs.Syntax.{FileTree, no_entries}
use Rattle.cue_scope.specs.Refusing as checks
use Rattle.cue_scope.specs.Graph.{IsReached, start, go_on}
use Rattle.cue_replica.specs.Texts.{IsTreeOf, IsLegalText, text_refuses, IsTokenFault, IsTextFault, IsTextRefusedAtOnce}
use Rattle.cue_replica.specs.PrintedAgain.{IsOverLimit}

abbrev no_tree : FileTree
no_tree = record { package_clause = None; declarations = no_entries; comma = false }

the_empty_text_is_the_tree_of_nothing : IsTreeOf [] no_tree
unfolding tokens
the_empty_text_is_the_tree_of_nothing = record {
  words = [];
  lexed = refl;
  spelled = record { reads = record { follows = refl }; clause = tt; right = tt; ends = tt; levels = lit≤ tt };
}

nothing_is_reached : (j : ℕ) → IsReached [] [] j → ⊥
nothing_is_reached j (start i h) = h
nothing_is_reached j (go_on i k r p) = nothing_is_reached i r

it_passes_each_check : checks.IsLegalTree no_entries
it_passes_each_check = record {
  small = record {
    scalar = record { ordered = record { named = record { unrepeated = refl; names = refl }; acyclic = λ i. nothing_is_reached i }; terms = refl };
    size = lit≤ tt;
  };
  depth = lit≤ tt;
}

it_is_legal : IsLegalText []
unfolding is_utf8 chars encode
it_is_legal = (no_tree, the_empty_text_is_the_tree_of_nothing, it_passes_each_check, IsUtf8-from_is_utf8 [] refl)

it_lets_no_list_stand_at_the_root : text_refuses [] [] list
it_lets_no_list_stand_at_the_root = (no_tree, the_empty_text_is_the_tree_of_nothing, tt)

-- ---- texts of one byte more than a text may have
a_longer_text_is_too_long : (text : List ℕ) → length text ≡ 1048577 → IsTokenFault text (refusal_at kinds.TooLong 1048576)
unfolding tokens
a_longer_text_is_too_long text long = (no_memory, rw long refl) where
  no_memory : refusal_at kinds.TooLong 1048576 ≡ memory → ⊥
  no_memory e = let places : ◌≡◌ {A = ℕ} 1048576 0 = ap (λ (r : Refusal). r.place) e in omega arith

and_so_has_a_fault : (text : List ℕ) → length text ≡ 1048577 → IsTextFault text (refusal_at kinds.TooLong 1048576)
and_so_has_a_fault text long = inl (a_longer_text_is_too_long text long)

and_is_no_legal_one : (text : List ℕ) → length text ≡ 1048577 → IsLegalText text → ⊥
and_is_no_legal_one text long (tree, is, legal, utf8) =
    let lexed = is.lexed in let fault = (a_longer_text_is_too_long text long).1 in cc

it_is_refused_at_once : (text : List ℕ) → length text ≡ 1048577 → IsTextRefusedAtOnce text
it_is_refused_at_once text long = inl (rw long (lit< tt))

it_is_over_a_limit : (text : List ℕ) → length text ≡ 1048577 → IsOverLimit text
it_is_over_a_limit text long = inl (a_longer_text_is_too_long text long).1

want_of_memory_is_no_fault_of_a_text : (text : List ℕ) → IsTokenFault text memory → ⊥
want_of_memory_is_no_fault_of_a_text text h = h.0 refl
