-- Rows of trees by the kinds of their tokens.
use Rattle.std.proofs.Common.{◌≡◌, ℕ, List, [], ◌∷◌, ◌++◌, refl, sym, ap, ◌∙◌, append-nil, flat_map}
use Rattle.std.proofs.lemmas.List.{map-append}
use Rattle.cue_lex.specs.declared.token.TokenKind.{TokenKind}
use Rattle.cue_lex.specs.declared.token.TokenKind.TheVariants as kinds
use Rattle.cue_lex.specs.declared.punctuation.Punctuation.TheVariants as points
use Rattle.cue_syntax.specs.Syntax.{Elements, no_elements, element, Branches, no_branches, next_branch, Entries, no_entries, entry}
use Rattle.cue_syntax.specs.Spelling.{SpelledPiece, one, spell, spell_elements, spell_more_elements, spell_branch, spell_branches, spell_more_branches, spell_entry, spell_entries, spell_more_entries}
use Rattle.cue_print.specs.Spelled.{join_texts, enclose_text}
use Rattle.print_laws.specs.Kinds.{IsKindRead}
use Rattle.print_laws.specs.Inner.Joining.{Leads, HasTokenEnd, AreRead}
use Rattle.print_laws.specs.Spelled.{spelled_kinds}
use Rattle.print_laws.specs.PrintedTree.{unified_expression}
use Rattle.print_laws.proofs.Joins.{joined_read, led, read_on}

spelled_then : (p q : List SpelledPiece) → spelled_kinds (p ++ q) ≡ spelled_kinds p ++ spelled_kinds q
spelled_then p q = map-append (λ (piece : SpelledPiece). piece.kind) p q

-- kinds with a sign between each two rows
abbrev pub joined_kinds : TokenKind → List (List TokenKind) → List TokenKind
joined_kinds sign [] = []
joined_kinds sign (k ∷ ks) = k ++ flat_map (λ other. (sign ∷ []) ++ other) ks

-- Texts that are read are read with separators between them.
pub row_read : {separator : List ℕ} {sign : TokenKind} (first : List ℕ) (others : List (List ℕ)) (ks : List (List TokenKind)) → HasTokenEnd separator → Leads separator (sign ∷ []) → AreRead (first ∷ others) ks
    → IsKindRead (join_texts separator (first ∷ others)) (joined_kinds sign ks)
row_read first others [] stop leads are = absurd are
row_read first others (k ∷ ks) stop leads are = joined_read others ks stop leads are.0 are.1

-- And in brackets, also where there are none.
pub enclosed_read : {before separator after : List ℕ} {opens closes : List TokenKind} {sign : TokenKind} (texts : List (List ℕ)) (ks : List (List TokenKind)) → Leads before opens → HasTokenEnd separator → Leads separator (sign ∷ []) → HasTokenEnd after → IsKindRead after closes → AreRead texts ks
    → IsKindRead (enclose_text before (join_texts separator texts) after) (opens ++ (joined_kinds sign ks ++ closes))
enclosed_read [] [] begins stop leads end ends are = led begins ends
enclosed_read [] (k ∷ ks) begins stop leads end ends are = absurd are
enclosed_read (t ∷ ts) ks begins stop leads end ends are = led begins (read_on end (row_read t ts ks stop leads are) ends)

-- ---- elements
abbrev pub each_kinds : Elements → List (List TokenKind)
each_kinds no_elements = []
each_kinds (element e es) = spelled_kinds (spell e) ∷ each_kinds es

more_elements : (sign : TokenKind) (es : Elements) → spelled_kinds (spell_more_elements sign es) ≡ flat_map (λ other. (sign ∷ []) ++ other) (each_kinds es)
more_elements sign no_elements = refl
more_elements sign (element e es) =
    spelled_then (one sign ++ spell e) (spell_more_elements sign es) ∙ ap (λ ks. (sign ∷ spelled_kinds (spell e)) ++ ks) (more_elements sign es)

pub elements_spelled : (sign : TokenKind) (es : Elements) → joined_kinds sign (each_kinds es) ≡ spelled_kinds (spell_elements sign es)
elements_spelled sign no_elements = refl
elements_spelled sign (element e es) = sym (spelled_then (spell e) (spell_more_elements sign es) ∙ ap (λ ks. spelled_kinds (spell e) ++ ks) (more_elements sign es))

-- what is unified: one stands alone
pub unified_spelled : (es : Elements) → joined_kinds (kinds.Mark points.Ampersand) (each_kinds es) ≡ spelled_kinds (spell (unified_expression es))
unified_spelled no_elements = refl
unified_spelled (element e no_elements) = append-nil (spelled_kinds (spell e))
unified_spelled (element d (element e es)) = elements_spelled (kinds.Mark points.Ampersand) (element d (element e es))

-- ---- branches
abbrev pub each_branch : Branches → List (List TokenKind)
each_branch no_branches = []
each_branch (next_branch b bs) = spelled_kinds (spell_branch b) ∷ each_branch bs

more_branches : (bs : Branches) → spelled_kinds (spell_more_branches bs) ≡ flat_map (λ other. (kinds.Mark points.Bar ∷ []) ++ other) (each_branch bs)
more_branches no_branches = refl
more_branches (next_branch b bs) =
    spelled_then (one (kinds.Mark points.Bar) ++ spell_branch b) (spell_more_branches bs) ∙ ap (λ ks. (kinds.Mark points.Bar ∷ spelled_kinds (spell_branch b)) ++ ks) (more_branches bs)

pub branches_spelled : (bs : Branches) → joined_kinds (kinds.Mark points.Bar) (each_branch bs) ≡ spelled_kinds (spell_branches bs)
branches_spelled no_branches = refl
branches_spelled (next_branch b bs) = sym (spelled_then (spell_branch b) (spell_more_branches bs) ∙ ap (λ ks. spelled_kinds (spell_branch b) ++ ks) (more_branches bs))

-- ---- declarations
abbrev pub each_entry : Entries → List (List TokenKind)
each_entry no_entries = []
each_entry (entry e es) = spelled_kinds (spell_entry e) ∷ each_entry es

more_entries : (es : Entries) → spelled_kinds (spell_more_entries es) ≡ flat_map (λ other. (kinds.Mark points.Comma ∷ []) ++ other) (each_entry es)
more_entries no_entries = refl
more_entries (entry e es) =
    spelled_then (one (kinds.Mark points.Comma) ++ spell_entry e) (spell_more_entries es) ∙ ap (λ ks. (kinds.Mark points.Comma ∷ spelled_kinds (spell_entry e)) ++ ks) (more_entries es)

pub entries_spelled : (es : Entries) → joined_kinds (kinds.Mark points.Comma) (each_entry es) ≡ spelled_kinds (spell_entries es)
entries_spelled no_entries = refl
entries_spelled (entry e es) = sym (spelled_then (spell_entry e) (spell_more_entries es) ∙ ap (λ ks. spelled_kinds (spell_entry e) ++ ks) (more_entries es))
