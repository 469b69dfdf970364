-- Printed files are read.
use Rattle.std.proofs.Common.{◌≡◌, ◌⊎◌, inl, inr, ℕ, Bool, true, false, List, [], ◌∷◌, ◌++◌, None, Some, Ok, Err, refl, sym, ap, subst₂, ◌∙◌, append_assoc, flat_map, codes, length, nat_le}
use Rattle.std.proofs.lemmas.List.{map-append}
use Rattle.cue_lattice.specs.Limits.{text_limit}
use Rattle.cue_lex.specs.declared.token.Token.{Token}
use Rattle.cue_lex.specs.declared.token.TokenKind.{TokenKind}
use Rattle.cue_lex.specs.declared.token.TokenKind.TheVariants as kinds
use Rattle.cue_lex.specs.declared.punctuation.Punctuation.TheVariants as points
use Rattle.cue_lex.specs.Tokens.{tokens, text_too_long, pieces, commas}
use Rattle.cue_syntax.specs.Syntax as grammar
use Rattle.cue_syntax.specs.Spelling.{SpelledPiece, comma_if, spell_entry, spell_entries, spell_file}
use Rattle.cue_print.specs.Expressions.{Fields, no_more, field}
use Rattle.cue_print.specs.Spelled.{line, field_texts, file_text}
use Rattle.print_laws.specs.Kinds.{HasKinds}
use Rattle.print_laws.specs.Inner.Joining.{AreRead}
use Rattle.print_laws.specs.Spelled.{spelled_kinds}
use Rattle.print_laws.specs.Inner.Printable.{ArePrintableFields}
use Rattle.print_laws.specs.PrintedTree.{label_of, value_tree, field_trees, printed_file_tree}
use Rattle.print_laws.specs.Reading.{IsSpelling}
use Rattle.print_laws.proofs.Fronts.{no_kinds, after_break}
use Rattle.print_laws.proofs.Marks.{stop_break}
use Rattle.print_laws.proofs.Rows.{joined_kinds, each_entry, entries_spelled}
use Rattle.print_laws.proofs.Placed.{place_file}
use Rattle.print_laws.proofs.Values.{each_field}
use Rattle.print_laws.proofs.Acceptance.{spelled_file}
use Rattle.print_laws.proofs.Bare.{unplaced_already}

-- a comma is inserted behind each line
abbrev line_kinds : List TokenKind → List TokenKind
line_kinds ks = ks ++ (kinds.Mark points.Comma ∷ [])

-- Texts that are read stand in lines of their own.
pub lines_read : (texts : List (List ℕ)) (ks : List (List TokenKind)) → AreRead texts ks → HasKinds false false (flat_map line texts) (flat_map (λ k. k ++ (kinds.Mark points.Comma ∷ [])) ks)
lines_read [] [] are = no_kinds false false
lines_read [] (k ∷ ks) are = absurd are
lines_read (t ∷ ts) [] are = absurd are
lines_read (t ∷ ts) (k ∷ ks) are =
    let behind = lines_read ts ks are.1 in
    subst₂ (λ text all. HasKinds false false text all) (sym (append_assoc t (codes "\n") (flat_map line ts))) (sym (append_assoc k (kinds.Mark points.Comma ∷ []) (flat_map (λ k. k ++ (kinds.Mark points.Comma ∷ [])) ks)))
    (are.0.reads false (10 ∷ flat_map line ts) (kinds.Mark points.Comma ∷ flat_map (λ k. k ++ (kinds.Mark points.Comma ∷ [])) ks) stop_break (after_break behind))

-- a sign before each row and at the end, or behind each row and at the front
moved : (sign : TokenKind) (ks : List (List TokenKind)) → flat_map (λ k. (sign ∷ []) ++ k) ks ++ (sign ∷ []) ≡ sign ∷ flat_map (λ k. k ++ (sign ∷ [])) ks
moved sign [] = refl
moved sign (k ∷ ks) =
    ap (λ xs. sign ∷ xs)
    (append_assoc k (flat_map (λ k. (sign ∷ []) ++ k) ks) (sign ∷ [])
    ∙ ap (λ xs. k ++ xs) (moved sign ks)
    ∙ sym (append_assoc k (sign ∷ []) (flat_map (λ k. k ++ (sign ∷ [])) ks)))

line_signs : (k : List TokenKind) (ks : List (List TokenKind)) → flat_map (λ k. k ++ (kinds.Mark points.Comma ∷ [])) (k ∷ ks) ≡ joined_kinds (kinds.Mark points.Comma) (k ∷ ks) ++ (kinds.Mark points.Comma ∷ [])
line_signs k ks =
    let comma = kinds.Mark points.Comma in
    append_assoc k (comma ∷ []) (flat_map (λ k. k ++ (comma ∷ [])) ks)
    ∙ ap (λ xs. k ++ xs) (sym (moved comma ks))
    ∙ sym (append_assoc k (flat_map (λ k. (comma ∷ []) ++ k) ks) (comma ∷ []))

-- with a comma behind the last declaration
entries_lined : (e : grammar.Entry) (es : grammar.Entries) → flat_map (λ k. k ++ (kinds.Mark points.Comma ∷ [])) (each_entry (grammar.entry e es)) ≡ spelled_kinds (spell_entries (grammar.entry e es) ++ comma_if true)
entries_lined e es =
    let piece = λ (p : SpelledPiece). p.kind in
    line_signs (spelled_kinds (spell_entry e)) (each_entry es)
    ∙ ap (λ ks. ks ++ (kinds.Mark points.Comma ∷ [])) (entries_spelled (grammar.entry e es))
    ∙ sym (map-append piece (spell_entries (grammar.entry e es)) (comma_if true))

-- the kinds of a file's spelling
file_kinds : (fields : Fields) → flat_map (λ k. k ++ (kinds.Mark points.Comma ∷ [])) (each_entry (field_trees fields)) ≡ spelled_kinds (spell_file (printed_file_tree fields))
unfolding field_trees printed_file_tree
file_kinds no_more = refl
file_kinds (field label level value fields) = entries_lined (grammar.field (label_of label level) [] (value_tree value)) (field_trees fields)

-- The tokens of a text that is read, or it is too long.
tokens_by : (text : List ℕ) (found : List Token) → commas None (pieces false 0 0 text) ≡ Ok found → (fits : Bool) → nat_le (length text) text_limit ≡ fits → (tokens text ≡ Err text_too_long) ⊎ (tokens text ≡ Ok found)
unfolding tokens
tokens_by text found are true is = inr (rw is are)
tokens_by text found are false is = inl (rw is refl)

file_is : (fields : Fields) → file_text (Some fields) ≡ flat_map line (field_texts fields)
unfolding file_text
file_is fields = refl

-- The printed text of fields that can be printed is read as their tree.
pub file_read : (fields : Fields) → ArePrintableFields fields → (tokens (file_text (Some fields)) ≡ Err text_too_long) ⊎ IsSpelling (file_text (Some fields)) (printed_file_tree fields)
file_read fields are =
    let lines = lines_read (field_texts fields) (each_entry (field_trees fields)) (each_field fields are) in
    let lexed = lines.lexed 0 None refl in
    let placed = place_file (printed_file_tree fields) lexed.found (lexed.same ∙ file_kinds fields) in
    elim (tokens_by (flat_map line (field_texts fields)) lexed.found lexed.are (nat_le (length (flat_map line (field_texts fields))) text_limit) refl) [
      | inl long ↦ inl (ap tokens (file_is fields) ∙ long)
      | inr found ↦ inr (record { found = lexed.found; are = ap tokens (file_is fields) ∙ found; placed = placed.there; same = placed.same ∙ unplaced_already fields; spelled = spelled_file placed.there fields (placed.same ∙ unplaced_already fields) are lexed.found placed.reads })
    ]
