-- Printed values are read.
use Rattle.std.proofs.Common.{◌≡◌, ◌<◌, ℕ, false, List, [], ◌∷◌, ◌++◌, length, refl, sym, ap, ◌∙◌, arith, append_assoc, append-nil, flat_map, codes}
use Rattle.std.proofs.lemmas.List.{map-append}
use Rattle.cue_lattice.specs.Word.{IsWord}
use Rattle.cue_lex.specs.declared.token.TokenKind.{TokenKind}
use Rattle.cue_lex.specs.declared.token.TokenKind.TheVariants as kinds
use Rattle.cue_lex.specs.declared.punctuation.Punctuation.TheVariants as points
use Rattle.cue_row.specs.Quoted.{quote_text}
use Rattle.cue_row.specs.declared.level.Level.{Level}
use Rattle.cue_row.specs.declared.level.Level.TheVariants.{Optional, Required, Given}
use Rattle.cue_syntax.specs.Syntax as grammar
use Rattle.cue_syntax.specs.Spelling.{SpelledPiece, one, spell, spell_rest, spell_elements, spell_entry, spell_entries}
use Rattle.cue_print.specs.Expressions.{Value, top, scalar, all, Parts, no_parts, struct, close, list, bottom, Fields, no_more, field, Elements, no_elements, element, Ending, ends, goes_on, goes_on_as}
use Rattle.cue_print.specs.Spelled.{join_texts, enclose_text, mark_text, struct_text, list_text, value_text, part_texts, field_texts, element_texts, ending_texts}
use Rattle.print_laws.specs.Kinds.{IsKindRead}
use Rattle.print_laws.specs.Inner.Joining.{AreRead}
use Rattle.print_laws.specs.Spelled.{spelled_kinds}
use Rattle.print_laws.specs.Inner.Printable.{HasPart, IsPrintable, ArePrintableParts, ArePrintableFields, ArePrintableElements, IsPrintableEnding}
use Rattle.print_laws.specs.PrintedTree.{unified_expression, label_of, value_tree, part_trees, field_trees, element_trees, ending_tree}
use Rattle.print_laws.proofs.Joins.{led, read_on, read_as}
use Rattle.print_laws.proofs.Marks.{brace_leads, bracket_leads, comma_leads, and_leads, colon_leads, optional_leads, required_leads, bottom_read, ellipsis_read, ellipsis_read_on, close_parenthesis_read, close_brace_read, close_bracket_read, stop_space, stop_comma, stop_parenthesis, stop_brace, stop_bracket, stop_colon, stop_question, stop_exclamation}
use Rattle.print_laws.proofs.Names.{top_read, close_leads}
use Rattle.print_laws.proofs.Rows.{joined_kinds, row_read, enclosed_read, each_kinds, elements_spelled, unified_spelled, each_entry, entries_spelled}
use Rattle.print_laws.proofs.Terms.{scalar_read}
use Rattle.print_laws.proofs.Texts.{text_read}

-- ---- structs
braces : (es : grammar.Entries) → (kinds.Mark points.OpenBrace ∷ []) ++ (joined_kinds (kinds.Mark points.Comma) (each_entry es) ++ (kinds.Mark points.CloseBrace ∷ [])) ≡ spelled_kinds (spell (grammar.struct es false))
braces es =
    let piece = λ (p : SpelledPiece). p.kind in
    ap (λ ks. kinds.Mark points.OpenBrace ∷ (ks ++ (kinds.Mark points.CloseBrace ∷ []))) (entries_spelled es ∙ ap spelled_kinds (sym (append-nil (spell_entries es))))
    ∙ ap (λ ks. kinds.Mark points.OpenBrace ∷ ks) (sym (map-append piece (spell_entries es ++ []) (one (kinds.Mark points.CloseBrace))))

struct_read : (texts : List (List ℕ)) (es : grammar.Entries) → AreRead texts (each_entry es) → IsKindRead (struct_text texts) (spelled_kinds (spell (grammar.struct es false)))
struct_read texts es are = read_as (braces es) (enclosed_read texts (each_entry es) brace_leads (λ rest. stop_comma) comma_leads (λ rest. stop_brace) close_brace_read are)

closes : (es : grammar.Entries) → (kinds.Name (codes "close") ∷ kinds.Mark points.OpenParenthesis ∷ []) ++ (spelled_kinds (spell (grammar.struct es false)) ++ (kinds.Mark points.CloseParenthesis ∷ [])) ≡ spelled_kinds (spell (grammar.close 0 es false false))
closes es =
    let piece = λ (p : SpelledPiece). p.kind in
    let inside = spell (grammar.struct es false) in
    ap (λ ks. kinds.Name (codes "close") ∷ kinds.Mark points.OpenParenthesis ∷ (ks ++ (kinds.Mark points.CloseParenthesis ∷ []))) (ap spelled_kinds (sym (append-nil inside)))
    ∙ ap (λ ks. kinds.Name (codes "close") ∷ kinds.Mark points.OpenParenthesis ∷ ks) (sym (map-append piece (inside ++ []) (one (kinds.Mark points.CloseParenthesis))))

close_read : (texts : List (List ℕ)) (es : grammar.Entries) → AreRead texts (each_entry es) → IsKindRead (enclose_text (codes "close(") (struct_text texts) (codes ")")) (spelled_kinds (spell (grammar.close 0 es false false)))
close_read texts es are = read_as (closes es) (led close_leads (read_on (λ rest. stop_parenthesis) (struct_read texts es are) close_parenthesis_read))

-- ---- lists
rest_kinds : grammar.Rest → List (List TokenKind)
rest_kinds grammar.no_rest = []
rest_kinds grammar.any_rest = (kinds.Mark points.Ellipsis ∷ []) ∷ []
rest_kinds (grammar.each_rest e) = (kinds.Mark points.Ellipsis ∷ spelled_kinds (spell e)) ∷ []

tail_read : (texts tail : List (List ℕ)) (ks others : List (List TokenKind)) → AreRead texts ks → AreRead tail others → AreRead (texts ++ tail) (ks ++ others)
tail_read [] tail [] others are last = last
tail_read [] tail (k ∷ ks) others are last = absurd are
tail_read (t ∷ ts) tail [] others are last = absurd are
tail_read (t ∷ ts) tail (k ∷ ks) others are last = (are.0, tail_read ts tail ks others are.1 last)

flat_then : {X : Type 0} (f : X → List TokenKind) (xs ys : List X) → flat_map f (xs ++ ys) ≡ flat_map f xs ++ flat_map f ys
flat_then f [] ys = refl
flat_then f (x ∷ xs) ys = ap (λ ks. f x ++ ks) (flat_then f xs ys) ∙ sym (append_assoc (f x) (flat_map f xs) (flat_map f ys))

-- what stands behind some elements, with the comma before it
behind_joined : (e : grammar.Expression) (es : grammar.Elements) (pieces : List SpelledPiece) (end : List TokenKind) → spelled_kinds pieces ≡ kinds.Mark points.Comma ∷ end
    → joined_kinds (kinds.Mark points.Comma) (each_kinds (grammar.element e es) ++ end ∷ []) ≡ spelled_kinds (spell_elements (kinds.Mark points.Comma) (grammar.element e es) ++ pieces)
behind_joined e es pieces end same =
    let piece = λ (p : SpelledPiece). p.kind in
    let comma = λ (other : List TokenKind). (kinds.Mark points.Comma ∷ []) ++ other in
    let tail : List TokenKind = kinds.Mark points.Comma ∷ end in
    let front = spell_elements (kinds.Mark points.Comma) (grammar.element e es) in
    ap (λ ks. spelled_kinds (spell e) ++ ks) (flat_then comma (each_kinds es) (end ∷ []))
    ∙ sym (append_assoc (spelled_kinds (spell e)) (flat_map comma (each_kinds es)) (tail ++ []))
    ∙ ap (λ ks. ks ++ (tail ++ [])) (elements_spelled (kinds.Mark points.Comma) (grammar.element e es))
    ∙ ap (λ ks. spelled_kinds front ++ ks) (append-nil tail ∙ sym same)
    ∙ sym (map-append piece front pieces)

rest_joined : (es : grammar.Elements) (rest : grammar.Rest) → joined_kinds (kinds.Mark points.Comma) (each_kinds es ++ rest_kinds rest) ≡ spelled_kinds (spell_elements (kinds.Mark points.Comma) es ++ spell_rest es rest)
unfolding rest_kinds
rest_joined es grammar.no_rest =
    ap (joined_kinds (kinds.Mark points.Comma)) (append-nil (each_kinds es)) ∙ elements_spelled (kinds.Mark points.Comma) es ∙ ap spelled_kinds (sym (append-nil (spell_elements (kinds.Mark points.Comma) es)))
rest_joined grammar.no_elements grammar.any_rest = refl
rest_joined grammar.no_elements (grammar.each_rest e) = append-nil (kinds.Mark points.Ellipsis ∷ spelled_kinds (spell e))
rest_joined (grammar.element e es) grammar.any_rest = behind_joined e es (spell_rest (grammar.element e es) grammar.any_rest) (kinds.Mark points.Ellipsis ∷ []) refl
rest_joined (grammar.element e es) (grammar.each_rest f) = behind_joined e es (spell_rest (grammar.element e es) (grammar.each_rest f)) (kinds.Mark points.Ellipsis ∷ spelled_kinds (spell f)) refl

brackets : (es : grammar.Elements) (rest : grammar.Rest) → (kinds.Mark points.OpenBracket ∷ []) ++ (joined_kinds (kinds.Mark points.Comma) (each_kinds es ++ rest_kinds rest) ++ (kinds.Mark points.CloseBracket ∷ []))
    ≡ spelled_kinds (spell (grammar.list es rest false))
brackets es rest =
    let piece = λ (p : SpelledPiece). p.kind in
    let inside = spell_elements (kinds.Mark points.Comma) es ++ spell_rest es rest in
    ap (λ ks. kinds.Mark points.OpenBracket ∷ (ks ++ (kinds.Mark points.CloseBracket ∷ []))) (rest_joined es rest ∙ ap spelled_kinds (sym (append-nil inside)))
    ∙ ap (λ ks. kinds.Mark points.OpenBracket ∷ ks) (sym (map-append piece (inside ++ []) (one (kinds.Mark points.CloseBracket))))

list_read : (texts tail : List (List ℕ)) (es : grammar.Elements) (rest : grammar.Rest) → AreRead texts (each_kinds es) → AreRead tail (rest_kinds rest) → IsKindRead (list_text (texts ++ tail)) (spelled_kinds (spell (grammar.list es rest false)))
list_read texts tail es rest are last =
    read_as (brackets es rest)
    (enclosed_read (texts ++ tail) (each_kinds es ++ rest_kinds rest) bracket_leads (λ rest. stop_comma) comma_leads (λ rest. stop_bracket) close_bracket_read (tail_read texts tail (each_kinds es) (rest_kinds rest) are last))

-- ---- fields
field_read : (label : List ℕ) (level : Level) (v : List ℕ) (e : grammar.Expression) → IsWord label → IsKindRead v (spelled_kinds (spell e)) → IsKindRead (quote_text label ++ (mark_text level ++ v)) (spelled_kinds (spell_entry (grammar.field (label_of label level) [] e)))
field_read label Optional v e word is = read_on (λ rest. stop_question) (text_read label word.utf8 word.short) (led optional_leads is)
field_read label Required v e word is = read_on (λ rest. stop_exclamation) (text_read label word.utf8 word.short) (led required_leads is)
field_read label Given v e word is = read_on (λ rest. stop_colon) (text_read label word.utf8 word.short) (led colon_leads is)

-- ---- parts that are unified
parts_read : (texts : List (List ℕ)) (es : grammar.Elements) → 0 < length texts → AreRead texts (each_kinds es) → IsKindRead (join_texts (codes " & ") texts) (spelled_kinds (spell (unified_expression es)))
parts_read [] es some are = absurd (omega arith)
parts_read (t ∷ ts) es some are = read_as (unified_spelled es) (row_read t ts (each_kinds es) (λ rest. stop_space) and_leads are)

some_parts : (parts : Parts) → HasPart parts → 0 < length (part_texts parts)
unfolding part_texts
some_parts no_parts some = absurd some
some_parts (struct fields parts) some = omega arith
some_parts (close fields parts) some = omega arith
some_parts (list _ _ _) some = omega arith
some_parts (bottom parts) some = omega arith

-- ---- values
mutual
  unfolding value_text value_tree rest_kinds

  pub value_read : (value : Value) → IsPrintable value → IsKindRead (value_text value) (spelled_kinds (spell (value_tree value)))
  value_read top is = top_read
  value_read (scalar usual terms) is = scalar_read usual terms is.0 is.1
  value_read (all parts) is = parts_read (part_texts parts) (part_trees parts) (some_parts parts is.0) (each_part parts is.1)

  each_part : (parts : Parts) → ArePrintableParts parts → AreRead (part_texts parts) (each_kinds (part_trees parts))
  each_part no_parts are = tt
  each_part (struct fields parts) are = (struct_read (field_texts fields) (field_trees fields) (each_field fields are.0), each_part parts are.1)
  each_part (close fields parts) are = (close_read (field_texts fields) (field_trees fields) (each_field fields are.0), each_part parts are.1)
  each_part (list elements ending parts) are = (list_read (element_texts elements) (ending_texts ending) (element_trees elements) (ending_tree ending) (each_element elements are.0) (ending_read ending are.1), each_part parts are.2)
  each_part (bottom parts) are = (bottom_read, each_part parts are)

  pub each_field : (fields : Fields) → ArePrintableFields fields → AreRead (field_texts fields) (each_entry (field_trees fields))
  each_field no_more are = tt
  each_field (field label level value fields) are = (field_read label level (value_text value) (value_tree value) are.0 (value_read value are.1), each_field fields are.2)

  each_element : (elements : Elements) → ArePrintableElements elements → AreRead (element_texts elements) (each_kinds (element_trees elements))
  each_element no_elements are = tt
  each_element (element value elements) are = (value_read value are.0, each_element elements are.1)

  ending_read : (ending : Ending) → IsPrintableEnding ending → AreRead (ending_texts ending) (rest_kinds (ending_tree ending))
  ending_read ends is = tt
  ending_read goes_on is = (ellipsis_read, tt)
  ending_read (goes_on_as value) is = (ellipsis_read_on (value_read value is), tt)
