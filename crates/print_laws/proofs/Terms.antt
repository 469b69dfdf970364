-- Printed disjunctions of scalars are read.
use Rattle.std.proofs.Common.{◌≡◌, ℕ, ℤ, Bool, true, false, List, [], ◌∷◌, ◌++◌, map, Option, None, Some, refl, sym, ap, ◌∙◌, append_assoc, append-nil, codes, if◌then◌else◌}
use Rattle.std.specs.List.{AllByRecursion}
use Rattle.std.proofs.lemmas.List.{map-append}
use Rattle.cue_lattice.specs.Word.{IsWord}
use Rattle.cue_lex.specs.declared.token.TokenKind.TheVariants as kinds
use Rattle.cue_lex.specs.declared.punctuation.Punctuation.TheVariants as points
use Rattle.cue_row.specs.Quoted.{quote_text}
use Rattle.cue_syntax.specs.Syntax as grammar
use Rattle.cue_syntax.specs.Spelling.{SpelledPiece, one, place_first, spell, spell_signed, spell_branch, spell_branches, spell_more_branches}
use Rattle.cue_print.specs.Expressions.{PrintedTerm, null, truths, truth, integers, number, at_most, at_least, between, texts, text, other_texts}
use Rattle.cue_print.specs.Spelled.{enclose_text, spell_unequal, term_text, terms_text, is_compound, operand_text, default_text}
use Rattle.print_laws.specs.Kinds.{IsKindRead}
use Rattle.print_laws.specs.Inner.Joining.{AreRead}
use Rattle.print_laws.specs.Spelled.{spelled_kinds}
use Rattle.print_laws.specs.Inner.Printable.{IsPrintableTerm, ArePrintableTerms, IsPrintableDefault}
use Rattle.print_laws.specs.PrintedTree.{signed_of_integer, term_tree, printed_branches, terms_branches, terms_tree, operand_tree, scalar_tree}
use Rattle.print_laws.proofs.Integers.{integer_read}
use Rattle.print_laws.proofs.Joins.{leads_on, led, read_then, read_on, read_as}
use Rattle.print_laws.proofs.Marks.{at_most_leads, at_least_leads, not_equal_leads, star_leads, parenthesis_leads, and_leads, bar_leads, bottom_read, close_parenthesis_read, stop_space, stop_parenthesis}
use Rattle.print_laws.proofs.Names.{null_read, bool_read, false_read, true_read, int_read, string_read}
use Rattle.print_laws.proofs.Pieces.{placed_kinds}
use Rattle.print_laws.proofs.Rows.{row_read, each_kinds, unified_spelled, each_branch, branches_spelled}
use Rattle.print_laws.proofs.Texts.{text_read}

word_read : (t : List ℕ) → IsWord t → IsKindRead (quote_text t) (kinds.Text t ∷ [])
word_read t is = text_read t is.utf8 is.short

-- ---- texts that are left out
unequal_read : (t : List ℕ) → IsWord t → IsKindRead (spell_unequal t) (kinds.Mark points.NotEqual ∷ kinds.Text t ∷ [])
unequal_read t is = led not_equal_leads (word_read t is)

others_read : (ts : List (List ℕ)) → AllByRecursion IsWord ts → AreRead (map spell_unequal ts) (each_kinds (grammar.elements_of (map grammar.other_text ts)))
others_read [] are = tt
others_read (t ∷ ts) are = (unequal_read t are.0, others_read ts are.1)

-- ---- a term
between_read : (m n : ℤ) → IsPrintableTerm (between m n) → IsKindRead (term_text (between m n)) (spelled_kinds (spell (term_tree (between m n))))
unfolding term_text term_tree
between_read m n is =
    let least = integer_read m is.0 in
    let most = integer_read n is.1 in
    let a = spell_signed (signed_of_integer m) in
    let b = spell_signed (signed_of_integer n) in
    let piece = λ (p : SpelledPiece). p.kind in
    let front = one (kinds.Mark points.AtLeast) ++ a in
    let same : (kinds.Mark points.AtLeast ∷ []) ++ (spelled_kinds a ++ ((kinds.Mark points.Ampersand ∷ kinds.Mark points.AtMost ∷ []) ++ spelled_kinds b))
    ≡ spelled_kinds ((one (kinds.Mark points.AtLeast) ++ a) ++ ((one (kinds.Mark points.Ampersand) ++ (one (kinds.Mark points.AtMost) ++ b)) ++ [])) =
    ap (λ ks. kinds.Mark points.AtLeast ∷ (spelled_kinds a ++ (kinds.Mark points.Ampersand ∷ kinds.Mark points.AtMost ∷ ks))) (ap spelled_kinds (sym (append-nil b)))
    ∙ ap (λ ks. kinds.Mark points.AtLeast ∷ ks) (sym (map-append piece a (one (kinds.Mark points.Ampersand) ++ (one (kinds.Mark points.AtMost) ++ b) ++ []))) in
    read_as same (led at_least_leads (read_on (λ rest. stop_space) least (led (leads_on and_leads at_most_leads) most)))

pub term_read : (term : PrintedTerm) → IsPrintableTerm term → IsKindRead (term_text term) (spelled_kinds (spell (term_tree term)))
unfolding term_text term_tree
term_read null is = null_read
term_read truths is = bool_read
term_read (truth false) is = false_read
term_read (truth true) is = true_read
term_read integers is = int_read
term_read (number n) is = integer_read n is
term_read (at_most n) is = led at_most_leads (integer_read n is)
term_read (at_least n) is = led at_least_leads (integer_read n is)
term_read (between m n) is = between_read m n is
term_read texts is = string_read
term_read (text t) is = word_read t is
term_read (other_texts []) is = absurd is
term_read (other_texts (t ∷ ts)) is =
    read_as (unified_spelled (grammar.elements_of (map grammar.other_text (t ∷ ts))))
    (row_read (spell_unequal t) (map spell_unequal ts) (each_kinds (grammar.elements_of (map grammar.other_text (t ∷ ts)))) (λ rest. stop_space) and_leads (others_read (t ∷ ts) is))

-- ---- several terms
branch_read : (term : PrintedTerm) → IsPrintableTerm term → IsKindRead (term_text term) (spelled_kinds (spell_branch (grammar.branch false 0 (term_tree term))))
branch_read term is = read_as (sym (placed_kinds 0 (spell (term_tree term)))) (term_read term is)

each_read : (terms : List PrintedTerm) → ArePrintableTerms terms → AreRead (map term_text terms) (each_branch (printed_branches terms))
each_read [] are = tt
each_read (term ∷ terms) are = (branch_read term are.0, each_read terms are.1)

-- as the branches of a disjunction
branches_read : (terms : List PrintedTerm) → ArePrintableTerms terms → IsKindRead (terms_text terms) (spelled_kinds (spell_branches (terms_branches terms)))
unfolding terms_text
branches_read [] are = bottom_read
branches_read (term ∷ terms) are =
    read_as (branches_spelled (printed_branches (term ∷ terms)))
    (row_read (term_text term) (map term_text terms) (each_branch (printed_branches (term ∷ terms))) (λ rest. stop_space) bar_leads (each_read (term ∷ terms) are))

one_branch : (term : PrintedTerm) → spelled_kinds (spell_branches (terms_branches (term ∷ []))) ≡ spelled_kinds (spell (term_tree term))
one_branch term = ap spelled_kinds (append-nil (place_first 0 (spell (term_tree term)))) ∙ placed_kinds 0 (spell (term_tree term))

-- as an expression
pub terms_read : (terms : List PrintedTerm) → ArePrintableTerms terms → IsKindRead (terms_text terms) (spelled_kinds (spell (terms_tree terms)))
unfolding terms_text terms_tree
terms_read [] are = bottom_read
terms_read (term ∷ []) are = read_as (one_branch term) (branches_read (term ∷ []) are)
terms_read (first ∷ second ∷ others) are = branches_read (first ∷ second ∷ others) are

-- in parentheses
in_parentheses : (e : grammar.Expression) → (kinds.Mark points.OpenParenthesis ∷ []) ++ (spelled_kinds (spell e) ++ (kinds.Mark points.CloseParenthesis ∷ [])) ≡ spelled_kinds (spell (grammar.parenthesis e false))
in_parentheses e =
    let piece = λ (p : SpelledPiece). p.kind in
    ap (λ ks. kinds.Mark points.OpenParenthesis ∷ (ks ++ (kinds.Mark points.CloseParenthesis ∷ []))) (ap spelled_kinds (sym (append-nil (spell e))))
    ∙ ap (λ ks. kinds.Mark points.OpenParenthesis ∷ ks) (sym (map-append piece (spell e ++ []) (one (kinds.Mark points.CloseParenthesis))))

operand_by : (terms : List PrintedTerm) (compound : Bool) → ArePrintableTerms terms → IsKindRead (if compound then enclose_text (codes "(") (terms_text terms) (codes ")") else terms_text terms)
    (spelled_kinds (spell (if compound then grammar.parenthesis (terms_tree terms) false else terms_tree terms)))
operand_by terms true are = read_as (in_parentheses (terms_tree terms)) (led parenthesis_leads (read_on (λ rest. stop_parenthesis) (terms_read terms are) close_parenthesis_read))
operand_by terms false are = terms_read terms are

pub operand_read : (terms : List PrintedTerm) → ArePrintableTerms terms → IsKindRead (operand_text terms) (spelled_kinds (spell (operand_tree terms)))
unfolding operand_text operand_tree
operand_read terms are = operand_by terms (is_compound terms) are

-- a default in front of other terms
more_spelled : (b : grammar.Branch) (bs : grammar.Branches) → spelled_kinds (spell_more_branches (grammar.next_branch b bs)) ≡ kinds.Mark points.Bar ∷ spelled_kinds (spell_branches (grammar.next_branch b bs))
more_spelled b bs = refl

more_terms : (terms : List PrintedTerm) → spelled_kinds (spell_more_branches (terms_branches terms)) ≡ kinds.Mark points.Bar ∷ spelled_kinds (spell_branches (terms_branches terms))
more_terms [] = refl
more_terms (term ∷ terms) = more_spelled (grammar.branch false 0 (term_tree term)) (printed_branches terms)

default_spelled : (usual : grammar.Expression) (terms : List PrintedTerm) → ((kinds.Mark points.Star ∷ []) ++ (spelled_kinds (spell usual) ++ (kinds.Mark points.Bar ∷ []))) ++ spelled_kinds (spell_branches (terms_branches terms))
    ≡ spelled_kinds (spell_branches (grammar.next_branch (grammar.branch true 0 usual) (terms_branches terms)))
default_spelled usual terms =
    let piece = λ (p : SpelledPiece). p.kind in
    let after = spelled_kinds (spell_branches (terms_branches terms)) in
    ap (λ ks. kinds.Mark points.Star ∷ ks) (append_assoc (spelled_kinds (spell usual)) (kinds.Mark points.Bar ∷ []) after)
    ∙ ap (λ ks. kinds.Mark points.Star ∷ (spelled_kinds (spell usual) ++ ks)) (sym (more_terms terms))
    ∙ ap (λ ks. kinds.Mark points.Star ∷ (ks ++ spelled_kinds (spell_more_branches (terms_branches terms)))) (sym (placed_kinds 0 (spell usual)))
    ∙ ap (λ ks. kinds.Mark points.Star ∷ ks) (sym (map-append piece (place_first 0 (spell usual)) (spell_more_branches (terms_branches terms))))

-- Printed scalars, with a default or without one.
pub scalar_read : (usual : Option (List PrintedTerm)) (terms : List PrintedTerm) → IsPrintableDefault usual → ArePrintableTerms terms → IsKindRead (default_text usual ++ terms_text terms) (spelled_kinds (spell (scalar_tree usual terms)))
unfolding default_text scalar_tree
scalar_read None terms none are = terms_read terms are
scalar_read (Some usual) terms some are =
    read_as (default_spelled (operand_tree usual) terms) (led (leads_on star_leads (read_then (λ rest. stop_space) (operand_read usual some) bar_leads)) (branches_read terms are))
