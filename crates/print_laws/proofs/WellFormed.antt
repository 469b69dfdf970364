-- The tree that a table is printed as follows the grammar, and its texts are words.
use Rattle.std.proofs.Common.{◌≡◌, ⊎_elim, ℕ, ℤ, pos, negsuc, ◌≤◌, Bool, true, false, List, [], ◌∷◌, length, map, nat_lt, Option, None, Some, refl, arith, codes, if◌then◌else◌}
use Rattle.std.specs.List.{list_all, AllByRecursion}
use Rattle.std.specs.Str.{bytes_eq}
use Rattle.std.proofs.lemmas.Slice.Eq.{bytes_eq-Decides}
use Rattle.cue_lattice.specs.Limits.{word_limit}
use Rattle.cue_lattice.specs.Scalar.{IsInteger}
use Rattle.cue_lattice.specs.Word.{IsWord}
use Rattle.cue_row.specs.declared.level.Level.{Level}
use Rattle.cue_syntax.specs.Syntax as grammar
use Rattle.cue_syntax.specs.Grammar.{IsKeyword, IsInRange, IsUnary, IsConjunct, AreUnary, AreNested, TwoBranches, IsRight, AreRight, IsRightRest, AreRightBranches, AreRightEntries, EndsEntries}
use Rattle.cue_syntax.specs.Words.{HasWords, HaveWords, HasWordsRest, HaveWordsBranches, HaveWordsEntries}
use Rattle.cue_print.specs.Expressions.{PrintedTerm, null, truths, truth, integers, number, at_most, at_least, between, texts, text, other_texts}
use Rattle.cue_print.specs.Expressions.{Value, top, scalar, all, Parts, no_parts, struct, close, list, bottom, Fields, no_more, field, Elements, no_elements, element, Ending, ends, goes_on, goes_on_as}
use Rattle.cue_print.specs.Spelled.{is_conjunction, is_compound}
use Rattle.print_laws.specs.Inner.Printable.{IsPrintableTerm, ArePrintableTerms, IsPrintableDefault, HasPart, IsPrintable, ArePrintableParts, ArePrintableFields, ArePrintableElements, IsPrintableEnding}
use Rattle.print_laws.specs.PrintedTree.{name_expression, signed_of_integer, unified_expression, label_of, term_tree, printed_branches, terms_branches, terms_tree, operand_tree, scalar_tree, value_tree, part_trees, field_trees, element_trees, ending_tree, has_some}
use Rattle.print_laws.proofs.Integers.{positive_below, negative_below}
use Rattle.print_laws.proofs.Marks.{ascii_text}

record IsWell (e : grammar.Expression) : Type 0 where
  pub right : IsRight e
  pub words : HasWords e

-- ---- names
-- a text that is none of the keywords
record IsNoKeyword (t : List ℕ) : Type 0 where
  pub no_let : bytes_eq t (codes "let") ≡ false
  pub no_for : bytes_eq t (codes "for") ≡ false
  pub no_if : bytes_eq t (codes "if") ≡ false
  pub no_import : bytes_eq t (codes "import") ≡ false
  pub no_in : bytes_eq t (codes "in") ≡ false
  pub no_package : bytes_eq t (codes "package") ≡ false

clash : (t k : List ℕ) → bytes_eq t k ≡ false → t ≡ k → ⊥
clash t k other same = let yes : bytes_eq t k ≡ true = (bytes_eq-Decides t k).1 same in cc

no_keyword : (t : List ℕ) → IsNoKeyword t → IsKeyword t → ⊥
no_keyword t is keyword =
    ⊎_elim
    (λ clause. ⊎_elim (clash t (codes "let") is.no_let) (λ a. ⊎_elim (clash t (codes "for") is.no_for) (λ b. ⊎_elim (clash t (codes "if") is.no_if) (clash t (codes "import") is.no_import) b) a) clause)
    (λ other. ⊎_elim (clash t (codes "in") is.no_in) (clash t (codes "package") is.no_package) other)
    keyword

ascii_word : (t : List ℕ) → list_all (λ b. nat_lt b 128) t ≡ true → length t ≤ word_limit → IsWord t
ascii_word t ascii short = record { utf8 = ascii_text t ascii; short = short }

named_well : (t : List ℕ) → IsNoKeyword t → list_all (λ b. nat_lt b 128) t ≡ true → length t ≤ word_limit → IsWell (name_expression t)
named_well t is ascii short = record { right = no_keyword t is; words = ascii_word t ascii short }

null_well : IsWell (name_expression (codes "null"))
null_well = named_well (codes "null") (record { no_let = refl; no_for = refl; no_if = refl; no_import = refl; no_in = refl; no_package = refl }) refl (omega arith)

bool_well : IsWell (name_expression (codes "bool"))
bool_well = named_well (codes "bool") (record { no_let = refl; no_for = refl; no_if = refl; no_import = refl; no_in = refl; no_package = refl }) refl (omega arith)

false_well : IsWell (name_expression (codes "false"))
false_well = named_well (codes "false") (record { no_let = refl; no_for = refl; no_if = refl; no_import = refl; no_in = refl; no_package = refl }) refl (omega arith)

true_well : IsWell (name_expression (codes "true"))
true_well = named_well (codes "true") (record { no_let = refl; no_for = refl; no_if = refl; no_import = refl; no_in = refl; no_package = refl }) refl (omega arith)

int_well : IsWell (name_expression (codes "int"))
int_well = named_well (codes "int") (record { no_let = refl; no_for = refl; no_if = refl; no_import = refl; no_in = refl; no_package = refl }) refl (omega arith)

string_well : IsWell (name_expression (codes "string"))
string_well = named_well (codes "string") (record { no_let = refl; no_for = refl; no_if = refl; no_import = refl; no_in = refl; no_package = refl }) refl (omega arith)

-- ---- terms
signed_within : (n : ℤ) → IsInteger n → IsInRange (signed_of_integer n)
signed_within (pos n) is = positive_below n is.1
signed_within (negsuc n) is = let below = negative_below n is.0 in omega arith

record AreWell (es : grammar.Elements) : Type 0 where
  pub right : AreRight es
  pub unary : AreUnary es
  pub words : HaveWords es

unified_well : (e : grammar.Expression) (es : grammar.Elements) → AreWell (grammar.element e es) → IsWell (unified_expression (grammar.element e es))
unified_well e grammar.no_elements are = record { right = are.right.0; words = are.words.0 }
unified_well e (grammar.element d ds) are = record { right = (are.right, are.unary, tt); words = are.words }

others_well : (ts : List (List ℕ)) → AllByRecursion IsWord ts → AreWell (grammar.elements_of (map grammar.other_text ts))
others_well [] are = record { right = tt; unary = tt; words = tt }
others_well (t ∷ ts) are = let more = others_well ts are.1 in record { right = (tt, more.right); unary = (tt, more.unary); words = (are.0, more.words) }

term_well : (term : PrintedTerm) → IsPrintableTerm term → IsWell (term_tree term)
unfolding term_tree
term_well null is = null_well
term_well truths is = bool_well
term_well (truth false) is = false_well
term_well (truth true) is = true_well
term_well integers is = int_well
term_well (number n) is = record { right = signed_within n is; words = tt }
term_well (at_most n) is = record { right = signed_within n is; words = tt }
term_well (at_least n) is = record { right = signed_within n is; words = tt }
term_well (between m n) is = record { right = ((signed_within m is.0, (signed_within n is.1, tt)), (tt, (tt, tt)), tt); words = (tt, (tt, tt)) }
term_well texts is = string_well
term_well (text t) is = record { right = tt; words = is }
term_well (other_texts []) is = absurd is
term_well (other_texts (t ∷ ts)) is = unified_well (grammar.other_text t) (grammar.elements_of (map grammar.other_text ts)) (others_well (t ∷ ts) is)

term_conjunct : (term : PrintedTerm) → IsConjunct (term_tree term)
unfolding term_tree
term_conjunct null = tt
term_conjunct truths = tt
term_conjunct (truth false) = tt
term_conjunct (truth true) = tt
term_conjunct integers = tt
term_conjunct (number n) = tt
term_conjunct (at_most n) = tt
term_conjunct (at_least n) = tt
term_conjunct (between m n) = tt
term_conjunct texts = tt
term_conjunct (text t) = tt
term_conjunct (other_texts []) = tt
term_conjunct (other_texts (t ∷ [])) = tt
term_conjunct (other_texts (t ∷ u ∷ ts)) = tt

term_unary : (term : PrintedTerm) → IsPrintableTerm term → is_conjunction term ≡ false → IsUnary (term_tree term)
unfolding term_tree
term_unary null is one = tt
term_unary truths is one = tt
term_unary (truth false) is one = tt
term_unary (truth true) is one = tt
term_unary integers is one = tt
term_unary (number n) is one = tt
term_unary (at_most n) is one = tt
term_unary (at_least n) is one = tt
term_unary (between m n) is one = cc
term_unary texts is one = tt
term_unary (text t) is one = tt
term_unary (other_texts []) is one = absurd is
term_unary (other_texts (t ∷ [])) is one = tt
term_unary (other_texts (t ∷ u ∷ ts)) is one = cc

-- ---- several terms
record AreWellBranches (bs : grammar.Branches) : Type 0 where
  pub right : AreRightBranches bs
  pub words : HaveWordsBranches bs

branches_well : (terms : List PrintedTerm) → ArePrintableTerms terms → AreWellBranches (printed_branches terms)
branches_well [] are = record { right = tt; words = tt }
branches_well (term ∷ terms) are =
    let here = term_well term are.0 in
    let more = branches_well terms are.1 in
    record { right = ((here.right, term_conjunct term), more.right); words = (here.words, more.words) }

terms_branches_well : (terms : List PrintedTerm) → ArePrintableTerms terms → AreWellBranches (terms_branches terms)
terms_branches_well [] are = record { right = ((tt, tt), tt); words = (tt, tt) }
terms_branches_well (term ∷ terms) are = branches_well (term ∷ terms) are

terms_well : (terms : List PrintedTerm) → ArePrintableTerms terms → IsWell (terms_tree terms)
unfolding terms_tree
terms_well [] are = record { right = tt; words = tt }
terms_well (term ∷ []) are = term_well term are.0
terms_well (first ∷ second ∷ others) are = let well = branches_well (first ∷ second ∷ others) are in record { right = (well.right, tt); words = well.words }

one_unary : (terms : List PrintedTerm) → ArePrintableTerms terms → is_compound terms ≡ false → IsUnary (terms_tree terms)
unfolding terms_tree
one_unary [] are one = tt
one_unary (term ∷ []) are one = term_unary term are.0 one
one_unary (first ∷ second ∷ others) are one = cc

-- a marked term is an operand
record IsWellOperand (e : grammar.Expression) : Type 0 where
  pub well : IsWell e
  pub unary : IsUnary e

operand_by : (terms : List PrintedTerm) (compound : Bool) → is_compound terms ≡ compound → ArePrintableTerms terms → IsWellOperand (if compound then grammar.parenthesis (terms_tree terms) false else terms_tree terms)
operand_by terms true is are = let well = terms_well terms are in record { well = record { right = well.right; words = well.words }; unary = tt }
operand_by terms false is are = record { well = terms_well terms are; unary = one_unary terms are is }

operand_well : (terms : List PrintedTerm) → ArePrintableTerms terms → IsWellOperand (operand_tree terms)
unfolding operand_tree
operand_well terms are = operand_by terms (is_compound terms) refl are

two_branches : (b : grammar.Branch) (terms : List PrintedTerm) → TwoBranches (grammar.next_branch b (terms_branches terms))
two_branches b [] = tt
two_branches b (term ∷ terms) = tt

scalar_well : (usual : Option (List PrintedTerm)) (terms : List PrintedTerm) → IsPrintableDefault usual → ArePrintableTerms terms → IsWell (scalar_tree usual terms)
unfolding scalar_tree
scalar_well None terms none are = terms_well terms are
scalar_well (Some usual) terms some are =
    let operand = operand_well usual some in
    let well = terms_branches_well terms are in
    record {
      right = (((operand.well.right, operand.unary), well.right), two_branches (grammar.branch true 0 (operand_tree usual)) terms);
      words = (operand.well.words, well.words);
    }

-- ---- values
pub record AreWellEntries (es : grammar.Entries) : Type 0 where
  pub right : AreRightEntries es
  pub nested : AreNested es
  pub words : HaveWordsEntries es

record AreWellElements (es : grammar.Elements) : Type 0 where
  pub right : AreRight es
  pub words : HaveWords es

record IsWellRest (rest : grammar.Rest) : Type 0 where
  pub right : IsRightRest rest
  pub words : HasWordsRest rest

parts_well : (es : grammar.Elements) → (es ≡ grammar.no_elements → ⊥) → AreWell es → IsWell (unified_expression es)
parts_well grammar.no_elements some are = absurd (some refl)
parts_well (grammar.element e es) some are = unified_well e es are

some_trees : (parts : Parts) → HasPart parts → part_trees parts ≡ grammar.no_elements → ⊥
unfolding part_trees
some_trees no_parts some none = absurd some
some_trees (struct fields parts) some none = cc
some_trees (close fields parts) some none = cc
some_trees (list _ _ _) some none = cc
some_trees (bottom parts) some none = cc

field_well : (label : List ℕ) (level : Level) (e : grammar.Expression) (es : grammar.Entries) → IsWord label → IsWell e → AreWellEntries es → AreWellEntries (grammar.entry (grammar.field (label_of label level) [] e) es)
field_well label level e es word well more = record { right = (well.right, more.right); nested = (tt, more.nested); words = ((word, tt, well.words), more.words) }

mutual
  unfolding value_tree

  value_well : (value : Value) → IsPrintable value → IsWell (value_tree value)
  value_well top is = record { right = tt; words = ascii_word (codes "_") refl (omega arith) }
  value_well (scalar usual terms) is = scalar_well usual terms is.0 is.1
  value_well (all parts) is = parts_well (part_trees parts) (some_trees parts is.0) (each_part_well parts is.1)

  each_part_well : (parts : Parts) → ArePrintableParts parts → AreWell (part_trees parts)
  each_part_well no_parts are = record { right = tt; unary = tt; words = tt }
  each_part_well (struct fields parts) are =
      let inside = fields_well fields are.0 in
      let more = each_part_well parts are.1 in
      record { right = ((inside.right, inside.nested, tt), more.right); unary = (tt, more.unary); words = (inside.words, more.words) }
  each_part_well (close fields parts) are =
      let inside = fields_well fields are.0 in
      let more = each_part_well parts are.1 in
      record { right = ((inside.right, inside.nested, tt), more.right); unary = (tt, more.unary); words = (inside.words, more.words) }
  each_part_well (list elements ending parts) are =
      let inside = elements_well elements are.0 in
      let end = ending_well ending are.1 in
      let more = each_part_well parts are.2 in
      record { right = ((inside.right, end.right, tt), more.right); unary = (tt, more.unary); words = ((inside.words, end.words), more.words) }
  each_part_well (bottom parts) are = let more = each_part_well parts are in record { right = (tt, more.right); unary = (tt, more.unary); words = (tt, more.words) }

  pub fields_well : (fields : Fields) → ArePrintableFields fields → AreWellEntries (field_trees fields)
  fields_well no_more are = record { right = tt; nested = tt; words = tt }
  fields_well (field label level value fields) are = field_well label level (value_tree value) (field_trees fields) are.0 (value_well value are.1) (fields_well fields are.2)

  elements_well : (elements : Elements) → ArePrintableElements elements → AreWellElements (element_trees elements)
  elements_well no_elements are = record { right = tt; words = tt }
  elements_well (element value elements) are =
      let here = value_well value are.0 in
      let more = elements_well elements are.1 in
      record { right = (here.right, more.right); words = (here.words, more.words) }

  ending_well : (ending : Ending) → IsPrintableEnding ending → IsWellRest (ending_tree ending)
  ending_well ends is = record { right = tt; words = tt }
  ending_well goes_on is = record { right = tt; words = tt }
  ending_well (goes_on_as value) is = let well = value_well value is in record { right = well.right; words = well.words }

pub ends_well : (fields : Fields) → EndsEntries (has_some fields) (field_trees fields)
unfolding field_trees
ends_well no_more = tt
ends_well (field label level value fields) = tt
