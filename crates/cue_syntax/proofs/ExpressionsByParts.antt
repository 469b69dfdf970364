-- What is read in parts is read as an expression.
use Rattle.std.proofs.Common.{◌≤◌, ◌≡◌, refl, sym, ap, ℕ, ◌+◌, ◌⊎◌, inl, inr, Bool, true, false, List, [], ◌∷◌, ◌++◌, append_assoc, append-nil, codes, arith}
use Rattle.cue_lex.specs.declared.token.Token.{Token}
use Rattle.cue_lex.specs.declared.token.TokenKind.TheVariants as kinds
use Rattle.cue_lex.specs.declared.punctuation.Punctuation.TheVariants as points
use Rattle.cue_syntax.specs.declared.tree.Comparison.{Comparison}
use Rattle.cue_syntax.specs.declared.tree.Identifier.TheVariants as identifiers
use Rattle.cue_syntax.specs.declared.tree.Sign.TheVariants as signs
use Rattle.cue_syntax.specs.Syntax.{Expression, name, integer, text, bottom, bound, other_integer, other_text, parenthesis, struct, close, list, conjunction, disjunction, Elements, no_elements, element, Branch, branch, Branches, no_branches, next_branch, Entries}
use Rattle.cue_syntax.specs.Spelling.{SpelledPiece, SpellsTree, IsTokenPlace, one, comma_if, comparison_kind, spell, spell_more_elements, spell_more_branches, spell_elements, spell_rest, spell_entries}
use Rattle.cue_syntax.specs.Grammar.{IsUnary, IsConjunct, AreRight, AreUnary, AreRightBranches, TwoBranches, levels_of_elements, levels_of_branches, Limit, greatest_magnitude}
use Rattle.cue_syntax.specs.Recogniser.{is_keyword}
use Rattle.cue_syntax.proofs.ReadingsJoin.{reads_then, reads_none, reads_placed}
use Rattle.cue_syntax.proofs.RowsGrow.{reads_same}
use Rattle.cue_syntax.proofs.StillToRead.{Keeps, Spelt, AnExpression, AUnary, AConjunct, ATerm, MoreParts, MoreTerms, FurtherTerms, SomeBranches, Declared, Listed, Closed, Shuts, Magnitude, IsSigned}
use Rattle.cue_syntax.proofs.EachStackEnds.{keeps_from, keeps_both, reads_kind, operand_is}

place : List Token → ℕ
place [] = 0
place (token ∷ tokens) = token.from

is_place : (a : List Token) → IsTokenPlace a (place a)
unfolding place
is_place [] = tt
is_place (token ∷ tokens) = refl

reads_end : {a b c : List Token} {p : List SpelledPiece} → SpellsTree a p b → SpellsTree b [] c → SpellsTree a p c
reads_end {p = p} first second = reads_same (append-nil p) (reads_then first second)

-- rows of pieces, bracketed from the left
pub three : (p q r : List SpelledPiece) → p ++ (q ++ r) ≡ p ++ q ++ r
three p q r = sym (append_assoc p q r)

-- the same of four rows
pub four : (p q r s : List SpelledPiece) → p ++ (q ++ (r ++ s)) ≡ p ++ q ++ r ++ s
four p q r s = simp append_assoc

-- the same of five rows
pub five : (p q r s u : List SpelledPiece) → p ++ (q ++ (r ++ (s ++ u))) ≡ p ++ q ++ r ++ s ++ u
five p q r s u = simp append_assoc

-- conjunctions
conjunct_is : (e : Expression) → IsUnary e → IsConjunct e
conjunct_is (disjunction bs) unary = unary
conjunct_is _ unary = tt

-- an operand or a bound, and further parts or none, are a part of a disjunction
pub unary_parts : {limit : Limit} {n : ℕ} {a b c : List Token} → AUnary limit n a b → MoreParts limit n b c → AConjunct limit n a c
unary_parts {limit} {n} {a} {b} {c} first more = by_parts more.part more.reads more.good more.within
  where
    by_parts : (es : Elements) → SpellsTree b (spell_more_elements (kinds.Mark points.Ampersand) es) c → AreRight es × AreUnary es → Keeps limit (levels_of_elements es + n) → AConjunct limit n a c
    by_parts no_elements reads good within = record {
      part = first.part;
      reads = reads_end first.reads reads;
      good = (first.good.0, conjunct_is first.part first.good.1);
      within = first.within;
    }
    by_parts (element e es) reads good within = record {
      part = conjunction (element first.part (element e es));
      reads = reads_then first.reads reads;
      good = (((first.good.0, good.0), (first.good.1, good.1), tt), tt);
      within = keeps_both first.within within (omega arith);
    }

-- `&`, an operand or a bound, and further parts or none are further parts
pub next_part : {limit : Limit} {n : ℕ} {a b c : List Token} (t : Token) → t.kind ≡ (kinds.Mark points.Ampersand) → AUnary limit n a b → MoreParts limit n b c → MoreParts limit n (t ∷ a) c
next_part t kind first more = record {
  part = element first.part more.part;
  reads = reads_kind t kind (reads_then first.reads more.reads);
  good = ((first.good.0, more.good.0), (first.good.1, more.good.1));
  within = keeps_both first.within more.within (omega arith);
}

-- disjunctions
-- a part of a disjunction is a term
pub conjunct_term : {limit : Limit} {n : ℕ} {a b : List Token} → AConjunct limit n a b → ATerm limit n a b
conjunct_term {a = a} first = record {
  part = branch false (place a) first.part;
  reads = reads_placed (place a) (is_place a) first.reads;
  good = first.good;
  within = first.within;
}

-- a star and then an operand or a bound are a term
pub star_term : {limit : Limit} {n : ℕ} {a b : List Token} (t : Token) → t.kind ≡ (kinds.Mark points.Star) → AUnary limit n a b → ATerm limit n (t ∷ a) b
star_term {a = a} t kind first = record {
  part = branch true (place a) first.part;
  reads = reads_kind t kind (reads_placed (place a) (is_place a) first.reads);
  good = first.good;
  within = first.within;
}

-- `|`, a term, and further terms or none are some further terms
pub next_term : {limit : Limit} {n : ℕ} {a b c : List Token} (t : Token) → t.kind ≡ (kinds.Mark points.Bar) → ATerm limit n a b → MoreTerms limit n b c → FurtherTerms limit n (t ∷ a) c
next_term t kind first more = record {
  part = next_branch first.part more.part;
  reads = reads_kind t kind (reads_then first.reads more.reads);
  good = ((first.good, more.good), tt);
  within = keeps_both first.within more.within (omega arith);
}

-- some further terms are further terms, of which there may be none
pub some_terms : {limit : Limit} {n : ℕ} {a b : List Token} → FurtherTerms limit n a b → MoreTerms limit n a b
some_terms more = record { part = more.part; reads = more.reads; good = more.good.0; within = more.within }

two_branches : (b : Branch) (bs : Branches) → SomeBranches bs → TwoBranches (next_branch b bs)
two_branches b (next_branch c bs) some = tt
two_branches b no_branches some = absurd some

-- a term and some further terms are an expression
pub term_terms : {limit : Limit} {n : ℕ} {a b c : List Token} → ATerm limit n a b → FurtherTerms limit n b c → AnExpression limit n a c
term_terms first more = record {
  part = disjunction (next_branch first.part more.part);
  reads = reads_then first.reads more.reads;
  good = ((first.good, more.good.0), two_branches first.part more.part more.good.1);
  within = keeps_both first.within more.within (omega arith);
}

-- a part of a disjunction, and further terms or none, are an expression
pub conjunct_terms : {limit : Limit} {n : ℕ} {a b c : List Token} → AConjunct limit n a b → MoreTerms limit n b c → AnExpression limit n a c
conjunct_terms {limit} {n} {a} {b} {c} first more = by_terms more.part more.reads more.good more.within
  where
    by_terms : (bs : Branches) → SpellsTree b (spell_more_branches bs) c → AreRightBranches bs → Keeps limit (levels_of_branches bs + n) → AnExpression limit n a c
    by_terms no_branches reads good within = record { part = first.part; reads = reads_end first.reads reads; good = first.good.0; within = first.within }
    by_terms (next_branch d bs) reads good within =
        let further : FurtherTerms limit n b c = record { part = next_branch d bs; reads = reads; good = (good, tt); within = within } in
        term_terms (conjunct_term first) further

-- operands
-- a plain name that is no keyword is an operand
pub name_unary : {limit : Limit} {n : ℕ} {a : List Token} (t : Token) (word : List ℕ) → t.kind ≡ kinds.Name word → is_keyword word ≡ false → Keeps limit n → AUnary limit n (t ∷ a) a
name_unary t word kind other keeps = record {
  part = name (identifiers.Plain word) t.from;
  reads = record { follows = (kind, (refl, tt), refl) };
  good = (operand_is word other, tt);
  within = keeps_from keeps (omega arith);
}

-- the name of a definition is an operand
pub definition_unary : {limit : Limit} {n : ℕ} {a : List Token} (t : Token) (word : List ℕ) → t.kind ≡ kinds.Definition word → Keeps limit n → AUnary limit n (t ∷ a) a
definition_unary t word kind keeps = record {
  part = name (identifiers.Definition word) t.from;
  reads = record { follows = (kind, (refl, tt), refl) };
  good = (tt, tt);
  within = keeps_from keeps (omega arith);
}

-- a hidden name is an operand
pub hidden_unary : {limit : Limit} {n : ℕ} {a : List Token} (t : Token) (word : List ℕ) → t.kind ≡ kinds.Hidden word → Keeps limit n → AUnary limit n (t ∷ a) a
hidden_unary t word kind keeps = record {
  part = name (identifiers.Hidden word) t.from;
  reads = record { follows = (kind, (refl, tt), refl) };
  good = (tt, tt);
  within = keeps_from keeps (omega arith);
}

-- a string is an operand
pub text_unary : {limit : Limit} {n : ℕ} {a : List Token} (t : Token) (bytes : List ℕ) → t.kind ≡ kinds.Text bytes → Keeps limit n → AUnary limit n (t ∷ a) a
text_unary t bytes kind keeps = record { part = text bytes; reads = reads_kind t kind reads_none; good = (tt, tt); within = keeps_from keeps (omega arith) }

-- `_|_` is an operand
pub bottom_unary : {limit : Limit} {n : ℕ} {a : List Token} (t : Token) → t.kind ≡ kinds.Bottom → Keeps limit n → AUnary limit n (t ∷ a) a
bottom_unary t kind keeps = record { part = bottom; reads = reads_kind t kind reads_none; good = (tt, tt); within = keeps_from keeps (omega arith) }

-- an integer with its sign is an operand
pub signed_unary : {limit : Limit} {n : ℕ} {a b : List Token} → IsSigned a b → Keeps limit n → AUnary limit n a b
signed_unary first keeps = record { part = integer first.part; reads = first.reads; good = (first.range, tt); within = keeps_from keeps (omega arith) }

-- digits that are in range are an integer without a sign
pub integer_signed : {a : List Token} (t : Token) (n : ℕ) → t.kind ≡ kinds.Integer n → n ≤ greatest_magnitude signs.Absent → IsSigned (t ∷ a) a
integer_signed t n kind range = record { part = record { sign = signs.Absent; magnitude = n }; reads = reads_kind t kind reads_none; range = range }

-- `-` and then a magnitude in its range are an integer
pub minus_signed : {a b : List Token} (t : Token) → t.kind ≡ (kinds.Mark points.Minus) → Magnitude signs.Minus a b → IsSigned (t ∷ a) b
minus_signed t kind first = record { part = record { sign = signs.Minus; magnitude = first.part }; reads = reads_kind t kind first.reads; range = first.range }

-- `+` and then a magnitude in its range are an integer
pub plus_signed : {a b : List Token} (t : Token) → t.kind ≡ (kinds.Mark points.Plus) → Magnitude signs.Plus a b → IsSigned (t ∷ a) b
plus_signed t kind first = record { part = record { sign = signs.Plus; magnitude = first.part }; reads = reads_kind t kind first.reads; range = first.range }

-- a comparison and then an integer are a bound
pub bound_unary : {limit : Limit} {n : ℕ} {a b : List Token} (t : Token) (c : Comparison) → t.kind ≡ comparison_kind c → IsSigned a b → Keeps limit n → AUnary limit n (t ∷ a) b
bound_unary t c kind first keeps = record { part = bound c first.part; reads = reads_kind t kind first.reads; good = (first.range, tt); within = keeps_from keeps (omega arith) }

-- `!=` and then an integer or a string are a bound
pub other_unary : {limit : Limit} {n : ℕ} {a b : List Token} (t : Token) → t.kind ≡ (kinds.Mark points.NotEqual) → IsSigned a b ⊎ Spelt (List ℕ) (λ z. one (kinds.Text z)) a b → Keeps limit n
    → AUnary limit n (t ∷ a) b
other_unary t kind (inl first) keeps = record { part = other_integer first.part; reads = reads_kind t kind first.reads; good = (first.range, tt); within = keeps_from keeps (omega arith) }
other_unary t kind (inr first) keeps = record { part = other_text first.part; reads = reads_kind t kind first.reads; good = (tt, tt); within = keeps_from keeps (omega arith) }

-- what opens levels
-- a parenthesis, an expression and the closing one are an operand
pub parenthesis_unary : {limit : Limit} {n : ℕ} {a b c : List Token} (t : Token) → t.kind ≡ (kinds.Mark points.OpenParenthesis) → AnExpression limit (1 + n) a b → Shuts (kinds.Mark points.CloseParenthesis) b c
    → AUnary limit n (t ∷ a) c
parenthesis_unary t kind first shuts = record {
  part = parenthesis first.part shuts.part;
  reads = reads_kind t kind (reads_same (three (spell first.part) (comma_if shuts.part) (one (kinds.Mark points.CloseParenthesis))) (reads_then first.reads shuts.reads));
  good = (first.good, tt);
  within = keeps_from first.within (omega arith);
}

-- an opening brace, and declarations up to the closing one, are an operand
pub struct_unary : {limit : Limit} {n : ℕ} {a b : List Token} (t : Token) → t.kind ≡ (kinds.Mark points.OpenBrace) → Declared false limit (1 + n) a b → AUnary limit n (t ∷ a) b
struct_unary t kind first = record {
  part = struct first.tree first.comma;
  reads = reads_kind t kind (reads_same (three (spell_entries first.tree) (comma_if first.comma) (one (kinds.Mark points.CloseBrace))) first.reads);
  good = ((first.right, first.nested, first.ends), tt);
  within = keeps_from first.within (omega arith);
}

-- an opening bracket, and elements up to the closing one, are an operand
pub list_unary : {limit : Limit} {n : ℕ} {a b : List Token} (t : Token) → t.kind ≡ (kinds.Mark points.OpenBracket) → Listed limit (1 + n) a b → AUnary limit n (t ∷ a) b
list_unary t kind first = record {
  part = list first.tree first.tail first.comma;
  reads = reads_kind t kind (reads_same (four (spell_elements (kinds.Mark points.Comma) first.tree) (spell_rest first.tree first.tail) (comma_if first.comma) (one (kinds.Mark points.CloseBracket))) first.reads);
  good = ((first.right, first.rest_right, first.ends), tt);
  within = keeps_from first.within (omega arith);
}

close_reads : {a b : List Token} (es : Entries) (inner comma : Bool)
    → SpellsTree a (one (kinds.Mark points.OpenBrace) ++ (spell_entries es ++ (comma_if inner ++ (one (kinds.Mark points.CloseBrace) ++ (comma_if comma ++ one (kinds.Mark points.CloseParenthesis)))))) b
    → SpellsTree a ((one (kinds.Mark points.OpenBrace) ++ spell_entries es ++ comma_if inner ++ one (kinds.Mark points.CloseBrace)) ++ comma_if comma ++ one (kinds.Mark points.CloseParenthesis)) b
close_reads es inner comma reads = reads_same (ap (λ z. one (kinds.Mark points.OpenBrace) ++ z) (five (spell_entries es) (comma_if inner) (one (kinds.Mark points.CloseBrace)) (comma_if comma) (one (kinds.Mark points.CloseParenthesis)))) reads

-- `close(`, and what completes it, are an operand
pub close_unary : {limit : Limit} {n : ℕ} {a b : List Token} (first t : Token) → first.kind ≡ kinds.Name (codes "close") → t.kind ≡ (kinds.Mark points.OpenParenthesis) → Closed limit (2 + n) a b
    → AUnary limit n (first ∷ t ∷ a) b
close_unary first t name_kind kind closed = record {
  part = close first.from closed.tree closed.inner closed.comma;
  reads = record { follows = (name_kind, (refl, tt), (kind, tt, (close_reads closed.tree closed.inner closed.comma closed.reads).follows)) };
  good = ((closed.right, closed.nested, closed.ends), tt);
  within = keeps_from closed.within (omega arith);
}
