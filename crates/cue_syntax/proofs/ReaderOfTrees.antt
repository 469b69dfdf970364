-- A reader of trees, which looks at no more of the tokens than tells trees apart. What it answers where no tree stands
-- means nothing. It serves the proof that a spelling has one tree.
use Rattle.std.proofs.Common.{ℕ, zero, suc, ◌+◌, Bool, true, false, List, [], ◌∷◌, length, Option, None, Some}
use Rattle.cue_lex.specs.declared.token.Token.{Token}
use Rattle.cue_lex.specs.declared.token.TokenKind.{TokenKind}
use Rattle.cue_lex.specs.declared.token.TokenKind.TheVariants as kinds
use Rattle.cue_lex.specs.declared.punctuation.Punctuation.TheVariants as points
use Rattle.cue_syntax.specs.declared.tree.Identifier.TheVariants as identifiers
use Rattle.cue_syntax.specs.declared.tree.Label.{Label}
use Rattle.cue_syntax.specs.declared.tree.Signed.{Signed}
use Rattle.cue_syntax.specs.declared.tree.Comparison.{Comparison}
use Rattle.cue_syntax.specs.declared.tree.Comparison.TheVariants as comparisons
use Rattle.cue_syntax.specs.declared.tree.Package.{Package}
use Rattle.cue_syntax.specs.Syntax.{FileTree, Expression, name, integer, text, bottom, bound, other_integer, other_text, parenthesis, struct, close, list, conjunction, disjunction, Elements, no_elements, element, Branch, branch, Branches, no_branches, next_branch, Entry, ellipsis, field, definition, Entries, no_entries, entry, Rest, no_rest, any_rest, each_rest}
use Rattle.cue_syntax.proofs.PartsByTheirTokens.{begins, behind, behind_comma, behind_label, first, goes_on_elements, goes_on_entries, identifier_of, is_and, is_comma, is_ellipsis, is_entry, is_open, is_or, is_starred, is_text, label_of, look, place, signed, signed_at, text_of}

-- readers of everything, each with what stands after

-- for each part of the grammar, what it finds first and the tokens after that
pub record Reader : Type 0 where
  pub unary : List Token → Expression × List Token
  pub parts : List Token → Elements × List Token
  pub conjunct : List Token → Expression × List Token
  pub term : List Token → Branch × List Token
  pub terms : List Token → Branches × List Token
  pub expression : List Token → Expression × List Token
  pub elements : List Token → Elements × List Token
  pub more_elements : List Token → Elements × List Token
  pub value : List Token → List Label × Expression × List Token
  pub entry : List Token → Entry × List Token
  pub entries : List Token → Entries × List Token
  pub more_entries : List Token → Entries × List Token

abbrev no_reader : Reader
no_reader = record {
  unary = λ ts. (bottom, ts);
  parts = λ ts. (no_elements, ts);
  conjunct = λ ts. (bottom, ts);
  term = λ ts. (branch false 0 bottom, ts);
  terms = λ ts. (no_branches, ts);
  expression = λ ts. (bottom, ts);
  elements = λ ts. (no_elements, ts);
  more_elements = λ ts. (no_elements, ts);
  value = λ ts. ([], bottom, ts);
  entry = λ ts. (ellipsis, ts);
  entries = λ ts. (no_entries, ts);
  more_entries = λ ts. (no_entries, ts);
}

-- one expression, or two and more
abbrev join_parts : Expression → Elements → Expression
join_parts e no_elements = e
join_parts d (element e es) = conjunction (element d (element e es))

abbrev value_of : Branch → Expression
value_of (branch marked from e) = e

abbrev join_terms : Branch → Branches → Expression
join_terms b no_branches = value_of b
join_terms a (next_branch b bs) = disjunction (next_branch a (next_branch b bs))

-- an integer, and the tokens after it
abbrev pub read_integer : Signed × List Token → Expression × List Token
read_integer p = (integer p.0, p.1)

-- a bound of this comparison, by the integer after it
abbrev pub read_bound : Comparison → Signed × List Token → Expression × List Token
read_bound c p = (bound c p.0, p.1)

-- the bound of a `!=`, by the string or the integer after it
abbrev pub read_other : Bool → List Token → Expression × List Token
read_other true ts = (other_text (text_of ts), behind ts)
read_other false ts = (other_integer (signed ts).0, (signed ts).1)

-- an expression in parentheses, up to the closing one
abbrev pub read_parenthesis : Expression × List Token → Expression × List Token
read_parenthesis p = (parenthesis p.0 (first is_comma p.1), behind (behind_comma p.1))

-- declarations in braces, up to the closing one
abbrev pub read_struct : Entries × List Token → Expression × List Token
read_struct p = (struct p.0 (first is_comma p.1), behind (behind_comma p.1))

-- the end of a `close(..)`, by whether a comma stands before the parenthesis
abbrev pub read_close_end : ℕ → Entries → Bool → List Token → Expression × List Token
read_close_end from es inner ts = (close from es inner (first is_comma ts), behind (behind_comma ts))

-- a `close(..)`, by the declarations in it
abbrev pub read_close : ℕ → Entries × List Token → Expression × List Token
read_close from p = read_close_end from p.0 (first is_comma p.1) (behind (behind_comma p.1))

-- a call of `close`, where a parenthesis stands after a name, or else the name
abbrev pub read_name : Reader → Bool → List ℕ → ℕ → List Token → Expression × List Token
read_name r true t from ts = read_close from (r.entries (behind (behind ts)))
read_name r false t from ts = (name (identifiers.Plain t) from, ts)

-- a list with this expression as its rest
abbrev pub read_each : Elements → Expression × List Token → Expression × List Token
read_each es p = (list es (each_rest p.0) (first is_comma p.1), behind (behind_comma p.1))

-- the end of a list after its `...`: whether an expression begins here
abbrev pub read_rest : Reader → Bool → Elements → List Token → Expression × List Token
read_rest r true es ts = read_each es (r.expression ts)
read_rest r false es ts = (list es any_rest (first is_comma ts), behind (behind_comma ts))

-- the end of a list: whether `...` stands here, after a comma or not
abbrev pub read_list_end : Reader → Bool → Bool → Elements → List Token → Expression × List Token
read_list_end r true comma es ts = read_rest r (begins (look (behind ts))) es (behind ts)
read_list_end r false comma es ts = (list es no_rest comma, behind ts)

-- a list, by the elements in it
abbrev pub read_list : Reader → Elements × List Token → Expression × List Token
read_list r p = read_list_end r (first is_ellipsis (behind_comma p.1)) (first is_comma p.1) p.0 (behind_comma p.1)

-- by the first token, where it begins, and what stands after it
abbrev pub unary_at : Reader → TokenKind → ℕ → List Token → Expression × List Token
unary_at r (kinds.Name t) from ts = read_name r (first is_open ts) t from ts
unary_at r (kinds.Definition t) from ts = (name (identifiers.Definition t) from, ts)
unary_at r (kinds.Hidden t) from ts = (name (identifiers.Hidden t) from, ts)
unary_at r (kinds.Text t) from ts = (text t, ts)
unary_at r (kinds.Integer m) from ts = read_integer (signed_at (kinds.Integer m) ts)
unary_at r (kinds.Mark points.Minus) from ts = read_integer (signed_at (kinds.Mark points.Minus) ts)
unary_at r (kinds.Mark points.Plus) from ts = read_integer (signed_at (kinds.Mark points.Plus) ts)
unary_at r (kinds.Mark points.Less) from ts = read_bound comparisons.Less (signed ts)
unary_at r (kinds.Mark points.AtMost) from ts = read_bound comparisons.AtMost (signed ts)
unary_at r (kinds.Mark points.Greater) from ts = read_bound comparisons.Greater (signed ts)
unary_at r (kinds.Mark points.AtLeast) from ts = read_bound comparisons.AtLeast (signed ts)
unary_at r (kinds.Mark points.NotEqual) from ts = read_other (first is_text ts) ts
unary_at r (kinds.Mark points.OpenParenthesis) from ts = read_parenthesis (r.expression ts)
unary_at r (kinds.Mark points.OpenBrace) from ts = read_struct (r.entries ts)
unary_at r (kinds.Mark points.OpenBracket) from ts = read_list r (r.elements ts)
unary_at r _ from ts = (bottom, ts)

-- an operand or a bound
abbrev pub read_unary : Reader → List Token → Expression × List Token
read_unary r [] = (bottom, [])
read_unary r (t ∷ ts) = unary_at r t.kind t.from ts

-- an element before the others
abbrev pub put_element : Expression → Elements × List Token → Elements × List Token
put_element e p = (element e p.0, p.1)

-- a term before the others
abbrev pub put_branch : Branch → Branches × List Token → Branches × List Token
put_branch b p = (next_branch b p.0, p.1)

-- a declaration before the others
abbrev pub put_entry : Entry → Entries × List Token → Entries × List Token
put_entry e p = (entry e p.0, p.1)

-- a label before the others of a chain
abbrev pub put_label : Label → List Label × Expression × List Token → List Label × Expression × List Token
put_label l p = (l ∷ p.0, p.1, p.2)

-- a conjunction, where parts come after the first one, or else that one
abbrev pub put_part : Expression → Elements × List Token → Expression × List Token
put_part e p = (join_parts e p.0, p.1)

-- a disjunction, where terms come after the first one, or else the expression of that one
abbrev pub put_term : Branch → Branches × List Token → Expression × List Token
put_term b p = (join_terms b p.0, p.1)

-- a part, and those after it
abbrev pub then_parts : Reader → Expression × List Token → Elements × List Token
then_parts r p = put_element p.0 (r.parts p.1)

-- parts after a first one, as long as `&` stands
abbrev pub read_parts : Reader → Bool → List Token → Elements × List Token
read_parts r true ts = then_parts r (r.unary (behind ts))
read_parts r false ts = (no_elements, ts)

-- a part of a disjunction, by its first part
abbrev pub read_conjunct : Reader → Expression × List Token → Expression × List Token
read_conjunct r p = put_part p.0 (r.parts p.1)

-- an expression as a term with this mark and this place
abbrev pub as_branch : Bool → ℕ → Expression × List Token → Branch × List Token
as_branch marked from p = (branch marked from p.0, p.1)

-- a term, with a star or without
abbrev pub read_term : Reader → Bool → List Token → Branch × List Token
read_term r true ts = as_branch true (place (behind ts)) (r.unary (behind ts))
read_term r false ts = as_branch false (place ts) (r.conjunct ts)

-- a term, and those after it
abbrev pub then_terms : Reader → Branch × List Token → Branches × List Token
then_terms r p = put_branch p.0 (r.terms p.1)

-- terms after a first one, as long as `|` stands
abbrev pub read_terms : Reader → Bool → List Token → Branches × List Token
read_terms r true ts = then_terms r (r.term (behind ts))
read_terms r false ts = (no_branches, ts)

-- an expression, by its first term
abbrev pub read_expression : Reader → Branch × List Token → Expression × List Token
read_expression r p = put_term p.0 (r.terms p.1)

-- an element, and those after it
abbrev pub then_elements : Reader → Expression × List Token → Elements × List Token
then_elements r p = put_element p.0 (r.more_elements p.1)

-- elements from here on
abbrev pub read_elements : Reader → Bool → List Token → Elements × List Token
read_elements r true ts = then_elements r (r.expression ts)
read_elements r false ts = (no_elements, ts)

-- and after a comma, where one is to follow
abbrev pub read_more_elements : Reader → Bool → List Token → Elements × List Token
read_more_elements r true ts = then_elements r (r.expression (behind ts))
read_more_elements r false ts = (no_elements, ts)

-- an expression as a value with no labels
abbrev pub no_labels : Expression × List Token → List Label × Expression × List Token
no_labels p = ([], p.0, p.1)

-- labels, and then an expression
abbrev pub read_value : Reader → Bool → List Token → List Label × Expression × List Token
read_value r true ts = no_labels (r.expression ts)
read_value r false ts = put_label (label_of ts) (r.value (behind_label ts))

-- a value as a field with this label
abbrev pub as_field : Label → List Label × Expression × List Token → Entry × List Token
as_field l p = (field l p.0 p.1, p.2)

-- a value as a definition with this name and this place
abbrev pub as_definition : List ℕ → ℕ → List Label × Expression × List Token → Entry × List Token
as_definition t from p = (definition t from p.0 p.1, p.2)

-- a declaration, by the kind of its first token
abbrev pub entry_at : Reader → TokenKind → List Token → Entry × List Token
entry_at r (kinds.Mark points.Ellipsis) ts = (ellipsis, behind ts)
entry_at r (kinds.Definition t) ts = as_definition t (place ts) (r.value (behind (behind ts)))
entry_at r _ ts = as_field (label_of ts) (r.value (behind_label ts))

-- a declaration
abbrev pub read_entry : Reader → List Token → Entry × List Token
read_entry r [] = (ellipsis, [])
read_entry r (t ∷ ts) = entry_at r t.kind (t ∷ ts)

-- a declaration, and those after it
abbrev pub then_entries : Reader → Entry × List Token → Entries × List Token
then_entries r p = put_entry p.0 (r.more_entries p.1)

-- declarations from here on
abbrev pub read_entries : Reader → Bool → List Token → Entries × List Token
read_entries r true ts = then_entries r (r.entry ts)
read_entries r false ts = (no_entries, ts)

-- and after a comma, where one is to follow
abbrev pub read_more_entries : Reader → Bool → List Token → Entries × List Token
read_more_entries r true ts = then_entries r (r.entry (behind ts))
read_more_entries r false ts = (no_entries, ts)

-- readers one level up
abbrev next_reader : Reader → Reader
next_reader r = record {
  unary = read_unary r;
  parts = λ ts. read_parts r (first is_and ts) ts;
  conjunct = λ ts. read_conjunct r (r.unary ts);
  term = λ ts. read_term r (is_starred (look ts)) ts;
  terms = λ ts. read_terms r (first is_or ts) ts;
  expression = λ ts. read_expression r (r.term ts);
  elements = λ ts. read_elements r (begins (look ts)) ts;
  more_elements = λ ts. read_more_elements r (goes_on_elements ts) ts;
  value = λ ts. read_value r (begins (look ts)) ts;
  entry = read_entry r;
  entries = λ ts. read_entries r (first is_entry ts) ts;
  more_entries = λ ts. read_more_entries r (goes_on_entries ts) ts;
}

-- the reader that so many levels make
abbrev pub reader : ℕ → Reader
reader zero = no_reader
reader (suc n) = next_reader (reader n)

-- declarations as a text with this clause or none
abbrev pub as_file : Option Package → Entries × List Token → FileTree
as_file clause p = record { package_clause = clause; declarations = p.0; comma = first is_comma p.1 }

abbrev package_of : List Token → Package
package_of ts = record { name = identifier_of ts; comma = first is_comma (behind ts) }

-- a text, with the clause of a package or without
abbrev pub read_file : Reader → Bool → List Token → FileTree
read_file r true ts = as_file (Some (package_of (behind ts))) (r.entries (behind_comma (behind (behind ts))))
read_file r false ts = as_file None (r.entries ts)

-- how many levels up a reader reads the tree
abbrev mutual
  pub size : Expression → ℕ
  size (name n from) = 1
  size (integer n) = 1
  size (text t) = 1
  size bottom = 1
  size (bound c n) = 1
  size (other_integer n) = 1
  size (other_text t) = 1
  size (parenthesis e comma) = 5 + size e
  size (struct es comma) = 5 + size_of_entries es
  size (close from es inner comma) = 5 + size_of_entries es
  size (list es tail comma) = 5 + size_of_elements es + size_of_rest tail
  size (conjunction es) = 5 + size_of_elements es
  size (disjunction bs) = 5 + size_of_branches bs

  pub size_of_elements : Elements → ℕ
  size_of_elements no_elements = 1
  size_of_elements (element e es) = 5 + size e + size_of_elements es

  pub size_of_rest : Rest → ℕ
  size_of_rest no_rest = 0
  size_of_rest any_rest = 0
  size_of_rest (each_rest e) = size e

  pub size_of_branch : Branch → ℕ
  size_of_branch (branch marked from e) = 3 + size e

  pub size_of_branches : Branches → ℕ
  size_of_branches no_branches = 1
  size_of_branches (next_branch b bs) = 5 + size_of_branch b + size_of_branches bs

  pub size_of_entry : Entry → ℕ
  size_of_entry ellipsis = 1
  size_of_entry (field label chain e) = 5 + length chain + size e
  size_of_entry (definition t from chain e) = 5 + length chain + size e

  pub size_of_entries : Entries → ℕ
  size_of_entries no_entries = 1
  size_of_entries (entry e es) = 5 + size_of_entry e + size_of_entries es
