-- With which tokens a tree begins.
use Rattle.std.proofs.Common.{◌≡◌, ◌≢◌, ap₂, sym, refl, subst, inl, inr, ℕ, Bool, true, false, List, [], ◌∷◌, ◌++◌, ◌||◌, codes}
use Rattle.std.specs.Prelude.{⊤}
use Rattle.std.specs.Cmp.Lexicographic.{same_text}
use Rattle.cue_lex.specs.declared.token.Token.{Token}
use Rattle.cue_lex.specs.declared.token.TokenKind.{TokenKind}
use Rattle.cue_lex.specs.declared.token.TokenKind.TheVariants as kinds
use Rattle.cue_lex.specs.declared.punctuation.Punctuation.TheVariants as points
use Rattle.cue_syntax.specs.declared.tree.Identifier.{Identifier}
use Rattle.cue_syntax.specs.declared.tree.Identifier.TheVariants as identifiers
use Rattle.cue_syntax.specs.declared.tree.Comparison.{Comparison}
use Rattle.cue_syntax.specs.declared.tree.Comparison.TheVariants as comparisons
use Rattle.cue_syntax.specs.declared.tree.Sign.{Sign}
use Rattle.cue_syntax.specs.declared.tree.Sign.TheVariants as signs
use Rattle.cue_syntax.specs.Syntax.{Expression, name, integer, text, bottom, bound, other_integer, other_text, parenthesis, struct, close, list, conjunction, disjunction, Elements, no_elements, element, branch, Branches, no_branches, next_branch}
use Rattle.cue_syntax.specs.Spelling.{SpelledPiece, SpellsTree, Follows, one, place_first, identifier_kind, comparison_kind, spell, spell_sign, spell_signed, spell_more_elements, spell_branch, spell_more_branches}
use Rattle.cue_syntax.specs.Grammar.{IsKeyword, IsRight, IsUnary, IsConjunct}
use Rattle.cue_syntax.specs.Viability.{BeginsExpression}
use Rattle.cue_syntax.specs.Recogniser.{is_word, is_keyword}
use Rattle.cue_syntax.proofs.WhatMayFollow.{AtEnd, HeadIs, Opens, BeginsOperand, NoMark}
use Rattle.cue_syntax.proofs.TakesOneToken.{at_end_before, opens_append, opens_placed}

-- words
-- other bytes than those of a word don't pass the test for it
pub word_false : (word t : List ℕ) → t ≢ word → is_word word t ≡ false
word_false word t other = by (is_word word t) refl
  where
    by : (b : Bool) → is_word word t ≡ b → is_word word t ≡ false
    by true e = absurd (other (same_text t word (sym e)))
    by false e = e

or_false : (a b : Bool) → a ≡ false → b ≡ false → (a || b) ≡ false
or_false a b p q = ap₂ (λ x y. x || y) p q

-- a name that is no keyword doesn't pass the test for keywords
pub no_keyword : (t : List ℕ) → ¬ IsKeyword t → is_keyword t ≡ false
no_keyword t other =
    or_false _ _ (or_false _ _ (or_false _ _ (or_false _ _ (or_false _ _
    (word_false (codes "let") t (λ e. other (inl (inl e))))
    (word_false (codes "for") t (λ e. other (inl (inr (inl e))))))
    (word_false (codes "if") t (λ e. other (inl (inr (inr (inl e)))))))
    (word_false (codes "import") t (λ e. other (inl (inr (inr (inr e)))))))
    (word_false (codes "in") t (λ e. other (inr (inl e)))))
    (word_false (codes "package") t (λ e. other (inr (inr e))))

-- the first token
operand_wide : (k : TokenKind) → BeginsOperand k → BeginsExpression k
operand_wide (kinds.Mark points.Star) begins = tt
operand_wide _ begins = begins

opens_identifier : (n : Identifier) → BeginsOperand (identifier_kind n)
opens_identifier (identifiers.Plain t) = tt
opens_identifier (identifiers.Definition t) = tt
opens_identifier (identifiers.Hidden t) = tt

opens_comparison : (c : Comparison) → BeginsOperand (comparison_kind c)
opens_comparison comparisons.Less = tt
opens_comparison comparisons.AtMost = tt
opens_comparison comparisons.Greater = tt
opens_comparison comparisons.AtLeast = tt

opens_signed : (s : Sign) (m : ℕ) → Opens BeginsOperand (spell_sign s ++ one (kinds.Integer m))
opens_signed signs.Absent m = tt
opens_signed signs.Minus m = tt
opens_signed signs.Plus m = tt

-- an operand or a bound begins with a token with which one may begin
pub opens_unary : (e : Expression) → IsUnary e → Opens BeginsOperand (spell e)
opens_unary (name n from) unary = opens_identifier n
opens_unary (integer n) unary = opens_signed n.sign n.magnitude
opens_unary (text t) unary = tt
opens_unary bottom unary = tt
opens_unary (bound c n) unary = opens_comparison c
opens_unary (other_integer n) unary = tt
opens_unary (other_text t) unary = tt
opens_unary (parenthesis e comma) unary = tt
opens_unary (struct es comma) unary = tt
opens_unary (close from es inner comma) unary = tt
opens_unary (list es tail comma) unary = tt
opens_unary (conjunction es) unary = absurd unary
opens_unary (disjunction bs) unary = absurd unary

-- a part of a disjunction begins with a token with which an operand may begin
pub opens_conjunct : (e : Expression) → IsRight e → IsConjunct e → Opens BeginsOperand (spell e)
opens_conjunct (conjunction no_elements) right conjunct = absurd right.2
opens_conjunct (conjunction (element e es)) right conjunct = opens_append BeginsOperand (spell e) _ (opens_unary e right.1.0)
opens_conjunct (disjunction bs) right conjunct = absurd conjunct
opens_conjunct (name n from) right conjunct = opens_identifier n
opens_conjunct (integer n) right conjunct = opens_signed n.sign n.magnitude
opens_conjunct (text t) right conjunct = tt
opens_conjunct bottom right conjunct = tt
opens_conjunct (bound c n) right conjunct = opens_comparison c
opens_conjunct (other_integer n) right conjunct = tt
opens_conjunct (other_text t) right conjunct = tt
opens_conjunct (parenthesis e comma) right conjunct = tt
opens_conjunct (struct es comma) right conjunct = tt
opens_conjunct (close from es inner comma) right conjunct = tt
opens_conjunct (list es tail comma) right conjunct = tt

opens_wide : (p : List SpelledPiece) → Opens BeginsOperand p → Opens BeginsExpression p
opens_wide [] opens = opens
opens_wide (x ∷ p) opens = operand_wide x.kind opens

opens_branch : (marked : Bool) (from : ℕ) (e : Expression) → IsRight e → (marked ≡ false → IsConjunct e) → Opens BeginsExpression (spell_branch (branch marked from e))
opens_branch true from e right conjunct = tt
opens_branch false from e right conjunct = opens_placed BeginsExpression from (spell e) (opens_wide (spell e) (opens_conjunct e right (conjunct refl)))

-- no disjunction stands in place of a branch without a mark
pub opens_expression : (e : Expression) → IsRight e → Opens BeginsExpression (spell e)
opens_expression (disjunction no_branches) right = absurd right.1
opens_expression (disjunction (next_branch (branch true from e) bs)) right = tt
opens_expression (disjunction (next_branch (branch false from e) bs)) right =
    opens_append BeginsExpression (spell_branch (branch false from e)) _ (opens_branch false from e right.0.0.0 (λ is. right.0.0.1))
opens_expression (conjunction es) right = opens_wide (spell (conjunction es)) (opens_conjunct (conjunction es) right tt)
opens_expression (name n from) right = operand_wide _ (opens_identifier n)
opens_expression (integer n) right = opens_wide _ (opens_signed n.sign n.magnitude)
opens_expression (text t) right = tt
opens_expression bottom right = tt
opens_expression (bound c n) right = operand_wide _ (opens_comparison c)
opens_expression (other_integer n) right = tt
opens_expression (other_text t) right = tt
opens_expression (parenthesis e comma) right = tt
opens_expression (struct es comma) right = tt
opens_expression (close from es inner comma) right = tt
opens_expression (list es tail comma) right = tt

-- A value that begins with a name begins with no keyword, and no mark stands after a name or a string that begins one.
abbrev pub OpensBy : TokenKind → Type 0 → Type 0
OpensBy (kinds.Name t) Clear = (is_keyword t ≡ false) × Clear
OpensBy (kinds.Text t) Clear = Clear
OpensBy _ Clear = ⊤

-- tokens that may begin a value without labels
abbrev pub OpensValue : List Token → Type 0
OpensValue [] = ⊤
OpensValue (token ∷ tokens) = OpensBy token.kind (AtEnd NoMark tokens)

abbrev OpensPlain : List SpelledPiece → Type 0
OpensPlain [] = ⊥
OpensPlain (x ∷ p) = OpensBy x.kind (HeadIs NoMark p)

opens_by : (k : TokenKind) {M N : Type 0} → (M → N) → OpensBy k M → OpensBy k N
opens_by (kinds.Name t) f opens = (opens.0, f opens.1)
opens_by (kinds.Text t) f opens = f opens
opens_by _ f opens = tt

opens_value : (a b : List Token) (p : List SpelledPiece) → Follows a p b → OpensPlain p → AtEnd NoMark b → OpensValue a
opens_value a b [] follows opens end = absurd opens
opens_value [] b (x ∷ p) follows opens end = absurd follows
opens_value (t ∷ a) b (x ∷ p) follows opens end = subst (λ k. OpensBy k (AtEnd NoMark a)) (sym follows.0)
    (opens_by x.kind {M = HeadIs NoMark p} {N = AtEnd NoMark a} (λ head. at_end_before NoMark p (record { follows = follows.2 }) head end) opens)

head_append : (P : TokenKind → Type 0) (p q : List SpelledPiece) → HeadIs P p → HeadIs P q → HeadIs P (p ++ q)
head_append P [] q first second = second
head_append P (x ∷ p) q first second = first

plain_append : (p q : List SpelledPiece) → OpensPlain p → HeadIs NoMark q → OpensPlain (p ++ q)
plain_append [] q opens head = absurd opens
plain_append (x ∷ p) q opens head = opens_by x.kind {M = HeadIs NoMark p} {N = HeadIs NoMark (p ++ q)} (λ first. head_append NoMark p q first head) opens

plain_placed : (from : ℕ) (p : List SpelledPiece) → OpensPlain p → OpensPlain (place_first from p)
plain_placed from [] opens = opens
plain_placed from (x ∷ p) opens = opens

plain_signed : (s : Sign) (m : ℕ) → OpensPlain (spell_sign s ++ one (kinds.Integer m))
plain_signed signs.Absent m = tt
plain_signed signs.Minus m = tt
plain_signed signs.Plus m = tt

plain_bound : (c : Comparison) (p : List SpelledPiece) → OpensPlain (one (comparison_kind c) ++ p)
plain_bound comparisons.Less p = tt
plain_bound comparisons.AtMost p = tt
plain_bound comparisons.Greater p = tt
plain_bound comparisons.AtLeast p = tt

plain_unary : (e : Expression) → IsRight e → IsUnary e → OpensPlain (spell e)
plain_unary (name (identifiers.Plain t) from) right unary = (no_keyword t right, tt)
plain_unary (name (identifiers.Definition t) from) right unary = tt
plain_unary (name (identifiers.Hidden t) from) right unary = tt
plain_unary (integer n) right unary = plain_signed n.sign n.magnitude
plain_unary (text t) right unary = tt
plain_unary bottom right unary = tt
plain_unary (bound c n) right unary = plain_bound c (spell_signed n)
plain_unary (other_integer n) right unary = tt
plain_unary (other_text t) right unary = tt
plain_unary (parenthesis e comma) right unary = tt
plain_unary (struct es comma) right unary = tt
plain_unary (close from es inner comma) right unary = (refl, tt)
plain_unary (list es tail comma) right unary = tt
plain_unary (conjunction es) right unary = absurd unary
plain_unary (disjunction bs) right unary = absurd unary

head_parts : (es : Elements) → HeadIs NoMark (spell_more_elements (kinds.Mark points.Ampersand) es)
head_parts no_elements = tt
head_parts (element e es) = tt

head_terms : (bs : Branches) → HeadIs NoMark (spell_more_branches bs)
head_terms no_branches = tt
head_terms (next_branch b bs) = tt

plain_conjunct : (e : Expression) → IsRight e → IsConjunct e → OpensPlain (spell e)
plain_conjunct (conjunction no_elements) right conjunct = absurd right.2
plain_conjunct (conjunction (element e es)) right conjunct = plain_append (spell e) _ (plain_unary e right.0.0 right.1.0) (head_parts es)
plain_conjunct (disjunction bs) right conjunct = absurd conjunct
plain_conjunct (name n from) right conjunct = plain_unary (name n from) right tt
plain_conjunct (integer n) right conjunct = plain_unary (integer n) right tt
plain_conjunct (text t) right conjunct = tt
plain_conjunct bottom right conjunct = tt
plain_conjunct (bound c n) right conjunct = plain_unary (bound c n) right tt
plain_conjunct (other_integer n) right conjunct = tt
plain_conjunct (other_text t) right conjunct = tt
plain_conjunct (parenthesis e comma) right conjunct = tt
plain_conjunct (struct es comma) right conjunct = tt
plain_conjunct (close from es inner comma) right conjunct = (refl, tt)
plain_conjunct (list es tail comma) right conjunct = tt

plain_expression : (e : Expression) → IsRight e → OpensPlain (spell e)
plain_expression (disjunction no_branches) right = absurd right.1
plain_expression (disjunction (next_branch (branch true from e) bs)) right = tt
plain_expression (disjunction (next_branch (branch false from e) bs)) right =
    plain_append (place_first from (spell e)) _ (plain_placed from (spell e) (plain_conjunct e right.0.0.0 right.0.0.1)) (head_terms bs)
plain_expression (conjunction es) right = plain_conjunct (conjunction es) right tt
plain_expression (name n from) right = plain_unary (name n from) right tt
plain_expression (integer n) right = plain_unary (integer n) right tt
plain_expression (text t) right = tt
plain_expression bottom right = tt
plain_expression (bound c n) right = plain_unary (bound c n) right tt
plain_expression (other_integer n) right = tt
plain_expression (other_text t) right = tt
plain_expression (parenthesis e comma) right = tt
plain_expression (struct es comma) right = tt
plain_expression (close from es inner comma) right = (refl, tt)
plain_expression (list es tail comma) right = tt

-- an expression with no mark of a label after it begins as a value without labels may
pub expression_opens : {a b : List Token} (e : Expression) → SpellsTree a (spell e) b → IsRight e → AtEnd NoMark b → OpensValue a
expression_opens e reads right end = opens_value _ _ (spell e) reads.follows (plain_expression e right) end
