-- What it is to read a tree, and how rows of trees are read.
use Rattle.std.proofs.Common.{◌≡◌, ◌∙◌, ap, sym, subst, refl, ℕ, zero, suc, ◌+◌, ◌≤◌, Bool, true, false, ◌&&◌, List, ◌++◌, arith}
use Rattle.cue_lex.specs.declared.token.Token.{Token}
use Rattle.cue_lex.specs.declared.token.TokenKind.TheVariants as kinds
use Rattle.cue_lex.specs.declared.punctuation.Punctuation.TheVariants as points
use Rattle.cue_syntax.specs.Spelling.{SpellsTree, spell, spell_elements, spell_more_elements, spell_branch, spell_more_branches, spell_entry, spell_entries, spell_more_entries}
use Rattle.cue_syntax.specs.Grammar.{IsUnary, IsConjunct, AreUnary}
use Rattle.cue_syntax.specs.Syntax.{Expression, Elements, no_elements, element, Rest, each_rest, Branch, Branches, no_branches, next_branch, Entry, Entries, no_entries, entry}
use Rattle.cue_syntax.proofs.PartsByTheirTokens.{is_and, is_or, is_comma, is_entry, first, behind, look, plain, begins, is_clause, goes_on_elements, goes_on_entries}
use Rattle.cue_syntax.proofs.ReaderOfTrees.{reader, read_parts, then_parts, read_terms, then_terms, put_element, put_branch, put_entry, read_elements, read_more_elements, then_elements, read_entries, read_more_entries, then_entries, size, size_of_elements, size_of_branch, size_of_branches, size_of_entry, size_of_entries}
use Rattle.cue_syntax.proofs.ReadingsCut.{cut, headed, head_first, head_behind, EndsUnary, EndsConjunct, EndsExpression, EndsElementsRow, EndsEntriesRow, unary_ends, conjunct_ends, ends, comma_end}

-- what was found, and the tokens after it
abbrev pub found : {A : Type 0} → A → List Token → A × List Token
found e b = (e, b)

-- what reading an expression is, as an operand or a bound, as a part of a disjunction, and by itself
abbrev pub ReadsUnary : Expression → Type 0
ReadsUnary e = (n : ℕ) (a b : List Token) → SpellsTree a (spell e) b → EndsUnary b → size e ≤ n → (reader n).unary a ≡ (e, b)

-- what reading it as a part of a disjunction is
abbrev pub ReadsConjunct : Expression → Type 0
ReadsConjunct e = (n : ℕ) (a b : List Token) → SpellsTree a (spell e) b → EndsConjunct b → 1 + size e ≤ n → (reader n).conjunct a ≡ (e, b)

-- what reading it by itself is
abbrev pub ReadsWhole : Expression → Type 0
ReadsWhole e = (n : ℕ) (a b : List Token) → SpellsTree a (spell e) b → EndsExpression b → 3 + size e ≤ n → (reader n).expression a ≡ (e, b)

-- tokens that spell it begin neither with a star nor as a label does
abbrev pub LooksPlain : Expression → Type 0
LooksPlain e = (a b : List Token) → SpellsTree a (spell e) b → EndsUnary b → look a ≡ plain

-- the reader finds the expression wherever it may stand
pub record Knows (e : Expression) : Type 0 where
  pub unary : IsUnary e → ReadsUnary e
  pub conjunct : IsConjunct e → ReadsConjunct e
  pub whole : ReadsWhole e
  pub plain : IsConjunct e → LooksPlain e
  pub begins : (a b : List Token) → SpellsTree a (spell e) b → EndsUnary b → begins (look a) ≡ true

-- the reader finds the term
pub record KnowsBranch (b : Branch) : Type 0 where
  pub reads : (n : ℕ) (a c : List Token) → SpellsTree a (spell_branch b) c → EndsConjunct c → size_of_branch b ≤ n → (reader n).term a ≡ (b, c)
  pub begins : (a c : List Token) → SpellsTree a (spell_branch b) c → EndsUnary c → begins (look a) ≡ true

-- the reader finds the declaration
pub record KnowsEntry (e : Entry) : Type 0 where
  pub reads : (n : ℕ) (a b : List Token) → SpellsTree a (spell_entry e) b → EndsExpression b → size_of_entry e ≤ n → (reader n).entry a ≡ (e, b)
  pub begins : (a b : List Token) → SpellsTree a (spell_entry e) b → first is_entry a ≡ true
  pub no_comma : (a b : List Token) → SpellsTree a (spell_entry e) b → first is_comma a ≡ false
  pub no_clause : (a b : List Token) → SpellsTree a (spell_entry e) b → is_clause a ≡ false

-- the reader finds each of the elements
abbrev pub AreKnown : Elements → Type 0
AreKnown no_elements = Unit {0}
AreKnown (element e es) = Knows e × AreKnown es

-- the reader finds the expression of the rest, if it has one
abbrev pub IsKnownRest : Rest → Type 0
IsKnownRest (each_rest e) = Knows e
IsKnownRest _ = Unit {0}

-- the reader finds each of the terms
abbrev pub AreKnownBranches : Branches → Type 0
AreKnownBranches no_branches = Unit {0}
AreKnownBranches (next_branch b bs) = KnowsBranch b × AreKnownBranches bs

-- the reader finds each of the declarations
abbrev pub AreKnownEntries : Entries → Type 0
AreKnownEntries no_entries = Unit {0}
AreKnownEntries (entry e es) = KnowsEntry e × AreKnownEntries es

-- parts after `&`

-- where no `&` stands, the reader finds no further parts
pub no_more_parts : (n : ℕ) (b : List Token) → 1 ≤ n → first is_and b ≡ false → (reader n).parts b ≡ (no_elements, b)
no_more_parts zero b s none = absurd (omega arith)
no_more_parts (suc n) b s none = ap (λ (z : Bool). read_parts (reader n) z b) none

-- further parts or none, and then what may follow an operand or a bound, may follow one
pub ends_parts : (es : Elements) (b c : List Token) → SpellsTree b (spell_more_elements (kinds.Mark points.Ampersand) es) c → EndsUnary c → EndsUnary b
ends_parts no_elements b c h k = subst EndsUnary (sym h.follows) k
ends_parts (element e es) b c h k = unary_ends (headed (kinds.Mark points.Ampersand) (spell e ++ spell_more_elements (kinds.Mark points.Ampersand) es) h).head refl refl

-- the reader finds further parts up to what may follow them
pub more_parts : (es : Elements) → AreKnown es → AreUnary es → (n : ℕ) (a b : List Token) → SpellsTree a (spell_more_elements (kinds.Mark points.Ampersand) es) b
    → EndsConjunct b → size_of_elements es ≤ n → (reader n).parts a ≡ (es, b)
more_parts no_elements known unary n a b h k s =
    subst (λ (z : List Token). (reader n).parts z ≡ found no_elements b) (sym h.follows) (no_more_parts n b (omega (arith, s)) k.no_and)
more_parts (element e es) known unary zero a b h k s = absurd (omega (arith, s))
more_parts (element e es) known unary (suc n) a b h k s =
    let t = headed (kinds.Mark points.Ampersand) (spell e ++ spell_more_elements (kinds.Mark points.Ampersand) es) h in
    let u = cut (spell e) (spell_more_elements (kinds.Mark points.Ampersand) es) t.right in
    let inner = known.0.unary unary.0 n t.middle u.middle u.left (ends_parts es u.middle b u.right k.unary) (omega (arith, s)) in
    let rest = more_parts es known.1 unary.1 n u.middle b u.right k (omega (arith, s)) in
    ap (λ (z : Bool). read_parts (reader n) z a) (head_first is_and t.head)
    ∙ ap (λ (z : List Token). then_parts (reader n) ((reader n).unary z)) (head_behind t.head)
    ∙ ap (then_parts (reader n)) inner
    ∙ ap (put_element e) rest

-- terms after `|`

-- where no `|` stands, the reader finds no further terms
pub no_more_terms : (n : ℕ) (b : List Token) → 1 ≤ n → first is_or b ≡ false → (reader n).terms b ≡ (no_branches, b)
no_more_terms zero b s none = absurd (omega arith)
no_more_terms (suc n) b s none = ap (λ (z : Bool). read_terms (reader n) z b) none

-- further terms or none, and then what may follow a part of a disjunction, may follow one
pub ends_terms : (bs : Branches) (b c : List Token) → SpellsTree b (spell_more_branches bs) c → EndsConjunct c → EndsConjunct b
ends_terms no_branches b c h k = subst EndsConjunct (sym h.follows) k
ends_terms (next_branch x bs) b c h k = conjunct_ends (headed (kinds.Mark points.Bar) (spell_branch x ++ spell_more_branches bs) h).head refl refl refl

-- the reader finds further terms up to what may follow them
pub more_terms : (bs : Branches) → AreKnownBranches bs → (n : ℕ) (a b : List Token) → SpellsTree a (spell_more_branches bs) b
    → EndsExpression b → size_of_branches bs ≤ n → (reader n).terms a ≡ (bs, b)
more_terms no_branches known n a b h k s =
    subst (λ (z : List Token). (reader n).terms z ≡ found no_branches b) (sym h.follows) (no_more_terms n b (omega (arith, s)) k.no_or)
more_terms (next_branch x bs) known zero a b h k s = absurd (omega (arith, s))
more_terms (next_branch x bs) known (suc n) a b h k s =
    let t = headed (kinds.Mark points.Bar) (spell_branch x ++ spell_more_branches bs) h in
    let u = cut (spell_branch x) (spell_more_branches bs) t.right in
    let inner = known.0.reads n t.middle u.middle u.left (ends_terms bs u.middle b u.right k.conjunct) (omega (arith, s)) in
    let rest = more_terms bs known.1 n u.middle b u.right k (omega (arith, s)) in
    ap (λ (z : Bool). read_terms (reader n) z a) (head_first is_or t.head)
    ∙ ap (λ (z : List Token). then_terms (reader n) ((reader n).term z)) (head_behind t.head)
    ∙ ap (then_terms (reader n)) inner
    ∙ ap (put_branch x) rest

-- elements

ends_elements : (es : Elements) (b c : List Token) → SpellsTree b (spell_more_elements (kinds.Mark points.Comma) es) c → EndsExpression c → EndsExpression b
ends_elements no_elements b c h k = subst EndsExpression (sym h.follows) k
ends_elements (element e es) b c h k = ends (headed (kinds.Mark points.Comma) (spell e ++ spell_more_elements (kinds.Mark points.Comma) es) h).head comma_end

no_more_elements : (n : ℕ) (b : List Token) → 1 ≤ n → goes_on_elements b ≡ false → (reader n).more_elements b ≡ (no_elements, b)
no_more_elements zero b s none = absurd (omega arith)
no_more_elements (suc n) b s none = ap (λ (z : Bool). read_more_elements (reader n) z b) none

more_elements : (es : Elements) → AreKnown es → (n : ℕ) (a b : List Token) → SpellsTree a (spell_more_elements (kinds.Mark points.Comma) es) b
    → EndsElementsRow b → size_of_elements es ≤ n → (reader n).more_elements a ≡ (es, b)
more_elements no_elements known n a b h k s =
    subst (λ (z : List Token). (reader n).more_elements z ≡ found no_elements b) (sym h.follows) (no_more_elements n b (omega (arith, s)) k.over)
more_elements (element e es) known zero a b h k s = absurd (omega (arith, s))
more_elements (element e es) known (suc n) a b h k s =
    let t = headed (kinds.Mark points.Comma) (spell e ++ spell_more_elements (kinds.Mark points.Comma) es) h in
    let u = cut (spell e) (spell_more_elements (kinds.Mark points.Comma) es) t.right in
    let over = ends_elements es u.middle b u.right k.ends in
    let inner = known.0.whole n t.middle u.middle u.left over (omega (arith, s)) in
    let rest = more_elements es known.1 n u.middle b u.right k (omega (arith, s)) in
    ap (λ (z : Bool). read_more_elements (reader n) (z && begins (look (behind a))) a) (head_first is_comma t.head)
    ∙ ap (λ (z : List Token). read_more_elements (reader n) (begins (look z)) a) (head_behind t.head)
    ∙ ap (λ (z : Bool). read_more_elements (reader n) z a) (known.0.begins t.middle u.middle u.left over.conjunct.unary)
    ∙ ap (λ (z : List Token). then_elements (reader n) ((reader n).expression z)) (head_behind t.head)
    ∙ ap (then_elements (reader n)) inner
    ∙ ap (put_element e) rest

-- the reader finds elements up to what may follow them
pub elements_known : (es : Elements) → AreKnown es → (n : ℕ) (a b : List Token) → SpellsTree a (spell_elements (kinds.Mark points.Comma) es) b
    → EndsElementsRow b → size_of_elements es ≤ n → (reader n).elements a ≡ (es, b)
elements_known no_elements known zero a b h k s = absurd (omega (arith, s))
elements_known (element e es) known zero a b h k s = absurd (omega (arith, s))
elements_known no_elements known (suc n) a b h k s =
    subst (λ (z : List Token). (reader (suc n)).elements z ≡ found no_elements b) (sym h.follows) (ap (λ (z : Bool). read_elements (reader n) z b) k.none)
elements_known (element e es) known (suc n) a b h k s =
    let u = cut (spell e) (spell_more_elements (kinds.Mark points.Comma) es) h in
    let over = ends_elements es u.middle b u.right k.ends in
    let inner = known.0.whole n a u.middle u.left over (omega (arith, s)) in
    let rest = more_elements es known.1 n u.middle b u.right k (omega (arith, s)) in
    ap (λ (z : Bool). read_elements (reader n) z a) (known.0.begins a u.middle u.left over.conjunct.unary)
    ∙ ap (then_elements (reader n)) inner
    ∙ ap (put_element e) rest

-- declarations

ends_entries : (es : Entries) (b c : List Token) → SpellsTree b (spell_more_entries es) c → EndsExpression c → EndsExpression b
ends_entries no_entries b c h k = subst EndsExpression (sym h.follows) k
ends_entries (entry e es) b c h k = ends (headed (kinds.Mark points.Comma) (spell_entry e ++ spell_more_entries es) h).head comma_end

no_more_entries : (n : ℕ) (b : List Token) → 1 ≤ n → goes_on_entries b ≡ false → (reader n).more_entries b ≡ (no_entries, b)
no_more_entries zero b s none = absurd (omega arith)
no_more_entries (suc n) b s none = ap (λ (z : Bool). read_more_entries (reader n) z b) none

more_entries : (es : Entries) → AreKnownEntries es → (n : ℕ) (a b : List Token) → SpellsTree a (spell_more_entries es) b
    → EndsEntriesRow b → size_of_entries es ≤ n → (reader n).more_entries a ≡ (es, b)
more_entries no_entries known n a b h k s =
    subst (λ (z : List Token). (reader n).more_entries z ≡ found no_entries b) (sym h.follows) (no_more_entries n b (omega (arith, s)) k.over)
more_entries (entry e es) known zero a b h k s = absurd (omega (arith, s))
more_entries (entry e es) known (suc n) a b h k s =
    let t = headed (kinds.Mark points.Comma) (spell_entry e ++ spell_more_entries es) h in
    let u = cut (spell_entry e) (spell_more_entries es) t.right in
    let inner = known.0.reads n t.middle u.middle u.left (ends_entries es u.middle b u.right k.ends) (omega (arith, s)) in
    let rest = more_entries es known.1 n u.middle b u.right k (omega (arith, s)) in
    ap (λ (z : Bool). read_more_entries (reader n) (z && first is_entry (behind a)) a) (head_first is_comma t.head)
    ∙ ap (λ (z : List Token). read_more_entries (reader n) (first is_entry z) a) (head_behind t.head)
    ∙ ap (λ (z : Bool). read_more_entries (reader n) z a) (known.0.begins t.middle u.middle u.left)
    ∙ ap (λ (z : List Token). then_entries (reader n) ((reader n).entry z)) (head_behind t.head)
    ∙ ap (then_entries (reader n)) inner
    ∙ ap (put_entry e) rest

-- the reader finds declarations up to what may follow them
pub entries_known : (es : Entries) → AreKnownEntries es → (n : ℕ) (a b : List Token) → SpellsTree a (spell_entries es) b
    → EndsEntriesRow b → size_of_entries es ≤ n → (reader n).entries a ≡ (es, b)
entries_known no_entries known zero a b h k s = absurd (omega (arith, s))
entries_known (entry e es) known zero a b h k s = absurd (omega (arith, s))
entries_known no_entries known (suc n) a b h k s =
    subst (λ (z : List Token). (reader (suc n)).entries z ≡ found no_entries b) (sym h.follows) (ap (λ (z : Bool). read_entries (reader n) z b) k.none)
entries_known (entry e es) known (suc n) a b h k s =
    let u = cut (spell_entry e) (spell_more_entries es) h in
    let inner = known.0.reads n a u.middle u.left (ends_entries es u.middle b u.right k.ends) (omega (arith, s)) in
    let rest = more_entries es known.1 n u.middle b u.right k (omega (arith, s)) in
    ap (λ (z : Bool). read_entries (reader n) z a) (known.0.begins a u.middle u.left)
    ∙ ap (then_entries (reader n)) inner
    ∙ ap (put_entry e) rest
