-- What the goals have still to read can always be brought to its end.
use Rattle.std.proofs.Common.{◌≡◌, refl, sym, ap, subst, ◌∙◌, ℕ, ◌+◌, ◌≤◌, max, inl, inr, Bool, true, false, List, [], ◌∷◌, ◌++◌, codes, arith}
use Rattle.std.specs.Prelude.{if◌then◌else◌, None, Some}
use Rattle.cue_lex.specs.declared.token.Token.{Token}
use Rattle.cue_lex.specs.declared.token.TokenKind.{TokenKind}
use Rattle.cue_lex.specs.declared.token.TokenKind.TheVariants as kinds
use Rattle.cue_lex.specs.declared.punctuation.Punctuation.TheVariants as points
use Rattle.cue_syntax.specs.declared.tree.Identifier.TheVariants as identifiers
use Rattle.cue_syntax.specs.declared.tree.LabelName.TheVariants as names
use Rattle.cue_syntax.specs.declared.tree.Mark.TheVariants as marks
use Rattle.cue_syntax.specs.declared.tree.Sign.{Sign}
use Rattle.cue_syntax.specs.declared.tree.Sign.TheVariants as signs
use Rattle.cue_syntax.specs.declared.tree.Signed.{Signed}
use Rattle.cue_syntax.specs.Syntax.{Expression, name, integer, text, branch, no_elements, no_branches, next_branch, no_entries, no_rest, any_rest}
use Rattle.cue_syntax.specs.Spelling.{SpelledPiece, SpellsTree, one}
use Rattle.cue_syntax.specs.Grammar.{IsKeyword, IsOperand, Limit, unlimited, at_most, greatest_magnitude}
use Rattle.cue_syntax.specs.Recogniser.{Goal, Stack, is_keyword, depth, levels_of}
use Rattle.cue_syntax.proofs.ReadingsJoin.{reads_none}
use Rattle.cue_syntax.proofs.StillToRead.{under, beneath, Keeps, Valued, AUnary, Declared, MoreDeclared, Whole, Packaged, Remains, Below, Ahead}

-- where so many levels keep within a limit, fewer do
pub keeps_from : {limit : Limit} {n m : ℕ} → Keeps limit n → m ≤ n → Keeps limit m
keeps_from {limit = unlimited} k le = record { within = tt }
keeps_from {limit = at_most l} k le = record { within = omega (arith, k.within, le) }

-- where two counts of levels keep within a limit, the greater one does
pub keeps_both : {limit : Limit} {n m k : ℕ} → Keeps limit n → Keeps limit m → k ≤ max n m → Keeps limit k
keeps_both {limit = unlimited} first second le = record { within = tt }
keeps_both {limit = at_most l} first second le = record { within = omega (arith, first.within, second.within, le) }

-- a token of a kind before tokens that are read is read as a piece of that kind before theirs
pub reads_kind : {a b : List Token} {p : List SpelledPiece} {k : TokenKind} (t : Token) → t.kind ≡ k → SpellsTree a p b → SpellsTree (t ∷ a) (one k ++ p) b
reads_kind t kind reads = record { follows = (kind, tt, reads.follows) }

-- keywords and operands
keyword_is : (t : List ℕ) → IsKeyword t → is_keyword t ≡ true
keyword_is t (inl (inl e)) = subst (λ z. is_keyword z ≡ true) (sym e) refl
keyword_is t (inl (inr (inl e))) = subst (λ z. is_keyword z ≡ true) (sym e) refl
keyword_is t (inl (inr (inr (inl e)))) = subst (λ z. is_keyword z ≡ true) (sym e) refl
keyword_is t (inl (inr (inr (inr e)))) = subst (λ z. is_keyword z ≡ true) (sym e) refl
keyword_is t (inr (inl e)) = subst (λ z. is_keyword z ≡ true) (sym e) refl
keyword_is t (inr (inr e)) = subst (λ z. is_keyword z ≡ true) (sym e) refl

-- a plain name that is no keyword is an operand
pub operand_is : (t : List ℕ) → is_keyword t ≡ false → IsOperand (identifiers.Plain t)
operand_is t other keyword = let e : true ≡ false = sym (keyword_is t keyword) ∙ other in cc

-- a token anywhere
abbrev token_of : TokenKind → Token
token_of kind = record { kind = kind; from = 0; to = 0 }

abbrev nothing_signed : Signed
nothing_signed = record { sign = signs.Absent; magnitude = 0 }

zero_in_range : (sign : Sign) → 0 ≤ greatest_magnitude sign
zero_in_range sign = omega arith

abbrev number : Expression
number = integer nothing_signed

-- one token
is_one : (k : TokenKind) (rest : List Token) → SpellsTree (token_of k ∷ rest) (one k) rest
is_one k rest = record { follows = (refl, tt, refl) }

number_ends : {n : ℕ} {limit : Limit} (rest : List Token) → Keeps limit n → (a : List Token) × AUnary limit n a rest
number_ends rest keeps = (
  _,
  record {
    part = number;
    reads = is_one (kinds.Integer 0) rest;
    good = (zero_in_range signs.Absent, tt);
    within = keeps_from keeps (omega arith);
  },
)

name_ends : (limit : Limit) (n : ℕ) (t : List ℕ) (keyword : Bool) → is_keyword t ≡ keyword → Keeps limit (if keyword then 1 + n else n) → (rest : List Token)
    → (a : List Token) × ((first : Token) → first.kind ≡ kinds.Name t → Valued limit n (first ∷ a) rest)
name_ends limit n t true is keeps rest = (
  token_of (kinds.Mark points.Colon) ∷ token_of (kinds.Integer 0) ∷ rest,
  λ first kind. record {
    chain = record { name = names.Plain t; mark = marks.Regular } ∷ [];
    tree = number;
    reads = reads_kind first kind (reads_kind _ refl (is_one (kinds.Integer 0) rest));
    right = zero_in_range signs.Absent;
    within = keeps_from keeps (omega arith);
  },
)
name_ends limit n t false is keeps rest = (
  rest,
  λ first kind. record {
    chain = [];
    tree = name (identifiers.Plain t) first.from;
    reads = record { follows = (kind, (refl, tt), refl) };
    right = operand_is t is;
    within = keeps_from keeps (omega arith);
  },
)

-- the end of the text
-- there may be no tokens in a text
pub no_text : {limit : Limit} {n : ℕ} {a : List Token} → Keeps limit n → Whole limit n a a
no_text keeps = record {
  tree = record { package_clause = None; declarations = no_entries; comma = false };
  reads = reads_none;
  clause = tt;
  right = tt;
  ends = tt;
  within = keeps_from keeps (omega arith);
}

-- nothing need come after the name of a package
pub no_packaged : {limit : Limit} {n : ℕ} {a : List Token} → Keeps limit n → Packaged limit n a a
no_packaged keeps = record { comma = false; tree = no_entries; last = false; reads = reads_none; parted = λ e. refl; right = tt; ends = tt; within = keeps_from keeps (omega arith) }

-- the declarations of the top may be none
pub no_declared : {limit : Limit} {n : ℕ} {a : List Token} → Keeps limit n → Declared true limit n a a
no_declared keeps = record { tree = no_entries; comma = false; reads = reads_none; right = tt; nested = tt; ends = tt; within = keeps_from keeps (omega arith) }

-- nothing need come after a declaration of the top
pub no_more_declared : {limit : Limit} {n : ℕ} {a : List Token} → Keeps limit n → MoreDeclared true limit n a a
no_more_declared keeps = record { tree = no_entries; comma = false; reads = reads_none; right = tt; nested = tt; within = keeps_from keeps (omega arith) }

-- before any rest there are tokens that complete a goal which keeps within the limit
pub goal_ends : (limit : Limit) (n : ℕ) (goal : Goal) → Keeps limit (under goal n) → (rest : List Token) → (a : List Token) × Remains limit n goal a rest
goal_ends limit n Goal.text keeps rest = (rest, no_text keeps)
goal_ends limit n Goal.package_word keeps rest = (
  token_of (kinds.Name []) ∷ rest,
  λ first kind. record {
    tree = record { package_clause = Some (record { name = identifiers.Plain []; comma = false }); declarations = no_entries; comma = false };
    reads = reads_kind first kind (is_one (kinds.Name []) rest);
    clause = tt;
    right = tt;
    ends = tt;
    within = keeps_from keeps (omega arith);
  },
)
goal_ends limit n Goal.package_end keeps rest = (rest, no_packaged keeps)
goal_ends limit n (Goal.entries true) keeps rest = (rest, no_declared keeps)
goal_ends limit n (Goal.entries false) keeps rest = (
  _,
  record {
    tree = no_entries;
    comma = false;
    reads = is_one (kinds.Mark points.CloseBrace) rest;
    right = tt;
    nested = tt;
    ends = tt;
    within = keeps_from keeps (omega arith);
  },
)
goal_ends limit n (Goal.more_entries true) keeps rest = (rest, no_more_declared keeps)
goal_ends limit n (Goal.more_entries false) keeps rest = (
  _,
  record {
    tree = no_entries;
    comma = false;
    reads = is_one (kinds.Mark points.CloseBrace) rest;
    right = tt;
    nested = tt;
    within = keeps_from keeps (omega arith);
  },
)
goal_ends limit n Goal.mark keeps rest = (_, record { part = marks.Regular; reads = is_one (kinds.Mark points.Colon) rest })
goal_ends limit n Goal.colon keeps rest = (_, is_one (kinds.Mark points.Colon) rest)
goal_ends limit n Goal.value keeps rest = (
  _,
  record {
    chain = [];
    tree = number;
    reads = is_one (kinds.Integer 0) rest;
    right = zero_in_range signs.Absent;
    within = keeps_from keeps (omega arith);
  },
)
goal_ends limit n (Goal.value_name t) keeps rest = name_ends limit n t (is_keyword t) refl keeps rest
goal_ends limit n Goal.value_text keeps rest = (
  rest,
  λ first t kind. record {
    chain = [];
    tree = text t;
    reads = record { follows = (kind, tt, refl) };
    right = tt;
    within = keeps_from keeps (omega arith);
  },
)
goal_ends limit n Goal.chained keeps rest = (rest, refl)
goal_ends limit n Goal.expression keeps rest = (
  _,
  record {
    part = number;
    reads = is_one (kinds.Integer 0) rest;
    good = zero_in_range signs.Absent;
    within = keeps_from keeps (omega arith);
  },
)
goal_ends limit n Goal.term keeps rest = (
  token_of (kinds.Integer 0) ∷ rest,
  record {
    part = branch false 0 number;
    reads = record { follows = (refl, (refl, tt), refl) };
    good = (zero_in_range signs.Absent, tt);
    within = keeps_from keeps (omega arith);
  },
)
goal_ends limit n Goal.unary keeps rest = number_ends rest keeps
goal_ends limit n Goal.more_parts keeps rest = (
  rest,
  record {
    part = no_elements;
    reads = reads_none;
    good = (tt, tt);
    within = keeps_from keeps (omega arith);
  },
)
goal_ends limit n Goal.bar keeps rest = (
  token_of (kinds.Mark points.Bar) ∷ token_of (kinds.Integer 0) ∷ rest,
  record {
    part = next_branch (branch false 0 number) no_branches;
    reads = reads_kind _ refl (record { follows = (refl, (refl, tt), refl) });
    good = (((zero_in_range signs.Absent, tt), tt), tt);
    within = keeps_from keeps (omega arith);
  },
)
goal_ends limit n Goal.more_terms keeps rest = (
  rest,
  record {
    part = no_branches;
    reads = reads_none;
    good = tt;
    within = keeps_from keeps (omega arith);
  },
)
goal_ends limit n Goal.signed keeps rest = (_, record { part = nothing_signed; reads = is_one (kinds.Integer 0) rest; range = zero_in_range signs.Absent })
goal_ends limit n Goal.signed_or_text keeps rest = (_, inl (record { part = nothing_signed; reads = is_one (kinds.Integer 0) rest; range = zero_in_range signs.Absent }))
goal_ends limit n (Goal.magnitude sign) keeps rest = (_, record { part = 0; reads = is_one (kinds.Integer 0) rest; range = zero_in_range sign })
goal_ends limit n Goal.behind_close keeps rest = (
  rest,
  λ first kind. record {
    part = name (identifiers.Plain (codes "close")) first.from;
    reads = record { follows = (kind, (refl, tt), refl) };
    good = (operand_is (codes "close") refl, tt);
    within = keeps_from keeps (omega arith);
  },
)
goal_ends limit n Goal.closed keeps rest = (
  _,
  record {
    tree = no_entries;
    inner = false;
    comma = false;
    reads = reads_kind (token_of (kinds.Mark points.OpenBrace)) refl (reads_kind (token_of (kinds.Mark points.CloseBrace)) refl (is_one (kinds.Mark points.CloseParenthesis) rest));
    right = tt;
    nested = tt;
    ends = tt;
    within = keeps_from keeps (omega arith);
  },
)
goal_ends limit n Goal.parenthesis keeps rest = (_, record { part = false; reads = is_one (kinds.Mark points.CloseParenthesis) rest })
goal_ends limit n Goal.parenthesis_end keeps rest = (_, is_one (kinds.Mark points.CloseParenthesis) rest)
goal_ends limit n Goal.elements keeps rest = (
  _,
  record {
    tree = no_elements;
    tail = no_rest;
    comma = false;
    reads = is_one (kinds.Mark points.CloseBracket) rest;
    right = tt;
    rest_right = tt;
    ends = tt;
    within = keeps_from keeps (omega arith);
  },
)
goal_ends limit n Goal.more_elements keeps rest = (
  _,
  record {
    tree = no_elements;
    tail = no_rest;
    comma = false;
    reads = is_one (kinds.Mark points.CloseBracket) rest;
    right = tt;
    rest_right = tt;
    within = keeps_from keeps (omega arith);
  },
)
goal_ends limit n Goal.dots keeps rest = (
  _,
  record {
    tail = any_rest;
    comma = false;
    reads = is_one (kinds.Mark points.CloseBracket) rest;
    dots = tt;
    right = tt;
    within = keeps_from keeps (omega arith);
  },
)
goal_ends limit n Goal.bracket keeps rest = (_, record { part = false; reads = is_one (kinds.Mark points.CloseBracket) rest })
goal_ends limit n Goal.bracket_end keeps rest = (_, is_one (kinds.Mark points.CloseBracket) rest)

-- after a goal comes what lies below it
pub below_is : (goal : Goal) {Rest : List Token → Type 0} → (b : List Token) × Rest b → (b : List Token) × Below goal Rest b
below_is Goal.text rest = ([], refl)
below_is Goal.package_word rest = ([], refl)
below_is Goal.package_end rest = ([], refl)
below_is (Goal.entries true) rest = ([], refl)
below_is (Goal.entries false) rest = rest
below_is (Goal.more_entries true) rest = ([], refl)
below_is (Goal.more_entries false) rest = rest
below_is _ rest = rest

-- fewer levels are open below
pub less_below : (goal : Goal) (n : ℕ) → n ≤ under goal n
less_below (Goal.entries true) n = omega arith
less_below (Goal.entries false) n = omega arith
less_below (Goal.more_entries true) n = omega arith
less_below (Goal.more_entries false) n = omega arith
less_below (Goal.value_name t) n = by_word (is_keyword t)
  where
    by_word : (keyword : Bool) → n ≤ (if keyword then 1 + n else n)
    by_word true = omega arith
    by_word false = omega arith
less_below Goal.chained n = omega arith
less_below Goal.closed n = omega arith
less_below Goal.parenthesis n = omega arith
less_below Goal.parenthesis_end n = omega arith
less_below Goal.elements n = omega arith
less_below Goal.more_elements n = omega arith
less_below Goal.dots n = omega arith
less_below Goal.bracket n = omega arith
less_below Goal.bracket_end n = omega arith
less_below _ n = omega arith

-- a stack that keeps within the limit can be brought to its end
pub stack_ends : (limit : Limit) (goals : Stack) → Keeps limit (beneath goals) → (a : List Token) × Ahead limit goals a
stack_ends limit [] keeps = ([], refl)
stack_ends limit (goal ∷ goals) keeps =
    let rest : (b : List Token) × Below goal (Ahead limit goals) b = below_is goal (stack_ends limit goals (keeps_from keeps (less_below goal (beneath goals)))) in
    let front : (a : List Token) × Remains limit (beneath goals) goal a rest.0 = goal_ends limit (beneath goals) goal keeps rest.0 in
    (front.0, (rest.0, front.1, rest.1))

levels_are : (goal : Goal) (n : ℕ) → levels_of goal + n ≡ under goal n
levels_are (Goal.entries true) n = omega arith
levels_are (Goal.entries false) n = omega arith
levels_are (Goal.more_entries true) n = omega arith
levels_are (Goal.more_entries false) n = omega arith
levels_are (Goal.value_name t) n = by_word (is_keyword t)
  where
    by_word : (keyword : Bool) → (if keyword then 1 else 0) + n ≡ (if keyword then 1 + n else n)
    by_word true = omega arith
    by_word false = omega arith
levels_are Goal.chained n = omega arith
levels_are Goal.closed n = omega arith
levels_are Goal.parenthesis n = omega arith
levels_are Goal.parenthesis_end n = omega arith
levels_are Goal.elements n = omega arith
levels_are Goal.more_elements n = omega arith
levels_are Goal.dots n = omega arith
levels_are Goal.bracket n = omega arith
levels_are Goal.bracket_end n = omega arith
levels_are _ n = omega arith

-- the depth of a stack is the number of levels that it opens
pub depth_is : (goals : Stack) → depth goals ≡ beneath goals
depth_is [] = refl
depth_is (goal ∷ goals) = ap (λ n. levels_of goal + n) (depth_is goals) ∙ levels_are goal (beneath goals)
