-- What facts of whole texts say, and how they are proved. Each says what a text has one tree for, or
-- none, and the places in it are bytes of the text.
use Rattle.std.proofs.Common.{◌≡◌, ◌∙◌, sym, ℕ, ◌≤◌, false, List, [], ◌∷◌, Some, None}
use Rattle.std.specs.Prelude.{Result, Ok, Err}
use Rattle.cue_lattice.specs.Limits.{level_limit}
use Rattle.cue_lattice.specs.declared.refusal.Refusal.{Refusal}
use Rattle.cue_lex.specs.declared.token.Token.{Token}
use Rattle.cue_lex.specs.Tokens.{tokens}
use Rattle.cue_syntax.specs.declared.tree.Label.{Label}
use Rattle.cue_syntax.specs.declared.tree.LabelName.TheVariants.{Plain, Quoted}
use Rattle.cue_syntax.specs.declared.tree.Mark.{Mark}
use Rattle.cue_syntax.specs.declared.tree.Sign.{Sign}
use Rattle.cue_syntax.specs.declared.tree.Sign.TheVariants.{Absent}
use Rattle.cue_syntax.specs.declared.tree.Signed.{Signed}
use Rattle.cue_syntax.specs.Syntax.{FileTree, Expression, integer, conjunction, disjunction, Branch, Entry, Entries, elements_of, branches_in, entries_in}
use Rattle.cue_syntax.specs.Spelling.{Follows, spell_file}
use Rattle.cue_syntax.specs.Grammar.{at_most, IsFileTree, IsRightPackage, AreRightEntries, EndsEntries, levels_of_entries}
use Rattle.cue_syntax.specs.Recogniser.{Goal, rest_where_stuck}
use Rattle.cue_syntax.proofs.NoTextWhereStuck.{takes_text}

-- the tokens of a text that has no fault among them
abbrev pub words_of : Result (List Token) Refusal → List Token
words_of (Ok words) = words
words_of (Err why) = []

-- the text is one of the grammar, and this is its tree
pub record IsTreeOf (text : List ℕ) (tree : FileTree) : Type 0 where
  pub words : List Token
  pub lexed : tokens text ≡ Ok words
  pub spelled : IsFileTree (at_most level_limit) words tree

-- the text has a tree, whose declarations are so
abbrev pub Says : List ℕ → (Entries → Type 0) → Type 0
Says text P = (tree : FileTree) × IsTreeOf text tree × P tree.declarations

-- it has tokens, but no tree
pub record HasNoTree (text : List ℕ) : Type 0 where
  pub words : List Token
  pub lexed : tokens text ≡ Ok words
  pub none : (tree : FileTree) → ¬ IsFileTree (at_most level_limit) words tree

-- ---- short names for parts of trees
-- declarations with no clause of a package, and no comma behind the last
abbrev pub file : List Entry → FileTree
file es = record { package_clause = None; declarations = entries_in es; comma = false }

abbrev pub label : List ℕ → Mark → Label
label name mark = record { name = Plain name; mark = mark }

abbrev pub quoted : List ℕ → Mark → Label
quoted name mark = record { name = Quoted name; mark = mark }

abbrev pub signed : Sign → ℕ → Signed
signed sign n = record { sign = sign; magnitude = n }

abbrev pub number : ℕ → Expression
number n = integer (signed Absent n)

abbrev pub both : List Expression → Expression
both es = conjunction (elements_of es)

abbrev pub either : List Branch → Expression
either bs = disjunction (branches_in bs)

-- ---- proofs
-- what a tree of the grammar is, but for its tokens
abbrev pub IsWellFormed : FileTree → Type 0
IsWellFormed tree =
    IsRightPackage tree.package_clause tree.declarations × AreRightEntries tree.declarations × EndsEntries tree.comma tree.declarations
    × (levels_of_entries tree.declarations ≤ level_limit)

pub read : (text : List ℕ) (tree : FileTree) → tokens text ≡ Ok (words_of (tokens text)) → Follows (words_of (tokens text)) (spell_file tree) [] → IsWellFormed tree
    → IsTreeOf text tree
read text tree lexed follows well = record {
  words = words_of (tokens text);
  lexed = lexed;
  spelled = record { reads = record { follows = follows }; clause = well.0; right = well.1; ends = well.2; levels = well.3 };
}

-- the recogniser, which is proved to take each text of the grammar, sticks
pub unread : (text : List ℕ) (here : List Token) → tokens text ≡ Ok (words_of (tokens text)) → rest_where_stuck (at_most level_limit) (Goal.text ∷ []) (words_of (tokens text)) ≡ Some here
    → HasNoTree text
unread text here lexed is = record {
  words = words_of (tokens text);
  lexed = lexed;
  none = λ tree spelled. let e = takes_text (at_most level_limit) (words_of (tokens text)) tree spelled in let no : None ≡ Some here = sym e ∙ is in cc;
}
