-- Beside `specs/Grammar.antt`: what private clauses and proofs alone cite.
use Rattle.std.specs.Prelude.{◌≡◌, ◌+◌, ◌≤◌, ℕ, Bool, List, ◌++◌}
use Rattle.cue_lex.specs.declared.token.Token.{Token}
use Rattle.cue_lex.specs.declared.token.TokenKind.TheVariants as kinds
use Rattle.cue_lex.specs.declared.punctuation.Punctuation.TheVariants as points
use Rattle.cue_syntax.specs.Spelling.{SpellsTree, one, comma_if, spell_elements, spell_branch}
use Rattle.cue_syntax.specs.Spelling.{spell_entry, spell_entries}
use Rattle.cue_syntax.specs.Syntax.{Rest, no_rest, any_rest, each_rest, Elements, Branch, Entry}
use Rattle.cue_syntax.specs.Syntax.{Entries}
use Rattle.cue_syntax.specs.Grammar.{IsExpression, AreNested, EndsEntries, EndsElements, AreRight}
use Rattle.cue_syntax.specs.Grammar.{IsRightBranch, IsRightEntry, AreRightEntries}
use Rattle.cue_syntax.specs.Grammar.{levels_of_elements, levels_of_branch, levels_of_entry}
use Rattle.cue_syntax.specs.Grammar.{levels_of_entries}

-- what stands between the `...` of a list and the rest: an expression, or nothing
abbrev pub IsRestOf : ℕ → List Token → Rest → List Token → Type 0
IsRestOf room tokens no_rest rest = ⊥
IsRestOf room tokens any_rest rest = tokens ≡ rest
IsRestOf room tokens (each_rest e) rest = IsExpression room tokens e rest

pub record IsTermOf (room : ℕ) (tokens : List Token) (b : Branch) (rest : List Token) : Type 0 where
  pub reads : SpellsTree tokens (spell_branch b) rest
  pub right : IsRightBranch b
  pub levels : levels_of_branch b ≤ room

pub record IsEntry (room : ℕ) (tokens : List Token) (e : Entry) (rest : List Token) : Type 0 where
  pub reads : SpellsTree tokens (spell_entry e) rest
  pub right : IsRightEntry e
  pub levels : levels_of_entry e ≤ room

-- elements and then a comma, where the truth value says that one follows
pub record AreElementTokens (room : ℕ) (tokens : List Token) (es : Elements) (comma : Bool)
    (rest : List Token) : Type 0 where
  pub reads : SpellsTree tokens (spell_elements (kinds.Mark points.Comma) es ++ comma_if comma) rest
  pub right : AreRight es
  pub ends : EndsElements comma no_rest es
  pub levels : levels_of_elements es ≤ room

-- declarations, and the brace that closes them
pub record AreBraced (room : ℕ) (tokens : List Token) (es : Entries) (comma : Bool)
    (rest : List Token) : Type 0 where
  pub reads : SpellsTree tokens
      (spell_entries es ++ comma_if comma ++ one (kinds.Mark points.CloseBrace)) rest
  pub right : AreRightEntries es
  pub nested : AreNested es
  pub ends : EndsEntries comma es
  pub levels : levels_of_entries es ≤ room
