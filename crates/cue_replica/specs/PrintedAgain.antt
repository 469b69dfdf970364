-- The printed text of a site, handed to a site that has accepted nothing.
use Rattle.std.specs.Prelude.{◌≡◌, ◌≢◌, ◌⊎◌, ℕ, List, Err}
use Rattle.cue_lattice.specs.Question.{SameAnswers}
use Rattle.cue_lattice.specs.Refusal.{memory}
use Rattle.cue_lex.specs.Tokens.{tokens, text_too_long}
use Rattle.cue_syntax.specs.Syntax.{FileTree}
use Rattle.print_laws.specs.Taken.{IsOverLimitAs}
use Rattle.cue_replica.specs.declared.world.Outcome.{Outcome}
use Rattle.cue_replica.specs.declared.world.Outcome.TheVariants.{Accepted, Refused}
use Rattle.cue_replica.specs.Language.{Table, empty_site, language}
use Rattle.cue_replica.specs.Reports.{printed_text}
use Rattle.cue_replica.specs.World.{SubmitsText}

-- the text has too many bytes; or its tokens are a file of the grammar, whose one tree opens too
-- many levels, is too large or has too long a path
abbrev pub IsOverLimit : List ℕ → Type 0
IsOverLimit text = (tokens text ≡ Err text_too_long) ⊎ ((tree : FileTree) × IsOverLimitAs text tree)

-- the text is legal, and refuses at each path just the questions that the table refuses there
pub record TextMeans (table : Table) (text : List ℕ) : Type 0 where
  pub legal : language.IsLegal text
  pub answers : SameAnswers (language.text_refuses text) (language.table_refuses table)

-- Where something is known, the text means the table, or it is over a limit.
abbrev pub IsStateReadAgain : Table → List ℕ → Type 0
IsStateReadAgain table text = table ≢ empty_site → IsOverLimit text ⊎ TextMeans table text

-- the new table is this one, or the text was refused for want of memory
abbrev pub IsAgain : Table → Table → Outcome → Type 0
IsAgain table new Accepted = new ≡ table
IsAgain table new (Refused why) = why ≡ memory
IsAgain table new outcome = ⊥

-- The printed text of a site where something is known is over a limit; or a site that has accepted
-- nothing, to which it is handed, holds the same table then, or memory was wanting.
abbrev pub GivesTheSiteAgain : Type 0
GivesTheSiteAgain =
    (table new : Table) (outcome : Outcome) → language.IsValid table → table ≢ empty_site
    → SubmitsText (printed_text table) empty_site new outcome
    → IsOverLimit (printed_text table) ⊎ IsAgain table new outcome
