-- What the functions of the parser say of what they read, and of where they stop, from one cursor
-- to the next.
use Rattle.std.specs.Prelude.{◌≡◌, ◌≤◌, ◌<◌, ℕ, length}
use Rattle.cue_syntax.specs.declared.cursor.TokenCursor.{TokenCursor}
use Rattle.cue_syntax.specs.declared.stop.ParserStop.{ParserStop}
use Rattle.cue_syntax.specs.declared.tree.Expr.{Expr}
use Rattle.cue_syntax.specs.Syntax.{expression}
use Rattle.cue_syntax.specs.Grammar.{IsExpression, IsLiteral}
use Rattle.cue_syntax.specs.Recogniser.{Stack, MovesStack, ParserRefusesAt}

-- The second cursor stands further on in the text of the first.
pub record IsFurther (before after : TokenCursor) : Type 0 where
  -- fewer tokens are left
  pub shorter : length after.rest.now < length before.rest.now
  -- the text ends where it did
  pub end : after.end ≡ before.end

-- The second cursor stands where the first does, or further on in its text.
pub record IsOnward (before after : TokenCursor) : Type 0 where
  -- no more tokens are left
  pub no_longer : length after.rest.now ≤ length before.rest.now
  -- the text ends where it did
  pub end : after.end ≡ before.end

-- the tokens between the cursors spell the expression, which is one of the grammar and opens no
-- more levels than there is room for
abbrev pub ReadsExpression : ℕ → TokenCursor → Expr × TokenCursor → Type 0
ReadsExpression room before read =
    IsExpression room before.rest.now (expression read.0) read.1.rest.now

-- the tokens between the cursors spell the expression, which is one of the grammar and holds no
-- other
abbrev pub ReadsLiteral : TokenCursor → Expr × TokenCursor → Type 0
ReadsLiteral before read = IsLiteral before.rest.now (expression read.0) read.1.rest.now

-- between the cursors the goals are read as far as the next ones, with this room for levels
abbrev pub MovesBetween : ℕ → Stack → Stack → TokenCursor → TokenCursor → Type 0
MovesBetween room goals next before after = MovesStack room goals before.rest.now next after.rest.now

-- the parser stops for want of memory, or because the goals can't read the tokens from the cursor
-- on with this room for levels
abbrev pub ParserRefuses : ℕ → Stack → TokenCursor → ParserStop → Type 0
ParserRefuses room goals before stop = ParserRefusesAt room before.end goals before.rest.now stop

-- it stops so whatever the room
abbrev pub RefusesAlways : Stack → TokenCursor → ParserStop → Type 0
RefusesAlways goals before stop = (room : ℕ) → ParserRefuses room goals before stop
