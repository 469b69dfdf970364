use Rattle.std.proofs.Common.{ap, arith, rules, ◌∷◌}
use Rattle.cue_lex.specs.declared.token.TokenKind.TheVariants as kinds
use Rattle.cue_lex.specs.declared.punctuation.Punctuation.TheVariants as points
use Rattle.cue_syntax.specs.Viability.{IsSignAt}
use Rattle.cue_syntax.specs.Grammar.{IsKeyword}
use Rattle.cue_syntax.specs.Recogniser.{step_stack, unary}
use Rattle.cue_syntax.proofs.MovesAndStops.{takes, stopped, stops_here}
use Rattle.cue_syntax.proofs.MovesOverLiterals.{name_moves, keyword_halts, keyword_is, name_called, hidden_called}
use Rattle.cue_syntax.proofs.literal.identifier.Goals as goal

pub returns-then-is_at-clause-refused : goal.returns-then-is_at-clause-refused
returns-then-is_at-clause-refused c room =
    let keyword : ¬ IsKeyword c.in-Name.name = search rules in
    name_called c.in-Some.token.now c.in-Some.ensures.first c.in-Name.is keyword c.requires.call (c.is_at.ensures.0 c.if-is_at.true) c.syntax-then-is_at.ensures

pub returns-then-is_keyword-clause-refused : goal.returns-then-is_keyword-clause-refused
returns-then-is_keyword-clause-refused c room =
    stopped (stops_here c.syntax-then-is_keyword.ensures (keyword_halts c.in-Some.token.now c.in-Some.ensures.first c.in-Name.is (keyword_is _ (c.is_keyword.ensures.0 c.if-is_keyword.true))))

pub returns-then-is_at-2-clause-refused : goal.returns-then-is_at-2-clause-refused
returns-then-is_at-2-clause-refused c room =
    hidden_called c.in-Some.token.now c.in-Some.ensures.first c.in-Hidden.is (c.is_at-in-Hidden.ensures.0 c.if-is_at-2.true) c.syntax-then-is_at-2.ensures

pub returns-else-is_at-clause-moves : goal.returns-else-is_at-clause-moves
returns-else-is_at-clause-moves c =
    let keyword : ¬ IsKeyword c.in-Name.name = search rules in
    let paren : ¬ IsSignAt (kinds.Mark points.OpenParenthesis) c.in-Some.after.rest.now = search rules in
    name_moves c.in-Some.token.now c.in-Some.ensures.first c.in-Name.is keyword paren

pub returns-else-is_at-2-clause-moves : goal.returns-else-is_at-2-clause-moves
returns-else-is_at-2-clause-moves c = takes c.in-Some.token.now c.in-Some.ensures.first (λ below. ap (step_stack (unary ∷ below)) c.in-Hidden.is) (omega arith)

pub returns-in-Definition-clause-moves : goal.returns-in-Definition-clause-moves
returns-in-Definition-clause-moves c = takes c.in-Some.token.now c.in-Some.ensures.first (λ below. ap (step_stack (unary ∷ below)) c.in-Definition.is) (omega arith)
