use Rattle.std.proofs.Common.{◌+◌, drop, sym, subst, ◌∙◌, arith, false, false-eqb, None}
use Rattle.std.proofs.lemmas.Result.{err_from_is_err_and}
use Rattle.cue_lex.proofs.Lexing.{LexedSoFar, lexing_begins, lexing_next, lexing_fails, tokens-short}
use Rattle.cue_lex.proofs.Beginning.{KeptSoFar, keeping_begins, keeping_next, keeping_fails, keeping_quote}
use Rattle.cue_lex.proofs.lexer.tokens_of.Goals as goal

pub returns-in_err-found-clause-refused : goal.returns-in_err-found-clause-refused
returns-in_err-found-clause-refused c =
    let nonempty = false-eqb _ 0 c.loop-rest-test.ensures in
    let passed = err_from_is_err_and c.from_residual.result c.from_residual.ensures.1 in
    rw (passed.1, passed.2)
    (λ different. tokens-short c.args.text.now (omega arith) ∙ lexing_fails c.loop-rest.invariant.1 _ (omega arith) (c.in_err-found.ensures.gives different))

pub returns-in_err-found-clause-begins : goal.returns-in_err-found-clause-begins
returns-in_err-found-clause-begins c =
    let nonempty = false-eqb _ 0 c.loop-rest-test.ensures in
    let passed = err_from_is_err_and c.from_residual.result c.from_residual.ensures.1 in
    rw (passed.1, passed.2)
    (λ lacks. keeping_quote c.loop-rest.invariant.2 (omega arith) (c.in_err-found.ensures.memory lacks))

pub returns-in_err-before-clause-begins : goal.returns-in_err-before-clause-begins
returns-in_err-before-clause-begins c =
    let nonempty = false-eqb _ 0 c.loop-rest-test.ensures in
    let passed = err_from_is_err_and c.from_residual-in_err-before.result c.from_residual-in_err-before.ensures.1 in
    rw (passed.1, passed.2)
    (λ lacks. keeping_fails c.loop-rest.invariant.2 c.in_ok-found.found (omega arith) c.in_ok-found.ensures.gives c.in_err-before.ensures.memory)

pub loop-rest-init : goal.loop-rest-init
loop-rest-init c = (
  c.utf8.text,
  subst (λ found. LexedSoFar c.args.text.now found None false 0 c.args.text.now) (sym c.new-tokens.ensures.items) (lexing_begins c.args.text.now),
  keeping_begins c.args.text.now,
)

pub loop-rest-preserved : goal.loop-rest-preserved
loop-rest-preserved c =
    let nonempty = false-eqb _ 0 c.loop-rest-test.ensures in (
      c.range_from-rest.utf8,
      subst (LexedSoFar c.args.text.now c.add.new.tokens.items c.in_ok-before.before.line_end c.in_ok-before.before.is_minus _)
          (sym c.range_from-rest.ensures.value)
          (subst (λ len. LexedSoFar c.args.text.now c.add.new.tokens.items c.in_ok-before.before.line_end c.in_ok-before.before.is_minus (c.loop-rest.at + len) (drop len c.loop-rest.rest.now)) (sym c.len-len.ensures)
          (lexing_next c.loop-rest.invariant.1 c.add.new.tokens.items c.in_ok-before.before.line_end c.in_ok-before.before.is_minus c.in_ok-found.found
          (omega arith) c.in_ok-found.ensures.some c.in_ok-found.ensures.boundary.0 c.in_ok-found.ensures.gives c.in_ok-before.ensures.adds)),
      subst (KeptSoFar c.args.text.now c.in_ok-before.before.line_end c.in_ok-before.before.is_minus _)
          (sym c.range_from-rest.ensures.value)
          (subst (λ len. KeptSoFar c.args.text.now c.in_ok-before.before.line_end c.in_ok-before.before.is_minus (c.loop-rest.at + len) (drop len c.loop-rest.rest.now)) (sym c.len-len.ensures)
          (keeping_next c.loop-rest.invariant.2 c.in_ok-before.before.line_end c.in_ok-before.before.is_minus c.in_ok-found.found
          (omega arith) c.in_ok-found.ensures.some c.in_ok-found.ensures.boundary.0 c.in_ok-found.ensures.gives c.in_ok-before.ensures.stays)),
    )
