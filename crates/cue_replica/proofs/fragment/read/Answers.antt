use Rattle.std.proofs.Common.{List, length, refl, arith, subst, inl}
use Rattle.std.proofs.lemmas.Result.{err_from_is_err_and}
use Rattle.cue_lattice.specs.Limits.{level_limit}
use Rattle.cue_lex.specs.declared.token.Token.{Token}
use Rattle.cue_syntax.specs.Grammar.{at_most, IsFileTree}
use Rattle.cue_syntax.specs.Files.{file_tree}
use Rattle.cue_syntax.specs.declared.tree.File.{File}
use Rattle.cue_scope.specs.Files.{entries_of}
use Rattle.cue_row.specs.Row.{RowRefusesQuestion}
use Rattle.cue_table.specs.Refuses.{TableRefuses}
use Rattle.cue_scope.specs.Meaning.{meant_text}
use Rattle.cue_eval.specs.Evaluated.{HasAnswersOf}
use Rattle.cue_replica.proofs.Texts.{lexed_short, tree_answers, lexer_refuses, parser_refuses, checks_refuse, lexed_not_at_once}
use Rattle.cue_replica.proofs.fragment.read.Goals as goal

pub returns-in_err-file-clause-long : goal.returns-in_err-file-clause-long
returns-in_err-file-clause-long c more = absurd (omega (arith, more, lexed_short c.args.text.now c.in_ok-tokens.tokens.items c.in_ok-tokens.ensures.found))

pub returns-in_err-resolved-clause-long : goal.returns-in_err-resolved-clause-long
returns-in_err-resolved-clause-long c more = absurd (omega (arith, more, lexed_short c.args.text.now c.in_ok-tokens.tokens.items c.in_ok-tokens.ensures.found))

pub returns-in_err-table-clause-long : goal.returns-in_err-table-clause-long
returns-in_err-table-clause-long c more = absurd (omega (arith, more, lexed_short c.args.text.now c.in_ok-tokens.tokens.items c.in_ok-tokens.ensures.found))

pub returns-clause-long : goal.returns-clause-long
returns-clause-long c more = absurd (omega (arith, more, lexed_short c.args.text.now c.in_ok-tokens.tokens.items c.in_ok-tokens.ensures.found))

pub returns-clause-answers : goal.returns-clause-answers
returns-clause-answers c =
    tree_answers c.args.text.now (file_tree c.in_ok-file.file) (TableRefuses RowRefusesQuestion c.in_ok-table.table)
    (record {
      words = c.in_ok-tokens.tokens.items;
      lexed = c.in_ok-tokens.ensures.found;
      spelled = subst (λ (ts : List Token). IsFileTree (at_most level_limit) ts (file_tree c.in_ok-file.file)) c.deref.ensures.value c.in_ok-file.ensures.spelled;
    })
    (subst (λ (file : File). HasAnswersOf (meant_text (entries_of file)) c.in_ok-table.table) c.in_ok-resolved.ensures.resolved c.in_ok-table.ensures.answers)

pub returns-in_err-tokens-clause-refused : goal.returns-in_err-tokens-clause-refused
returns-in_err-tokens-clause-refused c =
    let e = c.in_err-tokens.ensures in
    let p = err_from_is_err_and c.from_residual.result c.from_residual.ensures.1 in
    rw (p.1, p.2) (lexer_refuses c.args.text.now c.in_err-tokens.field-0.0 e.refused e.long e.begins)

pub returns-in_err-file-clause-refused : goal.returns-in_err-file-clause-refused
returns-in_err-file-clause-refused c =
    let p = err_from_is_err_and c.from_residual-in_err-file.result c.from_residual-in_err-file.ensures.1 in
    rw (p.1, p.2)
    (parser_refuses c.args.text.now c.in_ok-tokens.tokens.items c.deref.result.now (length c.args.text.now) c.in_err-file.field-0.0 c.in_ok-tokens.ensures.found c.deref.ensures.value refl
    c.in_err-file.ensures.refused c.in_err-file.ensures.accepted)

pub returns-in_err-resolved-clause-refused : goal.returns-in_err-resolved-clause-refused
returns-in_err-resolved-clause-refused c =
    let p = err_from_is_err_and c.from_residual-in_err-resolved.result c.from_residual-in_err-resolved.ensures.1 in
    rw (p.1, p.2)
    (checks_refuse c.args.text.now (file_tree c.in_ok-file.file) c.in_err-resolved.field-0.0
    (record {
      words = c.in_ok-tokens.tokens.items;
      lexed = c.in_ok-tokens.ensures.found;
      spelled = subst (λ (ts : List Token). IsFileTree (at_most level_limit) ts (file_tree c.in_ok-file.file)) c.deref.ensures.value c.in_ok-file.ensures.spelled;
    })
    c.in_err-resolved.ensures.refused)

pub returns-in_err-table-clause-refused : goal.returns-in_err-table-clause-refused
returns-in_err-table-clause-refused c =
    let p = err_from_is_err_and c.from_residual-in_err-table.result c.from_residual-in_err-table.ensures.1 in
    rw (p.1, p.2) (inl (refl, lexed_not_at_once c.args.text.now c.in_ok-tokens.tokens.items c.in_ok-tokens.ensures.found))

pub returns-clause-legal : goal.returns-clause-legal
returns-clause-legal c = (
  file_tree c.in_ok-file.file,
  record {
    words = c.in_ok-tokens.tokens.items;
    lexed = c.in_ok-tokens.ensures.found;
    spelled = subst (λ (ts : List Token). IsFileTree (at_most level_limit) ts (file_tree c.in_ok-file.file)) c.deref.ensures.value c.in_ok-file.ensures.spelled;
  },
  c.in_ok-resolved.ensures.legal,
  c.utf8.text,
)
