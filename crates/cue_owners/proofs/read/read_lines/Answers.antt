use Rattle.std.proofs.Common.{map, subst, sym, ap, ◌∙◌}
use Rattle.std.proofs.lemmas.Bool.{false≢true}
use Rattle.std.proofs.lemmas.List.{nil_from_length}
use Rattle.cue_owners.specs.Files.{AreRows}
use Rattle.cue_owners.specs.Grants.{row_of}
use Rattle.cue_owners.proofs.Rows.{is_blank, is_not_blank}
use Rattle.cue_owners.proofs.Whole.{all_rows, next_rows, wrong_line}
use Rattle.cue_owners.proofs.read.read_lines.Goals as goal

pub returns-then-not-branch-clause-err : goal.returns-then-not-branch-clause-err
returns-then-not-branch-clause-err c =
    wrong_line c.args.lines.now c.loop-i.i _ (map row_of c.loop-i.grants.items) c.loop-i-test.true c.loop-i.invariant.0 c.loop-i.invariant.1
    (c.in_ok-add_line.ensures.wrong (λ t. false≢true (sym c.if-not-branch.true ∙ t)))

pub loop-i-preserved : goal.loop-i-preserved
loop-i-preserved c =
    let rows = c.in_ok-add_line.ensures.added c.if-not-branch.false in (
      next_rows c.args.lines.now c.loop-i.i _ (map row_of c.loop-i.grants.items) (map row_of c.add_line.new.grants.items) c.loop-i-test.true c.loop-i.invariant.0 rows,
      subst AreRows (sym rows) (c.in_ok-add_line.ensures.right c.if-not-branch.false c.loop-i.invariant.1),
    )

pub returns-then-is_empty-clause-err : goal.returns-then-is_empty-clause-err
returns-then-is_empty-clause-err c =
    let none = nil_from_length c.loop-i.grants.items (is_blank c.loop-i.grants c.is_empty.result c.is_empty.ensures c.if-is_empty.true) in
    sym (all_rows c.args.lines.now c.loop-i.i c.loop-i-test.false) ∙ sym c.loop-i.invariant.0 ∙ ap (map row_of) none

pub returns-clause-rows : goal.returns-clause-rows
returns-clause-rows c = c.loop-i.invariant.0 ∙ all_rows c.args.lines.now c.loop-i.i c.loop-i-test.false

pub returns-clause-right : goal.returns-clause-right
returns-clause-right c =
    subst AreRows (c.loop-i.invariant.0 ∙ all_rows c.args.lines.now c.loop-i.i c.loop-i-test.false) c.loop-i.invariant.1

pub returns-clause-some : goal.returns-clause-some
returns-clause-some c = is_not_blank c.loop-i.grants c.is_empty.result c.is_empty.ensures c.if-is_empty.false
