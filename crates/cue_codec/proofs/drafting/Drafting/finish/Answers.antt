use Rattle.std.proofs.Common.{◌++◌, false, refl, inr, subst, ◌∙◌, arith}
use Rattle.std.proofs.lemmas.Result.{err_from_is_err_and}
use Rattle.cue_codec.specs.Decoding.{NoRows}
use Rattle.cue_codec.specs.Inner.Drafting.{IsNext}
use Rattle.cue_codec.specs.Inner.Pieces.{HasNext}
use Rattle.cue_codec.proofs.Codes.{refused_so}
use Rattle.cue_codec.proofs.Drafted.{same_rows, next_bytes, none_on, none_begun}
use Rattle.cue_codec.proofs.drafting.Drafting.finish.Goals as goal

pub loop-rows-preserved : goal.loop-rows-preserved
loop-rows-preserved c =
    let l = c.loop-rows in
    let next : IsNext l.rows l.reader c.next.new.self c.next.new.reader = subst (HasNext l.rows l.reader c.next.new.self c.next.new.reader) c.if-not-is_added.false c.in_ok-is_added.ensures.ok in
    record { version = next.version ∙ l.invariant.version; count = next.count ∙ l.invariant.count; bytes = next_bytes l.rows c.next.new.self l.reader c.next.new.reader next ∙ l.invariant.bytes }

pub loop-rows-smaller : goal.loop-rows-smaller
loop-rows-smaller c =
    let l = c.loop-rows in
    let next : IsNext l.rows l.reader c.next.new.self c.next.new.reader = subst (HasNext l.rows l.reader c.next.new.self c.next.new.reader) c.if-not-is_added.false c.in_ok-is_added.ensures.ok in
    omega (arith, next.left)

pub returns-in_err-is_added-clause-refused : goal.returns-in_err-is_added-clause-refused
returns-in_err-is_added-clause-refused c =
    let p = err_from_is_err_and c.from_residual.result c.from_residual.ensures.1 in
    let l = c.loop-rows in
    rw (p.1, p.2)
    (refused_so c.in_err-is_added.field-0.0 _ _
    (λ none. same_rows NoRows c.args.self l.rows c.args.bytes.now l.reader l.invariant.version l.invariant.count l.invariant.bytes (none_begun l.rows.version l.rows.count (l.rows.bytes ++ l.reader) none))
    c.in_err-is_added.ensures.refused)

pub returns-then-not-is_added-clause-refused : goal.returns-then-not-is_added-clause-refused
returns-then-not-is_added-clause-refused c =
    let l = c.loop-rows in
    let none : HasNext l.rows l.reader c.next.new.self c.next.new.reader false = subst (HasNext l.rows l.reader c.next.new.self c.next.new.reader) c.if-not-is_added.true c.in_ok-is_added.ensures.ok in
    inr (refl, same_rows NoRows c.args.self l.rows c.args.bytes.now l.reader l.invariant.version l.invariant.count l.invariant.bytes (none_on l.rows l.reader none.2))
