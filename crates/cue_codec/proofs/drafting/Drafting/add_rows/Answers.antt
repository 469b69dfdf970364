use Rattle.std.proofs.Common.{◌≡◌, ◌-◌, false, length, Some, sym, ap, subst, ◌∙◌, arith}
use Rattle.std.proofs.lemmas.Bool.{false≢true}
use Rattle.cue_codec.specs.Inner.Drafting.{RowsRead}
use Rattle.cue_codec.specs.Inner.Pieces.{HasNext, HasRows}
use Rattle.cue_codec.proofs.Drafted.{rows_added, rows_full}
use Rattle.cue_codec.proofs.drafting.Drafting.add_rows.Goals as goal

pub returns-then-is_full-clause-ok : goal.returns-then-is_full-clause-ok
returns-then-is_full-clause-ok c =
    let l = c.loop-reader in
    rows_full c.args.self.now l.self c.args.bytes.now l.reader l.invariant.version l.invariant.count l.invariant.bytes
    (λ none. false≢true (sym c.loop-reader-test.true ∙ c.is_at_end.ensures.1 none)) (c.is_full.ensures.trailing (c.is_full.ensures.full.0 c.if-is_full.true))

pub returns-then-not-is_added-clause-ok : goal.returns-then-not-is_added-clause-ok
returns-then-not-is_added-clause-ok c =
    let l = c.loop-reader in
    let none : HasNext l.self l.reader c.next.new.self c.next.new.reader false = subst (HasNext l.self l.reader c.next.new.self c.next.new.reader) c.if-not-is_added.true c.in-Ok.ensures.ok in
    let same : length c.next.new.reader ≡ length l.reader = ap length none.1 in
    subst (λ (new : RowsRead). HasRows c.args.self.now c.args.bytes.now new (Some (length c.args.bytes.now - c.len.result))) (sym none.0)
    (rows_added c.args.self.now l.self c.args.bytes.now l.reader (length c.args.bytes.now - c.len.result) l.invariant.version l.invariant.count l.invariant.bytes l.invariant.fewer (omega (arith, same, c.len.ensures)))
