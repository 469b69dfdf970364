use Rattle.std.proofs.Common.{Some, sym, subst}
use Rattle.cue_report.specs.Inner.GapSearch.{AtPlace}
use Rattle.cue_report.specs.Stream.{flow_of}
use Rattle.cue_report.specs.Inner.Writing.{WritesScalar}
use Rattle.cue_report.proofs.Breaking.{scalar_told, null_told}
use Rattle.cue_report.proofs.document_text.write_scalar.Goals.{in-None+in_ok-token-in-None, in-Some+in_ok-write_one-in-Some+in-Text+in-Long-1, in-Some+in_ok-write_one-in-Some+in-Text+in-Short-1, in-Some+in_ok-write_one-in-Some+in-Null-1}
use Rattle.cue_report.proofs.document_text.write_scalar.Goals as goal

pub returns-clause-told : goal.returns-clause-told
returns-clause-told g c form =
    let row = c.args.row.now in
    let start = flow_of (g.S.TextSink.taken c.args.out.now) c.args.stream.now in
    elim c.match-branch-2.branch [
      | in-None+in_ok-token-in-None w ↦
          subst (WritesScalar (AtPlace (Some row)) start) (λ i. flow_of (g.S.TextSink.taken (sym w.out-is i)) (sym w.stream-is i))
          (null_told row c.in_ok-pick_scalar.field-0 start _ w.in-None.is (c.in_ok-pick_scalar.ensures.none form) w.in_ok-token-in-None.ensures.told)
      | in-Some+in_ok-write_one-in-Some+in-Text+in-Long-1 w ↦
          subst (WritesScalar (AtPlace (Some row)) start) (λ i. flow_of (g.S.TextSink.taken (sym w.out-is i)) (sym w.stream-is i))
          (scalar_told row c.in_ok-pick_scalar.field-0 _ start _ w.in-Some.is (c.in_ok-pick_scalar.ensures.some form) w.in_ok-write_one-in-Some.ensures.told)
      | in-Some+in_ok-write_one-in-Some+in-Text+in-Short-1 w ↦
          subst (WritesScalar (AtPlace (Some row)) start) (λ i. flow_of (g.S.TextSink.taken (sym w.out-is i)) (sym w.stream-is i))
          (scalar_told row c.in_ok-pick_scalar.field-0 _ start _ w.in-Some.is (c.in_ok-pick_scalar.ensures.some form) w.in_ok-write_one-in-Some.ensures.told)
      | in-Some+in_ok-write_one-in-Some+in-Null-1 w ↦
          subst (WritesScalar (AtPlace (Some row)) start) (λ i. flow_of (g.S.TextSink.taken (sym w.out-is i)) (sym w.stream-is i))
          (scalar_told row c.in_ok-pick_scalar.field-0 _ start _ w.in-Some.is (c.in_ok-pick_scalar.ensures.some form) w.in_ok-write_one-in-Some.ensures.told)
    ]
