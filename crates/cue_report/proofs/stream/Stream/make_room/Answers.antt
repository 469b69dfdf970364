use Rattle.std.proofs.Common.{[], sym, ap, subst, ◌∙◌}
use Rattle.cue_report.specs.Stream.{PendingText, WritesTokens, flow_of}
use Rattle.cue_report.proofs.Flows.{stays}
use Rattle.cue_report.proofs.stream.Stream.make_room.Goals.{then-self-ge-PART+in_ok-drain, else-self-ge-PART}
use Rattle.cue_report.proofs.stream.Stream.make_room.Goals as goal

pub returns-clause-told : goal.returns-clause-told
returns-clause-told g c =
    let start = flow_of (g.S.TextSink.taken c.args.out.now) c.args.self.now in
    elim c.if-self-ge-PART.branch [
      | then-self-ge-PART+in_ok-drain w ↦
          subst (λ after. WritesTokens start after []) (λ i. flow_of (g.S.TextSink.taken (sym w.out-is i)) ((sym w.self-is ∙ sym c.self-2.view_is) i)) w.in_ok-drain.ensures.told
      | else-self-ge-PART w ↦
          stays start (flow_of (g.S.TextSink.taken c.if-self-ge-PART.out) _) (ap g.S.TextSink.taken w.out-is) (ap (λ (s : PendingText). s.pending) (c.self-2.view_is ∙ w.self-is))
          (ap (λ (s : PendingText). s.owes) (c.self-2.view_is ∙ w.self-is))
    ]
