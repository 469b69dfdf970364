use Rattle.std.proofs.Common.{[], refl, ap, ◌∙◌, inl, inr}
use Rattle.cue_rounds.proofs.Working.{works_same}
use Rattle.cue_rounds.proofs.peer.Peer.ask_again.Goals as goal

pub returns-in_default-clause-calls : goal.returns-in_default-clause-calls
returns-in_default-clause-calls g c =
    ([], refl, inl (works_same g.T.ClientStream.written _ _ c.question_since.ensures.connection (ap g.T.ClientStream.written c.question_since.ensures.stream)))

pub returns-clause-calls : goal.returns-clause-calls
returns-clause-calls g c =
    let x = c.restart.ensures.calls in (
      x.0,
      x.1,
      inr (record {
        base = x.2.base;
        blank = x.2.blank;
        config = x.2.config;
        calls = x.2.calls;
        sent = x.2.sent;
        silent = x.2.silent ∙ ap g.T.ClientStream.written c.question_since.ensures.stream;
      }),
    )
