use Rattle.std.proofs.Common.{List, ◌++◌, refl, ap, ◌∙◌}
use Rattle.http_server.specs.declared.connection.Connection.{Connection}
use Rattle.http_server.specs.Connection.{history}
use Rattle.http_server.specs.Exchange.{Call}
use Rattle.http_server.specs.History.{History}
use Rattle.cue_rounds.proofs.Counting.{chain_inner}
use Rattle.cue_rounds.proofs.peer.Peer.restart.Goals as goal

pub returns-clause-calls : goal.returns-clause-calls
returns-clause-calls g c =
    let k = c.advance.ensures.calls in
    let q = c.advance.ensures.quiet in
    let blank = ap (λ (x : Connection). history x) c.replace-old.ensures.after ∙ c.requires in (
      k.0,
      chain_inner g.S.Settle.answers k.0 _ _ k.2,
      record {
        base = c.replace-old.new.dest;
        blank = blank;
        config = c.feed-fed.ensures.config ∙ c.advance.ensures.config ∙ c.feed-asked.ensures.config;
        calls = c.feed-fed.ensures.calls ∙ k.1 ∙ ap (λ (t : List Call). t ++ k.0) (c.feed-asked.ensures.calls ∙ ap (λ (h : History). h.calls) blank);
        sent = c.feed-fed.ensures.sent ∙ q.2 ∙ c.feed-asked.ensures.sent ∙ ap (λ (h : History). h.sent) blank;
        silent = refl;
      },
    )
