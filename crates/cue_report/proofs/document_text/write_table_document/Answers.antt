use Rattle.std.proofs.Common.{[], subst, append-nil}
use Rattle.json.specs.Tree.{json_tokens}
use Rattle.serde_json.specs.Written.{outline}
use Rattle.cue_report.specs.Stream.{WritesTokens, flow_of}
use Rattle.cue_report.specs.Inner.Writing.{WritesDocument, WritesDocumentPrefix, BreaksInDocument}
use Rattle.cue_report.proofs.Breaking.{end_begun}
use Rattle.cue_report.proofs.Descent.{Told}
use Rattle.cue_report.proofs.Flows.{streams_then}
use Rattle.cue_report.proofs.Writing.{on_any, text_begun, text_put}
use Rattle.cue_report.proofs.document_text.write_table_document.Goals as goal

pub returns-in_err-write_document-clause-begun : goal.returns-in_err-write_document-clause-begun
returns-in_err-write_document-clause-begun g c =
    let start = flow_of (g.S.TextSink.taken c.args.out.now) c.in_ok-stream.stream in
    let known = g.S.TextSink.taken c.write_document.new.out in
    let begun = subst (λ tree. BreaksInDocument (Told tree) start known) c.root.ensures.branch c.in_err-write_document.ensures.begun in
    let all : WritesDocumentPrefix (Told c.args.table.now) (g.S.TextSink.taken c.args.out.now) known =
    λ clear settled json shape. text_begun start known json c.in_ok-stream.ensures.pending c.in_ok-stream.ensures.owes (begun clear settled json shape) in
    on_any _ all

pub returns-in_err-drain-clause-begun : goal.returns-in_err-drain-clause-begun
returns-in_err-drain-clause-begun g c =
    let start = flow_of (g.S.TextSink.taken c.args.out.now) c.in_ok-stream.stream in
    let whole = flow_of (g.S.TextSink.taken c.write_document.new.out) c.write_document.new.stream in
    let known = g.S.TextSink.taken c.drain.new.out in
    let told = subst (λ tree. WritesDocument (Told tree) start whole) c.root.ensures.branch c.in_ok-write_document.ensures.told in
    let all : WritesDocumentPrefix (Told c.args.table.now) (g.S.TextSink.taken c.args.out.now) known =
    λ clear settled json shape. text_begun start known json c.in_ok-stream.ensures.pending c.in_ok-stream.ensures.owes
    (end_begun (Told c.args.table.now) start whole known told c.in_err-drain.ensures.begun clear settled json shape) in
    on_any _ all

pub returns-clause-told : goal.returns-clause-told
returns-clause-told g c =
    let start = flow_of (g.S.TextSink.taken c.args.out.now) c.in_ok-stream.stream in
    let whole = flow_of (g.S.TextSink.taken c.write_document.new.out) c.write_document.new.stream in
    let end = flow_of (g.S.TextSink.taken c.drain.new.out) c.drain.new.self in
    let told = subst (λ tree. WritesDocument (Told tree) start whole) c.root.ensures.branch c.in_ok-write_document.ensures.told in
    let tokens = json_tokens (outline told.0) in (
      told.0,
      text_put start end told.0 c.in_ok-stream.ensures.pending c.in_ok-stream.ensures.owes c.in_ok-drain.ensures.none
          (subst (WritesTokens start end) (append-nil tokens) (streams_then start whole end tokens [] told.1 c.in_ok-drain.ensures.told)),
      told.2,
    )
