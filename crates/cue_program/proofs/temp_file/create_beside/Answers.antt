use Rattle.std.proofs.Common.{suc, sym, ◌∙◌, string_bytes}
use Rattle.cue_program.proofs.Calls.{beside_more, beside_next, beside_none, on_err, tries_more, tries_next, tries_none}
use Rattle.cue_program.proofs.temp_file.create_beside.Goals as goal

pub returns-in_err-draft-clause-tried : goal.returns-in_err-draft-clause-tried
returns-in_err-draft-clause-tried g c = on_err c.from_residual.result (0, tries_none g.S.FileSystem.makes c.args.place.now c.args.shelf.now)

pub loop-init : goal.loop-init
loop-init g c = record {
  tried = tries_none g.S.FileSystem.makes c.args.place.now c.args.shelf.now;
  named = c.in_ok-draft.ensures.ok ∙ beside_none c.args.place.now;
}

pub returns-in_err-push_str-clause-tried : goal.returns-in_err-push_str-clause-tried
returns-in_err-push_str-clause-tried g c = on_err c.from_residual-in_err-push_str.result (c.loop.counter, c.loop.invariant.tried)

pub returns-in-Ok-clause-created : goal.returns-in-Ok-clause-created
returns-in-Ok-clause-created g c = (
  c.loop.counter,
  c.loop.shelf,
  c.loop.invariant.tried,
  beside_more c.args.place.now (string_bytes c.loop.draft) (string_bytes c.push_str.new.self) c.loop.counter c.loop.invariant.named c.in_ok-push_str.ensures.bytes,
  rw (sym c.as_str.ensures.value) c.in-Ok.ensures,
)

pub returns-in-Err-Fault-clause-tried : goal.returns-in-Err-Fault-clause-tried
returns-in-Err-Fault-clause-tried g c = (
  suc c.loop.counter,
  tries_more g.S.FileSystem.makes c.args.place.now c.as_str.result.now c.loop.counter c.args.shelf.now c.loop.shelf c.create.new.self c.loop.invariant.tried
      (c.as_str.ensures.value ∙ beside_more c.args.place.now (string_bytes c.loop.draft) (string_bytes c.push_str.new.self) c.loop.counter c.loop.invariant.named c.in_ok-push_str.ensures.bytes)
      c.in-Err-Fault.ensures,
)

pub loop-preserved : goal.loop-preserved
loop-preserved g c =
    let named = beside_more c.args.place.now (string_bytes c.loop.draft) (string_bytes c.push_str.new.self) c.loop.counter c.loop.invariant.named c.in_ok-push_str.ensures.bytes in
    record {
      tried = tries_next g.S.FileSystem.makes c.args.place.now c.as_str.result.now c.loop.counter c.args.shelf.now c.loop.shelf c.create.new.self c.loop.invariant.tried
          (c.as_str.ensures.value ∙ named) c.in-Err-Taken.ensures;
      named = beside_next c.args.place.now (string_bytes c.push_str.new.self) c.loop.counter named;
    }
