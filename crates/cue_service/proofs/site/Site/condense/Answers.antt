use Rattle.std.proofs.Common.{◌<◌, ◌^◌, length, sym, ap, ◌∙◌, refl, arith}
use Rattle.cue_journal.specs.Batches.{batch_bytes}
use Rattle.cue_replica.specs.Language.{language}
use Rattle.cue_replica.proofs.Sound.{sound}
use Rattle.cue_service.proofs.Condensing.{not_condensed, condensed_left, condensed_or_kept}
use Rattle.cue_service.proofs.Opening.{not_failed, has_failed, refused}
use Rattle.cue_service.proofs.site.Site.condense.Goals as goal

pub returns : goal.returns
returns g c =
    let fine = sym c.is_err.ensures.value ∙ c.if-is_err.false in
    let bytes = c.deref.result.now in
    let short : length bytes < 2 ^ 32 = not_failed c.push.result fine c.push.ensures.fits in
    let added = not_failed c.push.result fine c.push.ensures.ok in
    let written = c.deref.ensures.value ∙ c.in-Ok.ensures ∙ ap language.written c.table-2.ensures in
    record {
      consistent = λ pieces stands empty before.
          condensed_or_kept g.D.Disk.seen g.D.Disk.may_leave sound c.condense-condensed.result (sym c.is_ok.ensures.value ∙ stands) c.args.self.now _ pieces bytes (batch_bytes c.push.new.self) before empty
          (omega (arith, short)) written added c.condense-condensed.ensures.condensed c.condense-condensed.ensures.kept refl c.condense-condensed.ensures.empty;
      crash = λ pieces empty before left may.
          condensed_left g.D.Disk.seen g.D.Disk.may_leave sound c.args.self.now pieces bytes (batch_bytes c.push.new.self) before empty (omega (arith, short)) written added left
          (λ ready batch. c.condense-condensed.ensures.crash ready batch left may);
      listed = refl;
      broken_after = λ fails. refused c.condense-condensed.result (sym c.is_ok.ensures.value ∙ fails) c.condense-condensed.ensures.broken;
    }

pub returns-then-not-is_due : goal.returns-then-not-is_due
returns-then-not-is_due g c = not_condensed g.D.Disk.seen g.D.Disk.may_leave sound c.args.self.now _ refl refl refl refl

pub returns-then-size-ge-LONGEST : goal.returns-then-size-ge-LONGEST
returns-then-size-ge-LONGEST g c = not_condensed g.D.Disk.seen g.D.Disk.may_leave sound c.args.self.now _ refl refl refl refl

pub returns-in_default : goal.returns-in_default
returns-in_default g c = not_condensed g.D.Disk.seen g.D.Disk.may_leave sound c.args.self.now _ refl refl refl refl

pub returns-then-is_err : goal.returns-then-is_err
returns-then-is_err g c =
    not_condensed g.D.Disk.seen g.D.Disk.may_leave sound c.args.self.now _ refl refl (has_failed c.push.result (sym c.is_err.ensures.value ∙ c.if-is_err.true) c.push.ensures.err) refl
