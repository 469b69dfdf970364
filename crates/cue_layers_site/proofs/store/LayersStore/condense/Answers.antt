use Rattle.std.proofs.Common.{ℕ, List, [], ◌∷◌, ◌++◌, ◌≡◌, sym, subst, ◌∙◌, refl}
use Rattle.cue_journal.specs.Batches.{batch_bytes}
use Rattle.cue_journal.specs.Blocks.{recovered_pieces}
use Rattle.cue_journal.specs.Settled.{IsBatch}
use Rattle.cue_layers.specs.Bytes.{layers_bytes}
use Rattle.cue_layers_site.proofs.Condensing.{not_condensed, condensed_left, condensed_or_kept}
use Rattle.cue_layers_site.proofs.Outcomes.{not_failed, has_failed, refused}
use Rattle.cue_layers_site.proofs.store.LayersStore.condense.Goals as goal

pub returns : goal.returns
returns g c =
    let fine = sym c.is_err.ensures.value ∙ c.if-is_err.false in
    let bytes = c.deref.result.now in
    let written : bytes ≡ layers_bytes c.args.self.now.map = c.deref.ensures.value ∙ c.in-Ok.ensures in
    let old = batch_bytes c.args.self.now.batch in
    let new = batch_bytes c.push.new.self in
    let added = subst (λ (b : List ℕ). IsBatch old → IsBatch new × (recovered_pieces new ≡ recovered_pieces old ++ (2 ∷ b) ∷ [])) written (not_failed c.push.result fine c.push.ensures.ok) in
    record {
      same = refl;
      kept = λ stands empty before.
          condensed_or_kept g.D.Disk.seen g.D.Disk.may_leave c.condense-condensed.result (sym c.is_ok.ensures.value ∙ stands) c.args.self.now _ new before empty
          added c.condense-condensed.ensures.condensed c.condense-condensed.ensures.kept refl c.condense-condensed.ensures.empty;
      crash = λ empty before left may.
          condensed_left g.D.Disk.seen g.D.Disk.may_leave c.args.self.now new before empty added left
          (λ ready batch. c.condense-condensed.ensures.crash ready batch left may);
      broken_after = λ fails. refused c.condense-condensed.result (sym c.is_ok.ensures.value ∙ fails) c.condense-condensed.ensures.broken;
    }

pub returns-then-not-is_due : goal.returns-then-not-is_due
returns-then-not-is_due g c = not_condensed g.D.Disk.seen g.D.Disk.may_leave c.args.self.now _ refl refl refl

pub returns-in_default : goal.returns-in_default
returns-in_default g c = not_condensed g.D.Disk.seen g.D.Disk.may_leave c.args.self.now _ refl refl refl

pub returns-then-is_err : goal.returns-then-is_err
returns-then-is_err g c =
    not_condensed g.D.Disk.seen g.D.Disk.may_leave c.args.self.now _ refl refl (has_failed c.push.result (sym c.is_err.ensures.value ∙ c.if-is_err.true) c.push.ensures.err)
