use Rattle.std.proofs.Common.{◌↔◌, ◌⊎◌, rules}
use Rattle.std.specs.Prelude.{IsTrue}
use Rattle.cue_lattice.specs.Path as paths
use Rattle.cue_policies.specs.Patterns.{Concerns}
use Rattle.cue_policies.specs.declared.kind.LayerKind.TheVariants as kinds
use Rattle.cue_why.specs.Inner.Parts.{IsIn, IsOwnBelow}
use Rattle.cue_why.specs.declared.part.WrittenPart.{WrittenPart}
use Rattle.cue_why.proofs.Calls.{on_ok}
use Rattle.cue_why.proofs.Parts.{put_as, at_own}
use Rattle.cue_why.proofs.below.add_label.Goals as goal

pub returns : goal.returns
returns c =
    let part = c.args.part.now in
    let old = c.args.found.now.items in
    let new = c.add_own.new.found.items in
    let own = c.args.own.now in
    let text = c.in_ok-from_str.field-0 in
    let l = c.args.label.now in
    let P : Type 0 = (next : WrittenPart) → IsIn next new ↔ (IsIn next old ⊎ IsOwnBelow (paths.label text) part next) in
    let Q : Type 0 = (next : WrittenPart) → IsIn next new ↔ (IsIn next old ⊎ (Concerns kinds.Policy own l × IsOwnBelow (paths.label own) part next)) in
    let found : IsTrue c.concerns.result = search rules in
    on_ok c.add_own.result P Q
    (λ h next. put_as (IsIn next new) (IsIn next old) (IsOwnBelow (paths.label text) part next) (Concerns kinds.Policy own l × IsOwnBelow (paths.label own) part next)
    (at_own own l text part next (c.concerns.ensures.0 found) c.in_ok-from_str.ensures.text) (h next)) c.add_own.ensures
