use Rattle.std.proofs.Common.{◌↔◌, ◌⊎◌, sym, ap, ◌∙◌}
use Rattle.cue_lattice.specs.Path as paths
use Rattle.cue_policies.specs.declared.kind.LayerKind.TheVariants as kinds
use Rattle.cue_row.specs.Steps.{step_of}
use Rattle.cue_why.specs.Inner.Parts.{IsIn, IsBelow, IsOwnBelow}
use Rattle.cue_why.specs.declared.part.WrittenPart.{WrittenPart}
use Rattle.cue_why.proofs.Calls.{on_ok}
use Rattle.cue_why.proofs.Parts.{put_as, at_layer, at_index, at_label}
use Rattle.cue_why.proofs.below.add_below.Goals as goal

pub returns-in-Layer : goal.returns-in-Layer
returns-in-Layer c =
    let step = step_of c.args.step.now in
    let part = c.args.part.now in
    let old = c.args.found.now.items in
    let new = c.add_own.new.found.items in
    let P : Type 0 = (next : WrittenPart) → IsIn next new ↔ (IsIn next old ⊎ IsOwnBelow step part next) in
    let Q : Type 0 = (next : WrittenPart) → IsIn next new ↔ (IsIn next old ⊎ IsBelow c.args.kind step part next) in
    on_ok c.add_own.result P Q
    (λ h next. put_as (IsIn next new) (IsIn next old) (IsOwnBelow step part next) (IsBelow c.args.kind step part next) (at_layer c.args.kind step part next c.in-Layer.is) (h next))
    c.add_own.ensures

pub returns-in-Label : goal.returns-in-Label
returns-in-Label c =
    let step = step_of c.args.step.now in
    let part = c.args.part.now in
    let old = c.args.found.now.items in
    let new = c.add_labels.new.found.items in
    let l = c.as_str.result.now in
    let P : Type 0 = (next : WrittenPart) → IsIn next new ↔ (IsIn next old ⊎ IsBelow kinds.Policy (paths.label l) part next) in
    let Q : Type 0 = (next : WrittenPart) → IsIn next new ↔ (IsIn next old ⊎ IsBelow c.args.kind step part next) in
    let e = ap step_of c.in-Label.is ∙ ap (λ t. paths.label t) (sym c.as_str.ensures) in
    on_ok c.add_labels.result P Q
    (λ h next. put_as (IsIn next new) (IsIn next old) (IsBelow kinds.Policy (paths.label l) part next) (IsBelow c.args.kind step part next) (at_label c.args.kind step l part next c.in-Policy.is e) (h next))
    c.add_labels.ensures

pub returns-in-Index : goal.returns-in-Index
returns-in-Index c =
    let step = step_of c.args.step.now in
    let part = c.args.part.now in
    let old = c.args.found.now.items in
    let new = c.add_own-in-Index.new.found.items in
    let P : Type 0 = (next : WrittenPart) → IsIn next new ↔ (IsIn next old ⊎ IsOwnBelow step part next) in
    let Q : Type 0 = (next : WrittenPart) → IsIn next new ↔ (IsIn next old ⊎ IsBelow c.args.kind step part next) in
    on_ok c.add_own-in-Index.result P Q
    (λ h next. put_as (IsIn next new) (IsIn next old) (IsOwnBelow step part next) (IsBelow c.args.kind step part next) (at_index c.args.kind step c.in-Index.field-0 part next (ap step_of c.in-Index.is)) (h next))
    c.add_own-in-Index.ensures
