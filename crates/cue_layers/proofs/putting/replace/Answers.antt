use Rattle.std.proofs.Common.{◌≡◌, ◌⊎◌, ◌+◌, ◌<◌, ◌^◌, ℕ, List, set, inl, subst, ap}
use Rattle.std.proofs.lemmas.Result.{IfOk-weaker, IfErr-weaker}
use Rattle.cue_layers.specs.declared.layer.Layer.{Layer}
use Rattle.cue_layers.specs.declared.refusal.LayersRefusal.TheVariants.{RevisionsUsed}
use Rattle.cue_layers.specs.Layers.{key}
use Rattle.cue_layers.specs.Puts.{of_layers, IsUsedUp, last_revision}
use Rattle.cue_layers.specs.Refusals.{out_of_memory}
use Rattle.cue_layers.specs.Inner.Places.{IsPlace, IsGap}
use Rattle.cue_layers.specs.Inner.Putting.{Replaces}
use Rattle.cue_layers.proofs.Replacing.{replaces_over, replaces_none, used_up}
use Rattle.cue_layers.proofs.putting.replace.Goals as goal

pub returns-in-Ok-clause-ok : goal.returns-in-Ok-clause-ok
returns-in-Ok-clause-ok c =
    let l = c.index_mut.result.now in
    let x = c.put_over.new.layer in
    let old = c.args.entries.now.items in
    let at = c.in-Ok.at in
    let P : List Layer → Type 0 = λ ls. IsPlace ls (key c.args.kind c.args.name.now) at in
    let place = subst P c.as_slice.ensures.value c.in-Ok.ensures in
    IfOk-weaker c.put_over.result
    (λ revision. (x ≡ record l { revision = revision; content = c.args.content }) × (revision ≡ l.revision + 1) × (revision < 2 ^ 64))
    (λ revision. Replaces old c.args.kind c.args.name.now c.args.content (set old at x) revision)
    (λ revision h. replaces_over old c.args.kind c.args.name.now c.args.content at l x revision c.requires.is_map c.requires.is_name c.requires.may_put place c.index_mut.ensures.value h.0 h.1 h.2)
    c.put_over.ensures.ok

pub returns-in-Ok-clause-refused : goal.returns-in-Ok-clause-refused
returns-in-Ok-clause-refused c =
    let l = c.index_mut.result.now in
    let old = c.args.entries.now.items in
    let k = key c.args.kind c.args.name.now in
    let P : List Layer → Type 0 = λ ls. IsPlace ls k c.in-Ok.at in
    let place = subst P c.as_slice.ensures.value c.in-Ok.ensures in
    IfErr-weaker c.put_over.result (λ why. (why ≡ RevisionsUsed) × (l.revision ≡ last_revision))
    (λ why. ((why ≡ RevisionsUsed) × IsUsedUp of_layers old k) ⊎ (why ≡ out_of_memory))
    (λ why h. inl (h.0, used_up old k c.in-Ok.at l place c.index_mut.ensures.value h.1))
    c.put_over.ensures.refused

pub returns-in_ok-insert-in-Err-clause-ok : goal.returns-in_ok-insert-in-Err-clause-ok
returns-in_ok-insert-in-Err-clause-ok c =
    let old = c.args.entries.now.items in
    let k = key c.args.kind c.args.name.now in
    let P : List Layer → Type 0 = λ ls. IsGap ls k c.in-Err.at in
    let gap = subst P c.as_slice.ensures.value c.in-Err.ensures in
    let x : Layer = record { kind = c.args.kind; name = c.in_ok-name-in-Err.name; revision = 1; content = c.args.content } in
    let named : x ≡ record { kind = c.args.kind; name = c.args.name.now; revision = 1; content = c.args.content } =
    ap (λ (n : List ℕ). record { kind = c.args.kind; name = n; revision = 1; content = c.args.content }) c.in_ok-name-in-Err.ensures.text in
    replaces_none old c.args.kind c.args.name.now c.args.content c.in-Err.at x c.insert.new.entries.items c.requires.is_map c.requires.is_name c.requires.may_put gap named c.in_ok-insert-in-Err.ensures.ok
