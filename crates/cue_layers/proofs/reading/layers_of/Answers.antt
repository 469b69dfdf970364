use Rattle.std.proofs.Common.{◌≡◌, ◌<◌, ◌^◌, ◌==◌, [], List, ℕ, true, false, length, inl, inr, ⊎_elim, refl, sym, ap, ◌∙◌, arith}
use Rattle.std.proofs.lemmas.Result.{err_from_is_err_and}
use Rattle.cue_layers.proofs.ReadMaps.{count_missing, counted_map, empty_map, trailing, map_by, map_spelled, nil_by}
use Rattle.cue_layers.proofs.reading.layers_of.Goals as goal
use Rattle.cue_layers.proofs.reading.layers_of.Goals.{then-count-eq0-via-then-count-eq0, then-count-eq0-via-else-count-eq0+then-not-is_empty}

pub returns-in_default-clause-refused : goal.returns-in_default-clause-refused
returns-in_default-clause-refused c = inr (refl, λ ls map e. count_missing c.args.bytes.now ls c.in_default.ensures e)

pub returns-in_err-layers-clause-refused : goal.returns-in_err-layers-clause-refused
returns-in_err-layers-clause-refused c =
    let bytes = c.args.bytes.now in
    let held : length bytes < 2 ^ 64 = omega arith in
    let p = err_from_is_err_and c.from_residual.result c.from_residual.ensures.1 in
    rw (p.1, p.2) (⊎_elim (λ m. inl m) (λ h. inr (
      h.0,
      λ ls map e.
          let m = counted_map bytes c.in-Some.rest.now c.in-Some.count ls held (λ i. omega (arith, c.type_inv.bytes i)) c.in-Some.ensures map e in
          h.1 ls [] m.0 m.1,
    )) c.in_err-layers.ensures.refused)

pub returns-then-count-eq0-clause-refused : goal.returns-then-count-eq0-clause-refused
returns-then-count-eq0-clause-refused c =
    let bytes = c.args.bytes.now in
    let held : length bytes < 2 ^ 64 = omega arith in
    inr (
      refl,
      λ ls map e.
          let m = counted_map bytes c.in-Some.rest.now c.in-Some.count ls held (λ i. omega (arith, c.type_inv.bytes i)) c.in-Some.ensures map e in
          elim c.then-count-eq0.branch [
            | then-count-eq0-via-then-count-eq0 w ↦ empty_map ls map (m.0.0 ∙ w.if-count-eq0.true)
            | then-count-eq0-via-else-count-eq0+then-not-is_empty w ↦
                let none = trailing c.in-Some.count c.in_ok-layers.layers.items ls c.in-Some.rest.now c.in_ok-layers.after.now c.in_ok-layers.ensures.parts m.0 m.1 in
                let t : false ≡ true = sym w.if-not-is_empty.true ∙ w.is_empty.ensures ∙ ap (λ (xs : List ℕ). length xs == 0) none in
                cc
          ],
    )

pub returns-clause-is_map : goal.returns-clause-is_map
returns-clause-is_map c =
    map_by c.in_ok-layers.layers.items c.in_ok-layers.ensures.ok (λ e. c.if-count-eq0.false (sym c.in_ok-layers.ensures.parts.value.0 ∙ e))

pub returns-clause-ok : goal.returns-clause-ok
returns-clause-ok c =
    let none = nil_by c.in_ok-layers.after.now c.is_empty.result c.is_empty.ensures c.if-not-is_empty.false in
    map_spelled c.args.bytes.now c.in-Some.rest.now c.in_ok-layers.after.now c.in-Some.count c.in_ok-layers.layers.items (λ i. omega (arith, c.type_inv.bytes i)) c.in-Some.ensures c.in_ok-layers.ensures.parts none
