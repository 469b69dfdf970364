use Rattle.std.proofs.Common.{◌≡◌, ◌-◌, ℕ, List, slice_index_or, arith, sym, ◌∙◌, subst}
use Rattle.std.specs.List.{Contains}
use Rattle.std.proofs.lemmas.Slice.Eq.{bytes_eq-Decides}
use Rattle.cue_journal.specs.Listed.{Listed}
use Rattle.cue_journal.proofs.pieces.Pieces.is_at.Goals as goal

pub returns-in-Some : goal.returns-in-Some
returns-in-Some c is =
    let kept = c.self.inside.kept.items in
    let place = c.args.number - c.self.inside.given_up in
    let same : c.in-Some.kept.now ≡ c.args.entry.now = sym c.as_slice.ensures ∙ (bytes_eq-Decides _ _).0 (sym c.eq.ensures ∙ is) in
    subst (λ (l : Listed). Contains l.kept c.args.entry.now) c.self.view_is
    (place, omega (arith, c.if-place-len.false, c.len.ensures), sym (subst (λ (e : List ℕ). e ≡ slice_index_or kept place e) same c.in-Some.ensures.lookup))
