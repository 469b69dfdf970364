use Rattle.std.proofs.Common.{◌≡◌, ◌&&◌, ◌∙◌}
use Rattle.cue_sets.specs.Pieces.{RefusesInteger}
use Rattle.cue_sets.specs.Texts.{RefusesText}
use Rattle.cue_scalars.proofs.Narrowed.{after-refuses, met_parts}
use Rattle.cue_scalars.proofs.scalar_set.ScalarSetNarrow.narrowed_by.Goals.{then-self, else-self, then-self-2, else-self-2, then-self-3, else-self-3}
use Rattle.cue_scalars.proofs.scalar_set.ScalarSetNarrow.narrowed_by.Goals as goal

pub returns : goal.returns
returns c =
    let mine = c.args.self.now in let theirs = c.args.other in
    let null : c.if-self.result ≡ (mine.null && theirs.null) = elim c.if-self.branch [ then-self w ↦ rw w.if-self.true w.result-is | else-self w ↦ rw w.if-self.false (w.result-is ∙ w.if-self.false) ] in
    let no : c.if-self-2.result ≡ (mine.no && theirs.no) = elim c.if-self-2.branch [ then-self-2 w ↦ rw w.if-self-2.true w.result-is | else-self-2 w ↦ rw w.if-self-2.false (w.result-is ∙ w.if-self-2.false) ] in
    let yes : c.if-self-3.result ≡ (mine.yes && theirs.yes) = elim c.if-self-3.branch [ then-self-3 w ↦ rw w.if-self-3.true w.result-is | else-self-3 w ↦ rw w.if-self-3.false (w.result-is ∙ w.if-self-3.false) ] in
    met_parts mine theirs _ null no yes
    (λ n. rw c.in_ok-or_copy.ensures (after-refuses RefusesInteger mine.ints theirs.ints c.in_ok-ints.ints c.in_ok-ints.ensures n))
    (λ t. rw c.in_ok-or_copy-2.ensures (after-refuses RefusesText mine.texts theirs.texts c.in_ok-texts.texts c.in_ok-texts.ensures t))
