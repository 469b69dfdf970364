use Rattle.std.proofs.Common.{sym, ◌∙◌}
use Rattle.std.proofs.lemmas.Bool.{false≢true}
use Rattle.cue_sets.proofs.Within.{finite_answer, cofinite_answer, cofinite_not_within}
use Rattle.cue_sets.proofs.text_set.TextSet.is_within.Goals as goal

pub returns-then-other : goal.returns-then-other
returns-then-other c =
    let mine = c.self.inside in let theirs = c.other.inside in
    rw (← c.self.view_is, ← c.other.view_is)
    (cofinite_answer c.each_is_listed.result (mine.all_but, mine.texts.items) (theirs.all_but, theirs.texts.items) c.as_slice-texts.result.now c.as_slice-others.result.now c.if-self.true c.if-other.true c.as_slice-texts.ensures.value c.as_slice-others.ensures.value c.each_is_listed.ensures)

pub returns-else-other : goal.returns-else-other
returns-else-other c =
    let mine = c.self.inside in let theirs = c.other.inside in
    rw (← c.self.view_is, ← c.other.view_is)
    (λ h. absurd (false≢true (sym c.if-other.false ∙ h)), λ w. absurd (cofinite_not_within (mine.all_but, mine.texts.items) (theirs.all_but, theirs.texts.items) c.if-self.true c.if-other.false w))

pub returns : goal.returns
returns c =
    let mine = c.self.inside in let theirs = c.other.inside in
    rw (← c.self.view_is, ← c.other.view_is)
    (finite_answer c.each_is_listed-2.result (mine.all_but, mine.texts.items) (theirs.all_but, theirs.texts.items) c.as_slice-texts.result.now c.as_slice-others.result.now c.if-self.false c.as_slice-texts.ensures.value c.as_slice-others.ensures.value c.each_is_listed-2.ensures)
