use Rattle.std.proofs.Common.{◌≡◌, ◌||◌, false, true, set, get_or, ap, sym, subst, ◌∙◌, arith}
use Rattle.cue_syntax.specs.declared.tree.LabelName.{LabelName}
use Rattle.cue_scope.specs.Names.{is_unquoted}
use Rattle.cue_scope.specs.Words.{word_number}
use Rattle.cue_scope.proofs.WordNumbers.{hides}
use Rattle.cue_scope.proofs.words.hide.Goals as goal

pub returns-in-Some : goal.returns-in-Some
returns-in-Some c =
    λ t at is. let hidden = c.args.hidden.now in
    subst (λ (l : LabelName). get_or (set hidden c.in-Some.number true) at false ≡ (is_unquoted t l || get_or hidden at false)) (sym c.in-Plain.is)
    (hides c.in-Plain.word hidden c.in-Some.number (ap word_number (sym c.as_str.ensures.bytes) ∙ sym c.number_of.ensures.number ∙ c.in-Some.is)
    (omega (arith, c.told-hidden, c.in-Some.ensures.few)) t at is)
