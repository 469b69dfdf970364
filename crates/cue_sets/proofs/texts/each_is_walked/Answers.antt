use Rattle.std.proofs.Common.{rules, ◌≡◌, ◌∷◌, not, refl, sym, ap, ◌∙◌, drop}
use mathlib.Core.Bool.{beq}
use Rattle.std.proofs.lemmas.Bool.{false≢true}
use Rattle.cue_sets.specs.Inner.Merge.{merge_texts}
use Rattle.cue_sets.specs.Texts.{is_listed}
use Rattle.cue_sets.proofs.Within.{is_amiss, Stands, none_left, none_amiss, some_amiss, amiss_next}
use Rattle.cue_sets.proofs.texts.each_is_walked.Goals.{in-empty, in-len1-up-right}
use Rattle.cue_sets.proofs.texts.each_is_walked.Goals as goal

pub returns-then-is_eq-wanted : goal.returns-then-is_eq-wanted
returns-then-is_eq-wanted c =
    let wanted = c.args.wanted in let text = c.text-item.result in
    let rest = drop 1 c.loop-left.left.now in
    let right = c.loop-left.right.now in
    let is : c.loop-left.left.now ≡ text ∷ rest = search rules in
    let stands : Stands c.if-right-lt1.order text right = elim c.if-right-lt1.branch [ in-empty w ↦ search rules | in-len1-up-right w ↦ search rules ] in
    let found = amiss_next wanted text rest right c.if-right-lt1.order stands (sym c.is_le.ensures ∙ c.if-is_le.true) (ap (λ b. not (beq b wanted)) (sym c.is_eq.ensures) ∙ c.if-is_eq-wanted.true) in
    let listed = ap (λ ts. is_listed ts text) (sym c.loop-left.invariant ∙ ap (λ l. merge_texts (is_amiss wanted) l right) is) ∙ found in (
      λ h. absurd (false≢true h),
      λ h. absurd (some_amiss c.args.texts.now c.args.others.now wanted text c.requires.texts c.requires.others listed h),
    )

pub returns : goal.returns
returns c =
    let none = sym c.loop-left.invariant ∙ none_left c.args.wanted c.loop-left.left.now c.loop-left.right.now c.in_default.len_below in
    (λ h. none_amiss c.args.texts.now c.args.others.now c.args.wanted c.requires.texts c.requires.others none, λ h. refl)
