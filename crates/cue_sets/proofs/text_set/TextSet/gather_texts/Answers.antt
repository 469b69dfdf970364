use Rattle.std.proofs.Common.{◌≡◌, ◌||◌, ◌∷◌, sym, ap, ◌∙◌, rules}
use Rattle.std.specs.List.{list_any}
use Rattle.std.specs.Vec.Iter.{into_iter_items}
use Rattle.cue_sets.specs.Texts.{is_listed, is_text_member, is_member_if}
use Rattle.cue_sets.proofs.Ordered.{gathered_more}
use Rattle.cue_sets.proofs.text_set.TextSet.gather_texts.Goals as goal

pub loop-set-preserved : goal.loop-set-preserved
loop-set-preserved c = λ t.
    let texts = c.loop-set.texts.items in
    let more = c.set.inside.texts.items in
    let others = is_text_member c.loop-set.others t in
    let later = list_any (λ set. is_text_member set t) (into_iter_items c.next.new.self) in
    let is : into_iter_items c.loop-set.set-iterator ≡ c.in-Some.set ∷ into_iter_items c.next.new.self = search rules in
    let member : is_listed more t ≡ is_text_member c.in-Some.set t = ap (λ b. is_member_if b (is_listed more t)) (sym c.if-set.false) ∙ ap (λ set. is_text_member set t) c.set.view_is in
    ap (λ xs. (is_listed xs t || others) || later) c.in_ok-append.ensures.items
    ∙ gathered_more texts more others later t
    ∙ ap (λ b. (is_listed texts t || others) || (b || later)) member
    ∙ ap (λ sets. (is_listed texts t || others) || list_any (λ set. is_text_member set t) sets) (sym is)
    ∙ c.loop-set.invariant t
