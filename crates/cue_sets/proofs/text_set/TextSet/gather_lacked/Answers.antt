use Rattle.std.proofs.Common.{◌≡◌, ◌&&◌, not, ◌∷◌, sym, ap, ◌∙◌, rules}
use Rattle.std.specs.List.{list_all}
use Rattle.std.specs.Vec.Iter.{into_iter_items}
use Rattle.cue_sets.specs.Texts.{is_listed, is_text_member, is_member_if}
use Rattle.cue_sets.proofs.Ordered.{lacked_more}
use Rattle.cue_sets.proofs.text_set.TextSet.gather_lacked.Goals as goal

pub loop-set-preserved-then-set : goal.loop-set-preserved-then-set
loop-set-preserved-then-set c = λ t.
    let texts = c.loop-set.texts.items in
    let more = c.set.inside.texts.items in
    let others = is_text_member c.loop-set.others t in
    let later = list_all (λ set. is_text_member set t) (into_iter_items c.next.new.self) in
    let is : into_iter_items c.loop-set.set-iterator ≡ c.in-Some.set ∷ into_iter_items c.next.new.self = search rules in
    let member : not (is_listed more t) ≡ is_text_member c.in-Some.set t = ap (λ b. is_member_if b (is_listed more t)) (sym c.if-set.true) ∙ ap (λ set. is_text_member set t) c.set.view_is in
    ap (λ xs. (not (is_listed xs t) && others) && later) c.in_ok-append.ensures.items
    ∙ lacked_more texts more others later t
    ∙ ap (λ b. (not (is_listed texts t) && others) && (b && later)) member
    ∙ ap (λ sets. (not (is_listed texts t) && others) && list_all (λ set. is_text_member set t) sets) (sym is)
    ∙ c.loop-set.invariant t
