use Rattle.std.proofs.Common.{◌≡◌, sym, ◌∙◌, subst}
use Rattle.cue_sets.specs.Inner.Apart.{AreApart}
use Rattle.cue_sets.specs.Inner.Merge.{combination_lists, merge_texts}
use Rattle.cue_sets.specs.Texts.{IsAscending}
use Rattle.cue_sets.proofs.Apart.{merged_apart}
use Rattle.cue_sets.proofs.Merged.{IsAscending-merged, is_text_member-merged}
use Rattle.cue_sets.proofs.text_set.TextSet.into_combined.Goals.{After-all_but}
use Rattle.cue_sets.proofs.text_set.TextSet.into_combined.Goals as goal

-- what is put together is the merge of both lists
together : (c : After-all_but) → c.append.new.self.items ≡ merge_texts (combination_lists c.combine_lists-lists.result.how c.combine_lists-lists.result.left_all_but c.combine_lists-lists.result.right_all_but) c.self.inside.texts.items c.other.inside.texts.items
together c =
    let how = c.combine_lists-lists.result in
    let apart : AreApart c.self.inside.texts.items c.other.inside.texts.items = rw (← c.as_slice.ensures.value, ← c.as_slice-then-keep_each.ensures.value) (c.is_before.ensures c.if-is_before.true) in
    c.in_ok-append.ensures.items
    ∙ sym (merged_apart (combination_lists how.how how.left_all_but how.right_all_but) c.self.inside.texts.items c.other.inside.texts.items (c.keep_each.ensures.left c.if-keep_each.true) (c.keep_each.ensures.right c.if-keep_each.true) apart)

pub invariant_of-result : goal.invariant_of-result
invariant_of-result c =
    let how = c.combine_lists-lists.result in
    subst IsAscending (sym (together c)) (IsAscending-merged (combination_lists how.how how.left_all_but how.right_all_but) c.self.inside.texts.items c.other.inside.texts.items c.self.invariant c.other.invariant)

pub returns-then-is_before : goal.returns-then-is_before
returns-then-is_before c = λ text.
    let left = c.self.inside in let right = c.other.inside in let how = c.combine_lists-lists.result in
    rw (together c.before, c.all_but.ensures, c.combine_lists-lists.ensures.how, c.combine_lists-lists.ensures.left, c.combine_lists-lists.ensures.right, ← c.self.view_is, ← c.other.view_is)
    (is_text_member-merged c.args.how (left.all_but, left.texts.items) (right.all_but, right.texts.items) text c.self.invariant c.other.invariant)
