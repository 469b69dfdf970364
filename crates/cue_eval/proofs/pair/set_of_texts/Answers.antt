use Rattle.std.proofs.Common.{◌≡◌, ◌∙◌, ℕ, Bool, List, Option, Some, None, ap}
use Rattle.std.specs.Prelude.{IfSome}
use Rattle.cue_sets.specs.Texts.{is_listed, is_member_if, is_text_member}
use Rattle.cue_sets.proofs.Ordered.{is_listed-permutation}
use Rattle.cue_eval.proofs.pair.set_of_texts.Goals as goal

-- the set has the texts of the sorted list, which are those of the list
listed_in : (found : Option (Bool × List (List ℕ))) (all_but : Bool) (texts sorted : List (List ℕ)) → ((t : List ℕ) → is_listed sorted t ≡ is_listed texts t) → IfSome found (λ set. set ≡ (all_but, sorted))
    → IfSome found (λ set. (t : List ℕ) → is_text_member set t ≡ is_member_if all_but (is_listed texts t))
listed_in None all_but texts sorted same is = is
listed_in (Some set) all_but texts sorted same is = λ t. ap (λ (s : Bool × List (List ℕ)). is_text_member s t) is ∙ ap (is_member_if all_but) (same t)

pub returns : goal.returns
returns c =
    let sorted = c.sort_unstable_by.new.self.items in
    listed_in c.from_texts.result c.args.all_but c.args.texts.items sorted
    (λ t. is_listed-permutation c.args.texts.items sorted t c.sort_unstable_by.ensures.permutation) c.from_texts.ensures.some
