-- Sets that are moved out of a list, one after the other.
use Rattle.std.proofs.Common.{◌≡◌, List, [], ◌∷◌, ◌++◌, length, map, ap, sym, ◌∙◌, append_assoc, append-nil, arith}
use Rattle.std.proofs.lemmas.List.{map-append}
use Rattle.cue_scalars.specs.Pairs.{ScalarMembers}
use Rattle.cue_scalars.specs.Scalars.{members}
use Rattle.cue_scalars.specs.declared.scalar_set.ScalarSet.{ScalarSet}

-- one more set
pub sets_more :
    {A : Type 0} (members_of : A → ScalarMembers) (sets : List ScalarSet) (set : ScalarSet) (item : A) (items later all : List A) → items ≡ item ∷ later → members set ≡ members_of item
    → map members sets ++ map members_of items ≡ map members_of all → map members (sets ++ set ∷ []) ++ map members_of later ≡ map members_of all
sets_more members_of sets set item items later all is same before =
    ap (λ moved. moved ++ map members_of later) (map-append members sets (set ∷ []))
    ∙ append_assoc (map members sets) (members set ∷ []) (map members_of later)
    ∙ ap (λ moved. map members sets ++ moved ∷ map members_of later) same
    ∙ ap (λ xs. map members sets ++ map members_of xs) (sym is)
    ∙ before

-- no set is left
pub sets_all :
    {A : Type 0} (members_of : A → ScalarMembers) (sets : List ScalarSet) (left all : List A) → length left ≡ 0
    → map members sets ++ map members_of left ≡ map members_of all → map members sets ≡ map members_of all
sets_all members_of sets (item ∷ left) all none before = absurd (omega arith)
sets_all members_of sets [] all none before = sym (append-nil (map members sets)) ∙ before
