-- What a crash leaves of two journals.
use Rattle.std.proofs.Common.{◌≡◌, ℕ, List, [], ◌++◌, ap, ◌∙◌, inl, inr, append-nil, append_assoc}
use Rattle.cue_journal.specs.Frames.{file_entries}
use Rattle.cue_journal.specs.Settled.{IsBeforeOrAfter, IsKeptOrCleared}
use Rattle.cue_journal.specs.Pairs.{IsCommitted, IsCondensed}
use Rattle.std.proofs.Common.{sym}

joined : (a b c d left : List (List ℕ)) → left ≡ a ++ b → a ≡ c → b ≡ d → left ≡ c ++ d
joined a b c d left is first second = is ∙ ap (λ (l : List (List ℕ)). l ++ b) first ∙ ap (λ (l : List (List ℕ)). c ++ l) second

-- the journal that grows was written
pub commit_left : (spare grown more left : List (List ℕ)) (first second : List ℕ) → file_entries first ≡ spare → IsBeforeOrAfter grown more second
    → left ≡ file_entries first ++ file_entries second → IsCommitted (spare ++ grown) more left
commit_left spare grown more left first second there (inl before) is = inl (joined (file_entries first) (file_entries second) spare grown left is there before)
commit_left spare grown more left first second there (inr after) is =
    inr (joined (file_entries first) (file_entries second) spare (grown ++ more) left is there after ∙ sym (append_assoc spare grown more))

-- the spare one was written
pub copied_left : (spare grown batch left : List (List ℕ)) (first second : List ℕ) → IsBeforeOrAfter spare batch first → file_entries second ≡ grown
    → left ≡ file_entries first ++ file_entries second → IsCondensed spare grown batch left
copied_left spare grown batch left first second (inl before) there is = inl (joined (file_entries first) (file_entries second) spare grown left is before there)
copied_left spare grown batch left first second (inr after) there is = inr (inl (joined (file_entries first) (file_entries second) (spare ++ batch) grown left is after there))

-- and then the one that grew was cleared
pub cleared_left : (spare grown batch left : List (List ℕ)) (first second : List ℕ) → file_entries first ≡ spare ++ batch → IsKeptOrCleared grown second
    → left ≡ file_entries first ++ file_entries second → IsCondensed spare grown batch left
cleared_left spare grown batch left first second there (inl before) is = inr (inl (joined (file_entries first) (file_entries second) (spare ++ batch) grown left is there before))
cleared_left spare grown batch left first second there (inr none) is =
    inr (inr (joined (file_entries first) (file_entries second) (spare ++ batch) [] left is there none ∙ append-nil (spare ++ batch)))

-- and then they changed places
pub swapped_left : (spare grown batch left : List (List ℕ)) (first second : List ℕ) → file_entries first ≡ [] → file_entries second ≡ spare ++ batch
    → left ≡ file_entries first ++ file_entries second → IsCondensed spare grown batch left
swapped_left spare grown batch left first second none there is = inr (inr (joined (file_entries first) (file_entries second) [] (spare ++ batch) left is none there))
