-- The members of an object, built from the branches of a place.
use Rattle.std.proofs.Common.{◌≡◌, ◌⊎◌, inl, inr, ⊎_elim, ℕ, ◌+◌, ◌≤◌, true, false, List, [], ◌∷◌, ◌++◌, None, Some, refl, sym, ap, subst, ◌∙◌, arith}
use Rattle.std.specs.Ordering.{nat_cmp, match_ordering, ordering_then}
use Rattle.std.specs.Cmp.Lexicographic.{slice_cmp}
use Rattle.std.specs.List.{AllByRecursion}
use Rattle.std.proofs.lemmas.Bool.{false≢true}
use Rattle.std.specs.declared.cmp.Ordering.{Ordering}
use Rattle.std.specs.declared.cmp.Ordering.TheVariants.{Less, Equal, Greater}
use Rattle.cue_lattice.specs.OneOf.{OneOf}
use Rattle.cue_lattice.specs.Path as paths
use Rattle.cue_lattice.specs.Path.{label, index, step_cmp, Path, path_cmp}
use Rattle.cue_lattice.specs.Question.{Refusals, level_at_most}
use Rattle.cue_scalars.specs.Scalars.{members}
use Rattle.cue_row.specs.declared.parts.RowParts.{RowParts as Row}
use Rattle.cue_row.specs.Row.{RefusesAsked, IsRow}
use Rattle.cue_table.specs.Form.{IsStepBelowAll, AreBranches, IsRowKept, IsTable}
use Rattle.cue_table.specs.Tree.{Tree, Children, none, child, row_of, below, if_equal, find, step_into, children_of}
use Rattle.cue_table.specs.Inner.Walks.{first_child}
use Rattle.cue_table.specs.Size.{tree_size, children_size}
use Rattle.serde_json.specs.Data.{Data, Members, no_members, member, put}
use Rattle.serde_json.specs.Written.{has_float, members_have_float}
use Rattle.cue_report.specs.Answers.{IsStepDemanded}
use Rattle.cue_report.specs.Export.{refused_below, keys, AreKeys, IsShape, AreMembers}
use Rattle.cue_report.specs.Listing.{IsRising}
use Rattle.cue_report.specs.Inner.Search.{is_demanded}
use Rattle.cue_report.specs.Inner.Clear.{IsClear}
use Rattle.cue_report.specs.Picks.{IsPicked}
use Rattle.cue_report.proofs.Descent.{Told, open_below, seen, first_demanded}
use Rattle.cue_report.proofs.Found.{AreAmong, found_first, found_later, found_cases}
use Rattle.cue_report.proofs.Order.{reverse_cmp, equal_steps, all_append, all_from, one_left, one_right, rising_append}
use Rattle.cue_report.proofs.Rests.{own, at_label, branches}
use Rattle.cue_report.proofs.Documents.{document_below, or_both, or_false}

abbrev pub with_member : Members → List ℕ → Data → Members
with_member no_members key json = member key json no_members
with_member (member first here members) key json = member first here (with_member members key json)

put_last : (members : Members) (key : List ℕ) (json : Data) → AllByRecursion (λ k. step_cmp (label k) (label key) ≡ Less) (keys members) → put key json members ≡ with_member members key json
put_last no_members key json h = refl
put_last (member first here members) key json h =
    let above : slice_cmp nat_cmp key first ≡ Greater = reverse_cmp (label first) (label key) Less h.0 in
    ap (λ o. match_ordering o (member key json (member first here members)) (member first json members) (member first here (put key json members))) above
    ∙ ap (member first here) (put_last members key json h.1)

keys_more : (members : Members) (key : List ℕ) (json : Data) → keys (with_member members key json) ≡ keys members ++ key ∷ []
keys_more no_members key json = refl
keys_more (member first here members) key json = ap (λ ks. first ∷ ks) (keys_more members key json)

members_more : (refuses : Refusals) (members : Members) (key : List ℕ) (json : Data) → AreMembers IsPicked refuses members → IsShape IsPicked (refused_below refuses (label key)) json → AreMembers IsPicked refuses (with_member members key json)
members_more refuses no_members key json h d = (d, tt)
members_more refuses (member first here members) key json h d = (h.0, members_more refuses members key json h.1 d)

members_float : (members : Members) (key : List ℕ) (json : Data) → members_have_float members ≡ false → has_float json ≡ false → members_have_float (with_member members key json) ≡ false
members_float no_members key json h d = or_false (has_float json) false d refl
members_float (member first here members) key json h d =
    let both = or_both (has_float here) (members_have_float members) h in
    or_false (has_float here) (members_have_float (with_member members key json)) both.0 (members_float members key json both.1 d)

abbrev pub key_path : List ℕ → Path
key_path key = label key ∷ []

-- Of the branches of a place, some are left to be looked at.
pub record IsGathered (tree : Tree Row) (rest : Children Row) (members : Members) : Type 0 where
  pub sound : AllByRecursion (λ key. IsStepDemanded (Told tree) [] (label key)) (keys members)
  pub complete : (key : List ℕ) → IsStepDemanded (Told tree) [] (label key) → OneOf (λ k. k ≡ key) (keys members) ⊎ ((inner : Tree Row) × (find (label key) rest ≡ Some inner))
  pub rising : IsRising key_path (keys members)
  pub before : AllByRecursion (λ key. IsStepBelowAll (label key) rest) (keys members)
  pub among : AreAmong tree rest
  pub form : AreBranches (IsRowKept RefusesAsked IsRow) rest
  pub documents : IsClear (Told tree) → AreMembers IsPicked (Told tree) members
  pub no_float : members_have_float members ≡ false
  pub small : children_size rest ≤ children_size (below tree)

pub none_gathered : (tree : Tree Row) (rest : Children Row) (members : Members) → IsTable RefusesAsked IsRow tree → rest ≡ below tree → members ≡ no_members → IsGathered tree rest members
none_gathered tree rest members h r m = subst (λ cs. IsGathered tree cs members) (sym r) (subst (IsGathered tree (below tree)) (sym m) start) where
  start : IsGathered tree (below tree) no_members
  start = record {
    sound = tt;
    complete = λ key d. ⊎_elim (λ f. absurd (open_below tree (label key) [] (level_at_most 0) f d)) (λ (inner, f). inr (inner, sym (at_label tree key) ∙ f)) (found_cases (step_into tree (label key)));
    rising = tt;
    before = tt;
    among = λ step inner f. own tree inner step h f;
    form = branches tree h;
    documents = λ z. tt;
    no_float = refl;
    small = omega arith;
  }

-- a branch is the first or one of the others
first_or_later :
    (step next : paths.Step) (here : Tree Row) (rest : Children Row) (inner : Tree Row) → find step (child next here rest) ≡ Some inner
    → (step ≡ next) ⊎ (find step rest ≡ Some inner)
first_or_later step next here rest inner f = cases (step_cmp step next) refl f where
  cases : (o : Ordering) → step_cmp step next ≡ o → if_equal o here (find step rest) ≡ Some inner → (step ≡ next) ⊎ (find step rest ≡ Some inner)
  cases Less e g = inr g
  cases Equal e g = inl (equal_steps step next e)
  cases Greater e g = inr g

passed :
    (tree here : Tree Row) (step : paths.Step) (rest rest' : Children Row) (members : Members) → IsGathered tree rest members → rest ≡ child step here rest'
    → ((key : List ℕ) → label key ≡ step → IsStepDemanded (Told tree) [] (label key) → ⊥) → IsGathered tree rest' members
passed tree here step rest rest' members v r n =
    let w : IsGathered tree (child step here rest') members = subst (λ cs. IsGathered tree cs members) r v in
    record {
      sound = w.sound;
      complete = λ key d. ⊎_elim (λ o. inl o)
          (λ (inner, f). ⊎_elim (λ e. absurd (n key e d)) (λ g. inr (inner, g)) (first_or_later (label key) step here rest' inner f))
          (w.complete key d);
      rising = w.rising;
      before = all_from (λ key. IsStepBelowAll (label key) (child step here rest')) (λ key. IsStepBelowAll (label key) rest') (keys members) (λ key b. b.1) w.before;
      among = λ s t f. w.among s t (found_later step s here t rest' w.form.0 f);
      form = w.form.3;
      documents = w.documents;
      no_float = w.no_float;
      small = let left : tree_size here + children_size rest' ≤ children_size (below tree) = w.small in omega arith;
    }

taken :
    (tree here : Tree Row) (name : List ℕ) (rest rest' : Children Row) (members after : Members) (json : Data) → IsGathered tree rest members → rest ≡ child (label name) here rest'
    → is_demanded (row_of tree) (label name) (row_of here) ≡ true → after ≡ put name json members → (IsClear (Told here) → IsShape IsPicked (Told here) json) → has_float json ≡ false → IsGathered tree rest' after
taken tree here name rest rest' members after json v r asked a d n =
    let w : IsGathered tree (child (label name) here rest') members = subst (λ cs. IsGathered tree cs members) r v in
    let found : step_into tree (label name) ≡ Some here = w.among (label name) here (found_first (label name) here rest') in
    let lower : AllByRecursion (λ k. step_cmp (label k) (label name) ≡ Less) (keys members) =
    all_from (λ key. IsStepBelowAll (label key) (child (label name) here rest')) (λ k. step_cmp (label k) (label name) ≡ Less) (keys members) (λ key b. b.0) w.before in
    let is : after ≡ with_member members name json = a ∙ put_last members name json lower in
    let ks : keys after ≡ keys members ++ name ∷ [] = ap keys is ∙ keys_more members name json in
    let demanded : IsStepDemanded (Told tree) [] (label name) = (first_demanded tree here (label name) (seen tree here (label name) found)).0 asked in
    record {
      sound = subst (AllByRecursion (λ key. IsStepDemanded (Told tree) [] (label key))) (sym ks) (all_append _ (keys members) (name ∷ []) w.sound (demanded, tt));
      complete = λ key e. ⊎_elim
          (λ o. inl (subst (OneOf (λ k. k ≡ key)) (sym ks) (one_left (λ k. k ≡ key) (keys members) (name ∷ []) o)))
          (λ (inner, f). ⊎_elim
          (λ same. inl (subst (OneOf (λ k. k ≡ key)) (sym ks) (one_right (λ k. k ≡ key) (keys members) (name ∷ []) (inl (same_label key same)))))
          (λ g. inr (inner, g)) (first_or_later (label key) (label name) here rest' inner f))
          (w.complete key e);
      rising = subst (IsRising key_path) (sym ks) (rising_append key_path (keys members) (name ∷ []) w.rising (tt, tt)
          (all_from (λ k. step_cmp (label k) (label name) ≡ Less) (λ k. AllByRecursion (λ y. path_cmp (key_path k) (key_path y) ≡ Less) (name ∷ [])) (keys members)
          (λ k b. (ap (λ o. ordering_then o (path_cmp [] [])) b, tt)) lower));
      before = subst (AllByRecursion (λ key. IsStepBelowAll (label key) rest')) (sym ks) (all_append _ (keys members) (name ∷ [])
          (all_from (λ key. IsStepBelowAll (label key) (child (label name) here rest')) (λ key. IsStepBelowAll (label key) rest') (keys members) (λ key b. b.1) w.before) (w.form.0, tt));
      among = λ s t f. w.among s t (found_later (label name) s here t rest' w.form.0 f);
      form = w.form.3;
      documents = λ z. subst (AreMembers IsPicked (Told tree)) (sym is) (members_more (Told tree) members name json (w.documents z) (document_below tree here (label name) json found demanded d z));
      no_float = ap members_have_float is ∙ members_float members name json w.no_float n;
      small = let left : tree_size here + children_size rest' ≤ children_size (below tree) = w.small in omega arith;
    }
  where
    same_label : (key : List ℕ) → label key ≡ label name → name ≡ key
    same_label key e = cc

-- the name of the next branch comes behind all that are gathered
pub put_behind :
    (tree here : Tree Row) (step : paths.Step) (name : List ℕ) (rest rest' : Children Row) (members : Members) (json : Data) → IsGathered tree rest members
    → children_of rest ≡ (step, here) ∷ children_of rest' → step ≡ label name → put name json members ≡ with_member members name json
put_behind tree here step name rest rest' members json v c s =
    let r : rest ≡ child (label name) here rest' = first_child rest rest' step here c ∙ ap (λ t. child t here rest') s in
    let w : IsGathered tree (child (label name) here rest') members = subst (λ cs. IsGathered tree cs members) r v in
    put_last members name json
    (all_from (λ key. IsStepBelowAll (label key) (child (label name) here rest')) (λ k. step_cmp (label k) (label name) ≡ Less) (keys members) (λ key b. b.0) w.before)

-- the step is no label
pub passed_index :
    (tree here : Tree Row) (step : paths.Step) (n : ℕ) (rest rest' : Children Row) (members : Members) → IsGathered tree rest members → children_of rest ≡ (step, here) ∷ children_of rest'
    → step ≡ index n → IsGathered tree rest' members
passed_index tree here step n rest rest' members w c s = passed tree here step rest rest' members w (first_child rest rest' step here c) (λ key e d. no_label key (e ∙ s)) where
  no_label : (key : List ℕ) → label key ≡ index n → ⊥
  no_label key e = cc

-- the label is not demanded
pub passed_label :
    (tree here : Tree Row) (step : paths.Step) (rest rest' : Children Row) (members : Members) → IsGathered tree rest members → children_of rest ≡ (step, here) ∷ children_of rest'
    → is_demanded (row_of tree) step (row_of here) ≡ false → IsGathered tree rest' members
passed_label tree here step rest rest' members v c n =
    let r : rest ≡ child step here rest' = first_child rest rest' step here c in
    let w : IsGathered tree (child step here rest') members = subst (λ cs. IsGathered tree cs members) r v in
    let found : step_into tree step ≡ Some here = w.among step here (found_first step here rest') in
    passed tree here step rest rest' members v r
    (λ key e d. false≢true (sym n ∙ ap (λ s. is_demanded (row_of tree) s (row_of here)) (sym e)
    ∙ (first_demanded tree here (label key) (seen tree here (label key) (subst (λ s. step_into tree s ≡ Some here) (sym e) found))).1 d))

-- the label is demanded
pub taken_label :
    (tree here : Tree Row) (step : paths.Step) (name key : List ℕ) (rest rest' : Children Row) (members after : Members) (json : Data) → IsGathered tree rest members
    → children_of rest ≡ (step, here) ∷ children_of rest' → step ≡ label name → is_demanded (row_of tree) step (row_of here) ≡ true → key ≡ name → after ≡ put key json members
    → (IsClear (Told here) → IsShape IsPicked (Told here) json) → has_float json ≡ false → IsGathered tree rest' after
taken_label tree here step name key rest rest' members after json w c s asked k a d n =
    taken tree here name rest rest' members after json w (first_child rest rest' step here c ∙ ap (λ t. child t here rest') s)
    (subst (λ t. is_demanded (row_of tree) t (row_of here) ≡ true) s asked) (a ∙ ap (λ t. put t json members) k) d n

pub all_gathered : (tree : Tree Row) (rest : Children Row) (members : Members) → IsGathered tree rest members → rest ≡ none → AreKeys (Told tree) (keys members)
all_gathered tree rest members v r =
    let w : IsGathered tree none members = subst (λ cs. IsGathered tree cs members) r v in
    record {
      sound = w.sound;
      complete = λ key d. ⊎_elim (λ o. o) (λ (inner, f). absurd (nowhere inner f)) (w.complete key d);
      rising = w.rising;
    }
  where
    nowhere : (inner : Tree Row) → None ≡ Some inner → ⊥
    nowhere inner e = cc
