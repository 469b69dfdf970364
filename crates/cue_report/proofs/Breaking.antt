-- Documents of which the front was told: it begins each export, since there is one document.
use Rattle.std.proofs.Common.{◌≡◌, inl, inr, ⊎_elim, ℕ, pos, negsuc, suc, ◌+◌, ◌-◌, ◌<◌, ◌≤◌, true, false, List, [], ◌∷◌, ◌++◌, Option, None, Some, refl, sym, ap, subst, ◌∙◌, append_assoc, append-nil, arith}
use Rattle.std.specs.Prelude.{IfSome, IfNone}
use Rattle.std.specs.List.{AllByRecursion}
use Rattle.std.specs.Ordering.{ordering_then}
use Rattle.std.specs.declared.cmp.Ordering.TheVariants.{Less}
use Rattle.std.proofs.lemmas.Bool.{false≢true, cases_lt}
use Rattle.json.specs.Token.{Token}
use Rattle.json.specs.Tree.{json_tokens}
use Rattle.serde_json.specs.Data.{Data, null, boolean, number, string, array, object, Items, no_items, item, Members, no_members, member, put}
use Rattle.serde_json.specs.Written.{outline, has_float, items_have_float, members_have_float}
use Rattle.cue_lattice.specs.OneOf.{OneOf}
use Rattle.cue_lattice.specs.Path as paths
use Rattle.cue_lattice.specs.Path.{label, index, path_cmp}
use Rattle.cue_lattice.specs.Question.{Refusals, struct, list}
use Rattle.cue_lattice.specs.declared.scalar.Scalar.{Scalar}
use Rattle.cue_lattice.specs.declared.scalar.Scalar.TheVariants as scalars
use Rattle.cue_row.specs.declared.parts.RowParts.{RowParts as Row}
use Rattle.cue_table.specs.Form.{IsStepBelowAll}
use Rattle.cue_table.specs.Tree.{Tree, Children, child, row_of, find, step_into, children_of}
use Rattle.cue_report.specs.Answers.{IsStepDemanded, HasNoScalar}
use Rattle.cue_report.specs.Inner.Clear.{IsClear}
use Rattle.cue_report.specs.Export.{refused_below, data_of, keys, count_elements, AreKeys, IsLeastLength, IsAtom, IsShape, AreElements, AreMembers}
use Rattle.cue_report.specs.Inner.GapSearch.{AtPlace}
use Rattle.cue_report.specs.Gaps.{IsChosenScalar, IsFreeRow}
use Rattle.cue_report.specs.Picks.{IsPicked}
use Rattle.cue_report.specs.Inner.Search.{is_demanded, least_at}
use Rattle.cue_report.specs.Stream.{Flow, WritesTokens, WritesTokensPrefix}
use Rattle.cue_report.specs.Inner.Writing.{WritesJson, WritesDocument, WritesScalar, IsSettled, BreaksInDocument, BreaksInMembers, BreaksInElements}
use Rattle.cue_report.proofs.Clear.{clear_below}
use Rattle.cue_report.proofs.Descent.{Told, seen, first_demanded}
use Rattle.cue_report.proofs.DocumentMembers.{IsGathered, key_path, with_member, put_behind, taken_label}
use Rattle.cue_report.proofs.Documents.{Seen, index_demanded, least_is, or_false, some_struct, not_free, told_one, told_none}
use Rattle.cue_report.proofs.Exported.{same_answers}
use Rattle.cue_report.proofs.Flows.{breaks_later, breaks_now, breaks_any}
use Rattle.cue_report.proofs.Found.{below_found, found_first}
use Rattle.cue_report.proofs.OneList.{splits, has_of}
use Rattle.cue_report.proofs.OneReport.{one_document}
use Rattle.cue_report.proofs.Order.{all_from}
use Rattle.cue_report.proofs.Rows.{RefusedAt}
use Rattle.cue_report.proofs.Settled.{settled_beyond, chosen_shape, chosen_elements, chosen_members, picked_shape}
use Rattle.cue_report.proofs.Writing.{open_items, open_members, closed_items, closed_members, more_members, AreItemsSoFar, AreMembersSoFar}
use Rattle.cue_table.specs.Inner.Walks.{first_child}

-- ---- an export has no fractions
pub scalar_plain : (scalar : Scalar) → has_float (data_of scalar) ≡ false
scalar_plain scalars.Null = refl
scalar_plain (scalars.Bool b) = refl
scalar_plain (scalars.Int (pos n)) = refl
scalar_plain (scalars.Int (negsuc n)) = refl
scalar_plain (scalars.Text t) = refl

atom_plain : (json : Data) (refuses : Refusals) → IsAtom IsChosenScalar refuses json → has_float json ≡ false
atom_plain json refuses (inl h) = ap has_float h.1
atom_plain json refuses (inr h) = ap has_float h.picked.2 ∙ scalar_plain h.picked.0

mutual
  shape_plain : (json : Data) (refuses : Refusals) → IsShape IsChosenScalar refuses json → has_float json ≡ false
  shape_plain null refuses h = refl
  shape_plain (boolean b) refuses h = refl
  shape_plain (number n) refuses h = atom_plain (number n) refuses h
  shape_plain (string s) refuses h = refl
  shape_plain (array items) refuses h = items_plain items refuses 0 h.3
  shape_plain (object members) refuses h = members_plain members refuses h.3

  items_plain : (items : Items) (refuses : Refusals) (first : ℕ) → AreElements IsChosenScalar refuses first items → items_have_float items ≡ false
  items_plain no_items refuses first h = refl
  items_plain (item json items) refuses first h =
      or_false (has_float json) (items_have_float items) (shape_plain json (refused_below refuses (index first)) h.0) (items_plain items refuses (suc first) h.1)

  members_plain : (members : Members) (refuses : Refusals) → AreMembers IsChosenScalar refuses members → members_have_float members ≡ false
  members_plain no_members refuses h = refl
  members_plain (member key json members) refuses h =
      or_false (has_float json) (members_have_float members) (shape_plain json (refused_below refuses (label key)) h.0) (members_plain members refuses h.1)

-- ---- one step below
settled_below : (tree inner : Tree Row) (step : paths.Step) → step_into tree step ≡ Some inner → IsStepDemanded (Told tree) [] step → IsSettled (Told tree) → IsSettled (Told inner)
settled_below tree inner step f d z = subst (λ found. IsSettled (Seen found)) f (settled_beyond (Told tree) step d z)

still_clear : (tree inner : Tree Row) (step : paths.Step) → step_into tree step ≡ Some inner → IsStepDemanded (Told tree) [] step → IsClear (Told tree) → IsClear (Told inner)
still_clear tree inner step f d z = subst (λ found. IsClear (Seen found)) f (clear_below (Told tree) step z d)

chosen_there : (tree inner : Tree Row) (step : paths.Step) (json : Data) → step_into tree step ≡ Some inner → IsShape IsChosenScalar (refused_below (Told tree) step) json → IsShape IsChosenScalar (Told inner) json
chosen_there tree inner step json f h = subst (λ found. IsShape IsChosenScalar (Seen found) json) f h

inner_broken : (tree inner : Tree Row) (step : paths.Step) (json : Data) (now : Flow) (known : Option (List ℕ)) → step_into tree step ≡ Some inner → IsStepDemanded (Told tree) [] step
    → BreaksInDocument (Told inner) now known → IsClear (Told tree) → IsSettled (Told tree) → IsShape IsChosenScalar (refused_below (Told tree) step) json → WritesTokensPrefix now known (json_tokens (outline json))
inner_broken tree inner step json now known f d b clear settled h =
    b (still_clear tree inner step f d clear) (settled_below tree inner step f d settled) json (chosen_there tree inner step json f h)

-- ---- a list
record ItemsLeft (refuses : Refusals) (next left : ℕ) (done all : Items) : Type 0 where
  rest : Items
  split : open_items all ≡ open_items done ++ open_items rest
  long : count_elements rest ≡ left
  elements : AreElements IsChosenScalar refuses next rest

-- the elements that were told are the first ones of each export
items_front : (refuses : Refusals) (first next left : ℕ) (done all : Items) → next ≡ first + count_elements done → count_elements all ≡ count_elements done + left → AreElements IsChosenScalar refuses first done
    → AreElements IsChosenScalar refuses first all → ItemsLeft refuses next left done all
items_front refuses first next left no_items all n c h g =
    let same : first ≡ next = omega (arith, n) in
    record { rest = all; split = refl; long = omega (arith, c); elements = subst (λ k. AreElements IsChosenScalar refuses k all) same g }
items_front refuses first next left (item j done) no_items n c h g = absurd (let no : 0 ≡ suc (count_elements done) + left = c in omega arith)
items_front refuses first next left (item j done) (item k all) n c h g =
    let here : k ≡ j = one_document (refused_below refuses (index first)) (refused_below refuses (index first)) k j (same_answers (refused_below refuses (index first))) g.0 h.0 in
    let at : next ≡ suc first + count_elements done = n ∙ (let e : first + suc (count_elements done) ≡ suc first + count_elements done = omega arith in e) in
    let more : suc (count_elements all) ≡ suc (count_elements done) + left = c in
    let r = items_front refuses (suc first) next left done all at (omega (arith, more)) h.1 g.1 in
    record {
      rest = r.rest;
      split = (λ i. json_tokens (outline (here i)) ++ r.split i) ∙ sym (append_assoc (json_tokens (outline j)) (open_items done) (open_items r.rest));
      long = r.long;
      elements = r.elements;
    }

items_ended : (old : Flow) (known : Option (List ℕ)) (items : Items) → WritesTokensPrefix old known (Token.begin_array ∷ open_items items) → WritesTokensPrefix old known (json_tokens (outline (array items)))
items_ended old known items b =
    subst (λ ts. WritesTokensPrefix old known (Token.begin_array ∷ ts)) (sym (closed_items items)) (breaks_now old known (Token.begin_array ∷ open_items items) (Token.end_array ∷ []) b)

items_broken : (tree : Tree Row) (n : ℕ) (old now : Flow) (known : Option (List ℕ)) → AreItemsSoFar tree n old now → n ≤ least_at (row_of tree)
    → (IsClear (Told tree) → IsSettled (Told tree) → (rest : Items) → count_elements rest ≡ least_at (row_of tree) - n → AreElements IsChosenScalar (Told tree) n rest → WritesTokensPrefix now known (open_items rest))
    → BreaksInElements (Told tree) (least_at (row_of tree)) old known
items_broken tree n old now known so_far l later clear settled all long docs =
    let done = so_far.0 in
    let counted = so_far.2 in
    let chosen : AreElements IsChosenScalar (Told tree) 0 done =
    chosen_elements done (Told tree) 0 settled (λ i m. index_demanded tree (0 + i) (let e : 0 + i ≡ i = omega arith in omega (arith, m, counted.length, l, e))) (counted.elements clear) in
    let left = items_front (Told tree) 0 n (least_at (row_of tree) - n) done all (omega (arith, counted.length)) (omega (arith, counted.length, long, l)) chosen docs in
    items_ended old known all
    (subst (λ ts. WritesTokensPrefix old known (Token.begin_array ∷ ts)) (sym left.split)
    (breaks_later old now known (Token.begin_array ∷ open_items done) (open_items left.rest) so_far.1 (later clear settled left.rest left.long left.elements)))

-- nothing of the next element was told, or of the end
pub items_begun : (tree : Tree Row) (n : ℕ) (old now : Flow) (known : Option (List ℕ)) → AreItemsSoFar tree n old now → n ≤ least_at (row_of tree) → WritesTokensPrefix now known []
    → BreaksInElements (Told tree) (least_at (row_of tree)) old known
items_begun tree n old now known so_far l b = items_broken tree n old now known so_far l (λ clear settled rest long docs. breaks_any now known (open_items rest) b)

-- some of the next element was
pub item_begun : (tree inner : Tree Row) (n : ℕ) (old now : Flow) (known : Option (List ℕ)) → AreItemsSoFar tree n old now → step_into tree (index n) ≡ Some inner → n < least_at (row_of tree)
    → BreaksInDocument (Told inner) now known → BreaksInElements (Told tree) (least_at (row_of tree)) old known
item_begun tree inner n old now known so_far f l b =
    items_broken tree n old now known so_far (omega (arith, l)) (λ clear settled rest long docs. first clear settled rest (omega (arith, long, l)) docs)
  where
    first : IsClear (Told tree) → IsSettled (Told tree) → (rest : Items) → 0 < count_elements rest → AreElements IsChosenScalar (Told tree) n rest → WritesTokensPrefix now known (open_items rest)
    first clear settled no_items low docs = absurd (let no : 0 < 0 = low in omega arith)
    first clear settled (item json rest) low docs =
        breaks_now now known (json_tokens (outline json)) (open_items rest) (inner_broken tree inner (index n) json now known f (index_demanded tree n l) b clear settled docs.0)

-- the list was not opened
pub no_items_begun : (tree : Tree Row) (least : ℕ) (old : Flow) (known : Option (List ℕ)) → WritesTokensPrefix old known [] → BreaksInElements (Told tree) least old known
no_items_begun tree least old known b clear settled all long docs = breaks_any old known (json_tokens (outline (array all))) b

-- ---- an object
-- the members that were told are the first ones of each export
members_front : (refuses : Refusals) (done all : Members) (more : List (List ℕ)) → keys all ≡ keys done ++ more → AreMembers IsChosenScalar refuses done → AreMembers IsChosenScalar refuses all
    → (rest : Members) × (open_members all ≡ open_members done ++ open_members rest)
members_front refuses no_members all more e h g = (all, refl)
members_front refuses (member l j done) no_members more e h g = cc
members_front refuses (member l j done) (member m k all) more e h g =
    let same : m ≡ l = cc in
    let later : keys all ≡ keys done ++ more = cc in
    let there : IsShape IsChosenScalar (refused_below refuses (label l)) k = subst (λ n. IsShape IsChosenScalar (refused_below refuses (label n)) k) same g.0 in
    let here : k ≡ j = one_document (refused_below refuses (label l)) (refused_below refuses (label l)) k j (same_answers (refused_below refuses (label l))) there h.0 in
    let r = members_front refuses done all more later h.1 g.1 in
    (r.0, (λ i. Token.key (same i) ∷ (json_tokens (outline (here i)) ++ r.1 i)) ∙ ap (λ ts. Token.key l ∷ ts) (sym (append_assoc (json_tokens (outline j)) (open_members done) (open_members r.0))))

keys_front : (tree : Tree Row) (rest : Children Row) (done : Members) (all : List (List ℕ)) → IsGathered tree rest done → AreKeys (Told tree) all → (more : List (List ℕ)) × (all ≡ keys done ++ more)
keys_front tree rest done all w h =
    splits key_path (keys done) all w.rising h.rising (λ x o. h.complete x (has_of (λ key. IsStepDemanded (Told tree) [] (label key)) (keys done) x w.sound o))
    (λ x o. ⊎_elim (λ m. inl m) (λ (inner, f). inr (behind x inner f)) (w.complete x (has_of (λ key. IsStepDemanded (Told tree) [] (label key)) all x h.sound o)))
  where
    behind : (x : List ℕ) (inner : Tree Row) → find (label x) rest ≡ Some inner → AllByRecursion (λ y. path_cmp (key_path y) (key_path x) ≡ Less) (keys done)
    behind x inner f = all_from (λ key. IsStepBelowAll (label key) rest) (λ y. path_cmp (key_path y) (key_path x) ≡ Less) (keys done)
        (λ y b. ap (λ o. ordering_then o (path_cmp [] [])) (below_found (label y) (label x) inner rest b f)) w.before

members_ended : (old : Flow) (known : Option (List ℕ)) (members : Members) → WritesTokensPrefix old known (Token.begin_object ∷ open_members members) → WritesTokensPrefix old known (json_tokens (outline (object members)))
members_ended old known members b =
    subst (λ ts. WritesTokensPrefix old known (Token.begin_object ∷ ts)) (sym (closed_members members)) (breaks_now old known (Token.begin_object ∷ open_members members) (Token.end_object ∷ []) b)

-- nothing of the next member was told, or of the end
pub members_begun : (tree : Tree Row) (rest : Children Row) (old now : Flow) (known : Option (List ℕ)) → AreMembersSoFar tree rest old now → WritesTokensPrefix now known [] → BreaksInMembers (Told tree) old known
members_begun tree rest old now known so_far b clear settled all ks docs =
    let done = so_far.0 in
    let more = keys_front tree rest done (keys all) so_far.2 ks in
    let left = members_front (Told tree) done all more.0 more.1 (chosen_members done (Told tree) settled so_far.2.sound (so_far.2.documents clear)) docs in
    members_ended old known all
    (subst (λ ts. WritesTokensPrefix old known (Token.begin_object ∷ ts)) (sym left.1)
    (breaks_later old now known (Token.begin_object ∷ open_members done) (open_members left.0) so_far.1 (breaks_any now known (open_members left.0) b)))

member_at : (refuses : Refusals) (all : Members) (key : List ℕ) → OneOf (λ k. k ≡ key) (keys all) → AreMembers IsChosenScalar refuses all → (json : Data) × IsShape IsChosenScalar (refused_below refuses (label key)) json
member_at refuses no_members key o h = absurd o
member_at refuses (member first json all) key (inl e) h = (json, subst (λ k. IsShape IsChosenScalar (refused_below refuses (label k)) json) e h.0)
member_at refuses (member first json all) key (inr o) h = member_at refuses all key o h.1

-- some of the next member was
pub member_begun : (tree here : Tree Row) (step : paths.Step) (key : List ℕ) (rest rest' : Children Row) (old now keyed : Flow) (known : Option (List ℕ)) → AreMembersSoFar tree rest old now
    → children_of rest ≡ (step, here) ∷ children_of rest' → step ≡ label key → is_demanded (row_of tree) step (row_of here) ≡ true
    → WritesTokens now keyed (Token.key key ∷ []) → BreaksInDocument (Told here) keyed known → BreaksInMembers (Told tree) old known
member_begun tree here step key rest rest' old now keyed known so_far c s asked k b clear settled all ks docs =
    let done = so_far.0 in
    let w = so_far.2 in
    let r : rest ≡ child step here rest' = first_child rest rest' step here c in
    let found : step_into tree (label key) ≡ Some here =
    subst (λ t. step_into tree t ≡ Some here) s (w.among step here (subst (λ cs. find step cs ≡ Some here) (sym r) (found_first step here rest'))) in
    let demanded : IsStepDemanded (Told tree) [] (label key) =
    (first_demanded tree here (label key) (seen tree here (label key) found)).0 (subst (λ t. is_demanded (row_of tree) t (row_of here) ≡ true) s asked) in
    let at = member_at (Told tree) all key (ks.complete key demanded) docs in
    let json = at.0 in
    let after : Members = with_member done key json in
    let behind : put key json done ≡ after = put_behind tree here step key rest rest' done json w c s in
    let gathered : IsGathered tree rest' after =
    taken_label tree here step key key rest rest' done after json w c s asked refl (sym behind)
    (λ z. picked_shape json (Told here) (chosen_there tree here (label key) json found at.1)) (shape_plain json (refused_below (Told tree) (label key)) at.1) in
    let more = keys_front tree rest' after (keys all) gathered ks in
    let left = members_front (Told tree) after all more.0 more.1 (chosen_members after (Told tree) settled gathered.sound (gathered.documents clear)) docs in
    let begun : WritesTokensPrefix old known (Token.begin_object ∷ open_members after) =
    subst (λ ts. WritesTokensPrefix old known (Token.begin_object ∷ ts)) (sym (more_members done key json))
    (breaks_later old now known (Token.begin_object ∷ open_members done) (Token.key key ∷ json_tokens (outline json)) so_far.1
    (breaks_later now keyed known (Token.key key ∷ []) (json_tokens (outline json)) k (inner_broken tree here (label key) json keyed known found demanded b clear settled at.1))) in
    members_ended old known all
    (subst (λ ts. WritesTokensPrefix old known (Token.begin_object ∷ ts)) (sym left.1) (breaks_now old known (Token.begin_object ∷ open_members after) (open_members left.0) begun))

-- the object was not opened
pub no_members_begun : (tree : Tree Row) (old : Flow) (known : Option (List ℕ)) → WritesTokensPrefix old known [] → BreaksInMembers (Told tree) old known
no_members_begun tree old known b clear settled all ks docs = breaks_any old known (json_tokens (outline (object all))) b

-- ---- the whole
pub none_begun : (refuses : Refusals) (old : Flow) (known : Option (List ℕ)) → WritesTokensPrefix old known [] → BreaksInDocument refuses old known
none_begun refuses old known b clear settled json h = breaks_any old known (json_tokens (outline json)) b

-- the end was not told
pub end_begun : (refuses : Refusals) (old now : Flow) (known : Option (List ℕ)) → WritesDocument refuses old now → WritesTokensPrefix now known [] → BreaksInDocument refuses old known
end_begun refuses old now known a b clear settled json h =
    let same : a.0 ≡ json = one_document refuses refuses a.0 json (same_answers refuses) (chosen_shape a.0 refuses settled (a.2.0 clear)) h in
    subst (λ d. WritesTokensPrefix old known (json_tokens (outline d))) same
    (subst (WritesTokensPrefix old known) (append-nil (json_tokens (outline a.0))) (breaks_later old now known (json_tokens (outline a.0)) [] a.1 b))

-- an object is begun where a struct may stand, and a list where a list may and no struct
pub object_begun : (tree : Tree Row) (row : Row) (old : Flow) (known : Option (List ℕ)) → row_of tree ≡ Some row → row.struct_ok ≡ true → (¬ IsFreeRow (AtPlace (Some row)) [])
    → BreaksInMembers (Told tree) old known → BreaksInDocument (Told tree) old known
object_begun tree row old known e s n b clear settled json h = by json h
  where
    atom : (json : Data) → IsAtom IsChosenScalar (Told tree) json → ⊥
    atom json (inl a) = not_free tree row e n a.0
    atom json (inr a) = some_struct tree row e s a.no_struct

    by : (json : Data) → IsShape IsChosenScalar (Told tree) json → WritesTokensPrefix old known (json_tokens (outline json))
    by null h = absurd (atom null h)
    by (boolean t) h = absurd (atom (boolean t) h)
    by (number m) h = absurd (atom (number m) h)
    by (string t) h = absurd (atom (string t) h)
    by (array items) h = absurd (some_struct tree row e s h.0)
    by (object members) h = b clear settled members h.2 h.3

pub array_begun : (tree : Tree Row) (row : Row) (old : Flow) (known : Option (List ℕ)) → row_of tree ≡ Some row → row.struct_ok ≡ false → row.list_ok ≡ true
    → BreaksInElements (Told tree) (least_at (row_of tree)) old known → BreaksInDocument (Told tree) old known
array_begun tree row old known e s l b clear settled json h = by json h
  where
    no_struct : Told tree [] struct
    no_struct = subst (λ r. RefusedAt r struct) (sym e) s

    some_list : Told tree [] list → ⊥
    some_list r = false≢true (sym (subst (λ r. RefusedAt r list) e r) ∙ l)

    atom : (json : Data) → IsAtom IsChosenScalar (Told tree) json → ⊥
    atom json (inl a) = a.0.1 no_struct
    atom json (inr a) = some_list a.no_list

    -- neither is below the other
    long : (items : Items) → IsLeastLength (Told tree) (count_elements items) → count_elements items ≡ least_at (row_of tree)
    long items h = elim (cases_lt (count_elements items) (least_at (row_of tree))) [
      | inl l ↦ absurd (let no : count_elements items < count_elements items = (h (count_elements items)).0 (index_demanded tree (count_elements items) l) in omega arith)
      | inr l ↦ elim (cases_lt (least_at (row_of tree)) (count_elements items)) [
        | inl m ↦ absurd (let no : least_at (row_of tree) < least_at (row_of tree) = least_is (row_of tree) (least_at (row_of tree)) ((h (least_at (row_of tree))).1 m) in omega arith)
        | inr m ↦ omega (arith, l, m)
      ]
    ]

    by : (json : Data) → IsShape IsChosenScalar (Told tree) json → WritesTokensPrefix old known (json_tokens (outline json))
    by null h = absurd (atom null h)
    by (boolean t) h = absurd (atom (boolean t) h)
    by (number m) h = absurd (atom (number m) h)
    by (string t) h = absurd (atom (string t) h)
    by (array items) h = b clear settled items (long items h.2) h.3
    by (object members) h = absurd (h.0 no_struct)

-- ---- a scalar
pub scalar_told : (row : Row) (found : Option Scalar) (scalar : Scalar) (old new : Flow) → found ≡ Some scalar → IfSome found (IsPicked (AtPlace (Some row)) []) → WritesJson old new (data_of scalar)
    → WritesScalar (AtPlace (Some row)) old new
scalar_told row found scalar old new e h a = record { json = data_of scalar; adds = a; picked = told_one row found scalar (data_of scalar) e h refl; no_float = scalar_plain scalar }

pub null_told : (row : Row) (found : Option Scalar) (old new : Flow) → found ≡ None → IfNone found (HasNoScalar (AtPlace (Some row)) []) → WritesJson old new null → WritesScalar (AtPlace (Some row)) old new
null_told row found old new e h a = record { json = null; adds = a; picked = told_none row found null e h; no_float = refl }
