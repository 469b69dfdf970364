-- The walk of a search over the branches of a place.
use Rattle.std.proofs.Common.{◌≡◌, inl, inr, ℕ, zero, suc, min, ◌+◌, ◌-◌, ◌<◌, ◌≤◌, Bool, true, false, List, [], ◌∷◌, ◌++◌, length, take, map, Option, Some, None, refl, sym, ap, subst, ◌∙◌, arith, append_assoc, length-append}
use Rattle.std.specs.List.{flat_map}
use Rattle.std.proofs.lemmas.List.{append-nil, map-append, map_push, take_all, take-append-le}
use Rattle.std.proofs.lemmas.Bool.{cases_lt}
use Rattle.std.proofs.lemmas.List.Concat.{flat_map-append}
use Rattle.cue_lattice.specs.Path as paths
use Rattle.cue_lattice.specs.Path.{label, index, Path}
use Rattle.cue_row.specs.declared.parts.RowParts.{RowParts as Row}
use Rattle.cue_table.specs.StepsOfCode.{step_at}
use Rattle.cue_table.specs.declared.step_ref.StepRef.{StepRef}
use Rattle.cue_table.specs.Spans.{Span, branches_of_span, branches_of_spans}
use Rattle.cue_table.specs.Tree.{Tree, node, Children, none, child, Rest, no_rest, onward, row_of, below, rest_below, rest_at, fixed_of, children_of}
use Rattle.cue_table.specs.Size.{tree_size, children_size}
use Rattle.cue_table.specs.Inner.Walks.{first_child}
use Rattle.cue_table.proofs.Spanned.{left_size}
use Rattle.cue_report.specs.declared.conflict.Conflict.{Conflict}
use Rattle.cue_report.specs.Inner.Search.{conflict_under, conflicts_under, only_if, has_no_value, conflict_here, has_level, is_demanded, is_refused, conflicts_in, conflicts_below, conflicts_onward, each_index, least_at, rest_from}
use Rattle.cue_report.specs.Telling.{Tally}
use Rattle.cue_report.specs.Inner.Telling.{WritesPieces, WritesPiecesPrefix}
use Rattle.cue_report.proofs.Runs.{span_first}
use Rattle.cue_report.proofs.Telling.{grows_then, starts_now, starts_later}

-- what is seen from a place is seen from the place above
pub under_further : (path : Path) (step : paths.Step) (xs : List Conflict) → map (conflict_under (path ++ step ∷ [])) xs ≡ map (conflict_under path) (map (conflict_under (step ∷ [])) xs)
under_further path step [] = refl
under_further path step (x ∷ xs) =
    let e : (path ++ step ∷ []) ++ x.path ≡ path ++ step ∷ x.path = append_assoc path (step ∷ []) x.path in
    let first : conflict_under (path ++ step ∷ []) x ≡ conflict_under path (conflict_under (step ∷ []) x) = ap (λ (p : Path). record x { path = p }) e in
    ap (λ y. y ∷ map (conflict_under (path ++ step ∷ [])) xs) first ∙ ap (λ ys. conflict_under path (conflict_under (step ∷ []) x) ∷ ys) (under_further path step xs)

-- what is told of some and of others
told_append : {X : Type 0} (piece : Conflict → List X) (path : Path) (xs ys : List Conflict) → conflicts_under piece path (xs ++ ys) ≡ conflicts_under piece path xs ++ conflicts_under piece path ys
told_append piece path xs ys = ap (flat_map piece) (map-append (conflict_under path) xs ys) ∙ flat_map-append piece (map (conflict_under path) xs) (map (conflict_under path) ys)

-- what is told of some, and then of others
pub found_more : {X : Type 0} (piece : Conflict → List X) (path : Path) (u v w : Tally X) (xs ys : List Conflict) → WritesPieces u v (conflicts_under piece path xs) → WritesPieces v w (conflicts_under piece path ys)
    → WritesPieces u w (conflicts_under piece path (xs ++ ys))
found_more piece path u v w xs ys g h = subst (WritesPieces u w) (sym (told_append piece path xs ys)) (grows_then u v w (conflicts_under piece path xs) (conflicts_under piece path ys) g h)

-- or of some in front of the others
pub found_later : {X : Type 0} (piece : Conflict → List X) (path : Path) (u v w : Tally X) (xs ys : List Conflict) → WritesPieces u v (conflicts_under piece path xs) → WritesPiecesPrefix v w (conflicts_under piece path ys)
    → WritesPiecesPrefix u w (conflicts_under piece path (xs ++ ys))
found_later piece path u v w xs ys g h = subst (WritesPiecesPrefix u w) (sym (told_append piece path xs ys)) (starts_later u v w (conflicts_under piece path xs) (conflicts_under piece path ys) g h)

pub found_now : {X : Type 0} (piece : Conflict → List X) (path : Path) (u v : Tally X) (xs ys : List Conflict) → WritesPiecesPrefix u v (conflicts_under piece path xs) → WritesPiecesPrefix u v (conflicts_under piece path (xs ++ ys))
found_now piece path u v xs ys h = subst (WritesPiecesPrefix u v) (sym (told_append piece path xs ys)) (starts_now u v (conflicts_under piece path xs) (conflicts_under piece path ys) h)

-- Of the branches of a place, some are left to be looked at.
pub record IsWalking {X : Type 0} (piece : Conflict → List X) (row : Option Row) (all rest : Children Row) (before after : Tally X) (steps now : List StepRef) : Type 0 where
  pub same : now ≡ steps
  pub done : List Conflict
  pub split : conflicts_below row all ≡ done ++ conflicts_below row rest
  pub told : WritesPieces before after (conflicts_under piece (map step_at steps) done)
  pub small : children_size rest ≤ children_size all

-- the last step is taken back
pub popped : {A : Type 0} (xs old new : List A) (x : A) (n : ℕ) → old ≡ xs ++ x ∷ [] → n ≡ length old → new ≡ take (n - 1) old → new ≡ xs
popped xs old new x n e l h =
    let long : length old ≡ length xs + 1 = ap length e ∙ length-append xs (x ∷ []) in
    let k : n - 1 ≡ length xs = omega arith in
    h ∙ ap (λ m. take m old) k ∙ ap (take (length xs)) e ∙ take-append-le (length xs) xs (x ∷ []) (omega arith) ∙ take_all (length xs) xs (omega arith)

-- the path one step further
pub pushed_on : (held steps pushed : List StepRef) (x : StepRef) → pushed ≡ held ++ x ∷ [] → held ≡ steps → map step_at pushed ≡ map step_at steps ++ step_at x ∷ []
pushed_on held steps pushed x p h = ap (map step_at) p ∙ map_push step_at held x ∙ ap (λ zs. map step_at zs ++ step_at x ∷ []) h

-- the next branches that are kept as one, and those behind them
next_span : (row : Option Row) (rest left : List (Span × Tree Row)) (span : Span) (tree : Tree Row) → rest ≡ (span, tree) ∷ left
    → conflicts_below row (branches_of_spans rest) ≡ conflicts_below row (branches_of_span span tree none) ++ conflicts_below row (branches_of_spans left)
next_span row rest left span tree e = ap (λ spans. conflicts_below row (branches_of_spans spans)) e ∙ span_first row span tree (branches_of_spans left)

-- they were looked at
pub walked_span :
    {X : Type 0} (piece : Conflict → List X) (row : Option Row) (all : Children Row) (rest left : List (Span × Tree Row)) (span : Span) (tree : Tree Row) (before after after' : Tally X) (steps now now' : List StepRef)
    → IsWalking piece row all (branches_of_spans rest) before after steps now → rest ≡ (span, tree) ∷ left
    → WritesPieces after after' (conflicts_under piece (map step_at now) (conflicts_below row (branches_of_span span tree none))) → now' ≡ now
    → IsWalking piece row all (branches_of_spans left) before after' steps now'
walked_span piece row all rest left span tree before after after' steps now now' w e a n =
    let these : List Conflict = conflicts_below row (branches_of_span span tree none) in
    record {
      same = n ∙ w.same;
      done = w.done ++ these;
      split = w.split ∙ ap (λ xs. w.done ++ xs) (next_span row rest left span tree e) ∙ sym (append_assoc w.done these (conflicts_below row (branches_of_spans left)));
      told = found_more piece (map step_at steps) before after after' w.done these w.told (subst (λ held. WritesPieces after after' (conflicts_under piece (map step_at held) these)) w.same a);
      small = let size = left_size span tree rest left e in omega (arith, w.small, size);
    }

-- what a field tells is told of the branch
pub field_is :
    {X : Type 0} (piece : Conflict → List X) (row : Option Row) (step : paths.Step) (tree : Tree Row) (steps pushed : List StepRef) (x : StepRef)
    → is_demanded row step (row_of tree) ≡ true → step_at x ≡ step → pushed ≡ steps ++ x ∷ []
    → conflicts_under piece (map step_at pushed) (conflicts_in (is_refused row step) tree) ≡ conflicts_under piece (map step_at steps) (conflicts_below row (child step tree none))
field_is piece row step tree steps pushed x d s p =
    let path : Path = map step_at steps in
    let inner : List Conflict = conflicts_in (is_refused row step) tree in
    let lifted : List Conflict = map (conflict_under (step ∷ [])) inner in
    ap (λ q. conflicts_under piece q inner) (pushed_on steps steps pushed x p refl ∙ ap (λ z. path ++ z ∷ []) s)
    ∙ ap (flat_map piece) (under_further path step inner) ∙ ap (conflicts_under piece path) (sym (append-nil lifted))
    ∙ ap (λ b. conflicts_under piece path (only_if b lifted ++ [])) (sym d)

-- nothing is told of a field that is not demanded
pub unasked_is : (row : Option Row) (step : paths.Step) (tree : Tree Row) → is_demanded row step (row_of tree) ≡ false → conflicts_below row (child step tree none) ≡ []
unasked_is row step tree d = ap (λ b. only_if b (map (conflict_under (step ∷ [])) (conflicts_in (is_refused row step) tree)) ++ []) d

-- each branch that is looked at is smaller than the place
pub span_smaller :
    (tree : Tree Row) (rest left : List (Span × Tree Row)) (span : Span) (inner : Tree Row) → children_size (branches_of_spans rest) ≤ children_size (below tree)
    → rest ≡ (span, inner) ∷ left → tree_size inner < tree_size tree
span_smaller (node row children others) rest left span inner s e = let size = left_size span inner rest left e in omega (arith, s, size)

-- and so is each branch
pub inner_smaller :
    (tree : Tree Row) (rest rest' : Children Row) (step : paths.Step) (inner : Tree Row) → children_size rest ≤ children_size (below tree)
    → children_of rest ≡ (step, inner) ∷ children_of rest' → tree_size inner < tree_size tree
inner_smaller (node row children others) rest rest' step inner s c =
    let size : children_size rest ≡ tree_size inner + children_size rest' = ap children_size (first_child rest rest' step inner c) in
    omega arith

pub none_left : (rest : Children Row) → children_of rest ≡ [] → rest ≡ none
none_left none e = refl
none_left (child step tree rest) e = cc

-- all branches were looked at, and the rest
module _
    {X : Type 0} (piece : Conflict → List X) (row : Option Row) (children : Children Row) (others : Rest Row) (not_allowed : Bool) (rest : List (Span × Tree Row)) (start before middle after : Tally X)
    (steps now : List StepRef) (w : IsWalking piece row children (branches_of_spans rest) before middle steps now)
    (here : WritesPieces start before (conflicts_under piece (map step_at steps) (conflict_here (has_no_value row) not_allowed))) where
  -- from here on, with others in front of them
  abbrev from_here : List Conflict → List Conflict
  from_here xs = conflict_here (has_no_value row) not_allowed ++ (xs ++ conflicts_onward row others)

  behind : (xs : List Conflict) → conflicts_below row children ≡ xs → WritesPiecesPrefix before after (conflicts_under piece (map step_at steps) (xs ++ conflicts_onward row others))
      → WritesPiecesPrefix start after (conflicts_under piece (map step_at steps) (conflicts_in not_allowed (node row children others)))
  behind xs e h =
      subst (λ ys. WritesPiecesPrefix start after (conflicts_under piece (map step_at steps) (from_here ys))) (sym e)
      (found_later piece (map step_at steps) start before after (conflict_here (has_no_value row) not_allowed) (xs ++ conflicts_onward row others) here h)

  all_done : rest ≡ [] → conflicts_below row children ≡ w.done
  all_done e = w.split ∙ ap (λ spans. w.done ++ conflicts_below row (branches_of_spans spans)) e ∙ append-nil w.done

  all_walked : rest ≡ [] → WritesPieces middle after (conflicts_under piece (map step_at now) (conflicts_onward row others))
      → WritesPieces start after (conflicts_under piece (map step_at steps) (conflicts_in not_allowed (node row children others)))
  all_walked e a =
      subst (λ ys. WritesPieces start after (conflicts_under piece (map step_at steps) (from_here ys))) (sym (all_done e))
      (found_more piece (map step_at steps) start before after (conflict_here (has_no_value row) not_allowed) (w.done ++ conflicts_onward row others) here
      (found_more piece (map step_at steps) before middle after w.done (conflicts_onward row others) w.told
      (subst (λ held. WritesPieces middle after (conflicts_under piece (map step_at held) (conflicts_onward row others))) w.same a)))

  rest_begun : rest ≡ [] → WritesPiecesPrefix middle after (conflicts_under piece (map step_at now) (conflicts_onward row others))
      → WritesPiecesPrefix start after (conflicts_under piece (map step_at steps) (conflicts_in not_allowed (node row children others)))
  rest_begun e a =
      behind w.done (all_done e)
      (found_later piece (map step_at steps) before middle after w.done (conflicts_onward row others) w.told
      (subst (λ held. WritesPiecesPrefix middle after (conflicts_under piece (map step_at held) (conflicts_onward row others))) w.same a))

  span_begun : (left : List (Span × Tree Row)) (span : Span) (inner : Tree Row) → rest ≡ (span, inner) ∷ left
      → WritesPiecesPrefix middle after (conflicts_under piece (map step_at now) (conflicts_below row (branches_of_span span inner none)))
      → WritesPiecesPrefix start after (conflicts_under piece (map step_at steps) (conflicts_in not_allowed (node row children others)))
  span_begun left span inner e a =
      let path : Path = map step_at steps in
      let these : List Conflict = conflicts_below row (branches_of_span span inner none) in
      let later : List Conflict = conflicts_below row (branches_of_spans left) in
      behind (w.done ++ (these ++ later)) (w.split ∙ ap (λ xs. w.done ++ xs) (next_span row rest left span inner e))
      (found_now piece path before after (w.done ++ (these ++ later)) (conflicts_onward row others)
      (found_later piece path before middle after w.done (these ++ later) w.told
      (found_now piece path middle after these later (subst (λ held. WritesPiecesPrefix middle after (conflicts_under piece (map step_at held) these)) w.same a))))

pub walked :
    {X : Type 0} (piece : Conflict → List X) (tree : Tree Row) (rest : List (Span × Tree Row)) (not_allowed : Bool) (start before middle after : Tally X) (steps now : List StepRef)
    → IsWalking piece (row_of tree) (below tree) (branches_of_spans rest) before middle steps now → rest ≡ []
    → WritesPieces start before (conflicts_under piece (map step_at steps) (conflict_here (has_no_value (row_of tree)) not_allowed))
    → WritesPieces middle after (conflicts_under piece (map step_at now) (conflicts_onward (row_of tree) (rest_below tree)))
    → WritesPieces start after (conflicts_under piece (map step_at steps) (conflicts_in not_allowed tree))
walked piece (node row children others) rest not_allowed start before middle after steps now w e b a =
    all_walked piece row children others not_allowed rest start before middle after steps now w b e a

-- the place itself was begun, or one of its branches, or its rest
pub begun_here :
    {X : Type 0} (piece : Conflict → List X) (tree : Tree Row) (not_allowed : Bool) (start after : Tally X) (path : Path)
    → WritesPiecesPrefix start after (conflicts_under piece path (conflict_here (has_no_value (row_of tree)) not_allowed)) → WritesPiecesPrefix start after (conflicts_under piece path (conflicts_in not_allowed tree))
begun_here piece (node row children others) not_allowed start after path h =
    found_now piece path start after (conflict_here (has_no_value row) not_allowed) (conflicts_below row children ++ conflicts_onward row others) h

pub begun_span :
    {X : Type 0} (piece : Conflict → List X) (tree : Tree Row) (rest left : List (Span × Tree Row)) (span : Span) (inner : Tree Row) (not_allowed : Bool) (start before middle after : Tally X)
    (steps now : List StepRef) → IsWalking piece (row_of tree) (below tree) (branches_of_spans rest) before middle steps now → rest ≡ (span, inner) ∷ left
    → WritesPieces start before (conflicts_under piece (map step_at steps) (conflict_here (has_no_value (row_of tree)) not_allowed))
    → WritesPiecesPrefix middle after (conflicts_under piece (map step_at now) (conflicts_below (row_of tree) (branches_of_span span inner none)))
    → WritesPiecesPrefix start after (conflicts_under piece (map step_at steps) (conflicts_in not_allowed tree))
begun_span piece (node row children others) rest left span inner not_allowed start before middle after steps now w e b a =
    span_begun piece row children others not_allowed rest start before middle after steps now w b left span inner e a

pub begun_rest :
    {X : Type 0} (piece : Conflict → List X) (tree : Tree Row) (rest : List (Span × Tree Row)) (not_allowed : Bool) (start before middle after : Tally X) (steps now : List StepRef)
    → IsWalking piece (row_of tree) (below tree) (branches_of_spans rest) before middle steps now → rest ≡ []
    → WritesPieces start before (conflicts_under piece (map step_at steps) (conflict_here (has_no_value (row_of tree)) not_allowed))
    → WritesPiecesPrefix middle after (conflicts_under piece (map step_at now) (conflicts_onward (row_of tree) (rest_below tree)))
    → WritesPiecesPrefix start after (conflicts_under piece (map step_at steps) (conflicts_in not_allowed tree))
begun_rest piece (node row children others) rest not_allowed start before middle after steps now w e b a =
    rest_begun piece row children others not_allowed rest start before middle after steps now w b e a

-- ---- the rest
-- one more element
each_next : (first number : ℕ) (found : List Conflict) → first ≤ number → each_index first (number + 1 - first) found ≡ each_index first (number - first) found ++ map (conflict_under (index number ∷ [])) found
each_next first number found l =
    let count : number + 1 - first ≡ suc (number - first) = omega arith in
    let last : first + (number - first) ≡ number = omega arith in
    ap (λ k. each_index first k found) count ∙ ap (λ k. each_index first (number - first) found ++ map (conflict_under (index k ∷ [])) found) last

-- and those behind some
each_split : (first n m : ℕ) (found : List Conflict) → (more : List Conflict) × (each_index first (n + m) found ≡ each_index first n found ++ more)
each_split first n zero found =
    let none : n + 0 ≡ n = omega arith in
    ([], ap (λ k. each_index first k found) none ∙ sym (append-nil (each_index first n found)))
each_split first n (suc m) found =
    let before = each_split first n m found in
    let last : List Conflict = map (conflict_under (index (first + (n + m)) ∷ [])) found in
    let count : n + suc m ≡ suc (n + m) = omega arith in (
      before.0 ++ last,
      ap (λ k. each_index first k found) count ∙ ap (λ xs. xs ++ last) before.1 ∙ append_assoc (each_index first n found) before.0 last,
    )

pub each_begun :
    {X : Type 0} (piece : Conflict → List X) (first some all : ℕ) (found : List Conflict) (start after : Tally X) (path : Path) → some ≤ all
    → WritesPiecesPrefix start after (conflicts_under piece path (each_index first some found)) → WritesPiecesPrefix start after (conflicts_under piece path (each_index first all found))
each_begun piece first some all found start after path l h =
    let split = each_split first some (all - some) found in
    let count : some + (all - some) ≡ all = omega arith in
    subst (λ xs. WritesPiecesPrefix start after (conflicts_under piece path xs)) (sym split.1 ∙ ap (λ k. each_index first k found) count)
    (found_now piece path start after (each_index first some found) split.0 h)

-- what is told at an element is told of it
element_is : {X : Type 0} (piece : Conflict → List X) (path pushed : Path) (number : ℕ) (found : List Conflict) → pushed ≡ path ++ index number ∷ []
    → conflicts_under piece pushed found ≡ conflicts_under piece path (map (conflict_under (index number ∷ [])) found)
element_is piece path pushed number found p = ap (λ q. conflicts_under piece q found) p ∙ ap (flat_map piece) (under_further path (index number) found)

-- one more element was looked at, or was begun
pub walked_element :
    {X : Type 0} (piece : Conflict → List X) (first number : ℕ) (found : List Conflict) (start now after : Tally X) (path pushed : Path) → first ≤ number
    → WritesPieces start now (conflicts_under piece path (each_index first (number - first) found)) → pushed ≡ path ++ index number ∷ [] → WritesPieces now after (conflicts_under piece pushed found)
    → WritesPieces start after (conflicts_under piece path (each_index first (number + 1 - first) found))
walked_element piece first number found start now after path pushed l n p a =
    subst (λ xs. WritesPieces start after (conflicts_under piece path xs)) (sym (each_next first number found l))
    (found_more piece path start now after (each_index first (number - first) found) (map (conflict_under (index number ∷ [])) found) n (subst (WritesPieces now after) (element_is piece path pushed number found p) a))

pub begun_element :
    {X : Type 0} (piece : Conflict → List X) (first number end : ℕ) (found : List Conflict) (start now after : Tally X) (path pushed : Path) → first ≤ number → number < end
    → WritesPieces start now (conflicts_under piece path (each_index first (number - first) found)) → pushed ≡ path ++ index number ∷ [] → WritesPiecesPrefix now after (conflicts_under piece pushed found)
    → WritesPiecesPrefix start after (conflicts_under piece path (each_index first (end - first) found))
begun_element piece first number end found start now after path pushed l m n p a =
    each_begun piece first (number + 1 - first) (end - first) found start after path (omega arith)
    (subst (λ xs. WritesPiecesPrefix start after (conflicts_under piece path xs)) (sym (each_next first number found l))
    (found_later piece path start now after (each_index first (number - first) found) (map (conflict_under (index number ∷ [])) found) n (subst (WritesPiecesPrefix now after) (element_is piece path pushed number found p) a)))

-- where the elements begin that are looked at
pub from_least : (n least : ℕ) (found : List Conflict) → each_index (min n least) (least - min n least) found ≡ each_index n (least - n) found
from_least n least found = elim (cases_lt least n) [
  | inl h ↦
      let a : min n least ≡ least = omega (arith, h) in
      let b : least - least ≡ 0 = omega arith in
      let c : least - n ≡ 0 = omega (arith, h) in
      ap (λ k. each_index k (least - k) found) a ∙ ap (λ k. each_index least k found) b ∙ sym (ap (λ k. each_index n k found) c)
  | inr h ↦ let a : min n least ≡ n = omega (arith, h) in ap (λ k. each_index k (least - k) found) a
]

-- the rest is smaller than the place
pub rest_smaller : (tree rest : Tree Row) → Some rest ≡ rest_at (rest_below tree) → tree_size rest < tree_size tree
rest_smaller (node row children no_rest) rest e = cc
rest_smaller (node row children (onward n inner)) rest e =
    let same : rest ≡ inner = cc in
    let size : tree_size rest ≡ tree_size inner = ap tree_size same in
    omega arith

pub is_onward : (tree rest : Tree Row) → Some rest ≡ rest_at (rest_below tree) → rest_below tree ≡ onward (fixed_of tree) rest
is_onward (node row children no_rest) rest e = cc
is_onward (node row children (onward n inner)) rest e = let same : inner ≡ rest = cc in ap (onward n) same

pub is_ended : (tree : Tree Row) → rest_at (rest_below tree) ≡ None → rest_below tree ≡ no_rest
is_ended (node row children no_rest) e = refl
is_ended (node row children (onward n inner)) e = cc

-- the elements that are the rest
pub all_elements :
    (tree rest : Tree Row) (first least : ℕ) → Some rest ≡ rest_at (rest_below tree) → least ≡ least_at (row_of tree) → first ≡ rest_from (rest_below tree) least
    → each_index first (least - first) (conflicts_in false rest) ≡ conflicts_onward (row_of tree) (rest_below tree)
all_elements (node row children no_rest) rest first least r m f = cc
all_elements (node row children (onward n inner)) rest first least r m f =
    let same : rest ≡ inner = cc in
    ap (λ t. each_index first (least - first) (conflicts_in false t)) same
    ∙ ap (λ k. each_index k (least - k) (conflicts_in false inner)) f ∙ from_least n least (conflicts_in false inner)
    ∙ ap (λ k. each_index n (k - n) (conflicts_in false inner)) m

-- what the code asks of a step, by the rows that it has
pub demand_is : (above above' row row' : Option Row) (step : paths.Step) (found wanted : Bool) → found ≡ is_demanded above step row → above ≡ above' → row ≡ row' → found ≡ wanted → is_demanded above' step row' ≡ wanted
demand_is above above' row row' step found wanted f a r w = sym (ap (λ q. is_demanded q step row') a) ∙ sym (ap (λ q. is_demanded above step q) r) ∙ sym f ∙ w

-- so of a label, which asks nothing of the row above
pub label_demand_is : (above row row' : Option Row) (step : paths.Step) (name : List ℕ) (found wanted : Bool) → step ≡ label name → found ≡ has_level row → row ≡ row' → found ≡ wanted → is_demanded above step row' ≡ wanted
label_demand_is above row row' step name found wanted s f r w = ap (λ q. is_demanded above q row') s ∙ sym (ap has_level r) ∙ sym f ∙ w
