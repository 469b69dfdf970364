-- What a walk over the branches of a table still has to write, one row after another.
use Rattle.std.proofs.Common.{◌≡◌, ℕ, ◌+◌, ◌-◌, ◌<◌, ◌≤◌, Result, Ok, Err, List, [], ◌∷◌, ◌++◌, append_assoc, length, map, take, drop, Some, None, refl, sym, ap, subst, ◌∙◌, arith}
use Rattle.std.specs.Prelude.{OnOk}
use Rattle.std.specs.List.{flat_map, AllByRecursion}
use Rattle.std.proofs.lemmas.List.{append-nil, length-append, length-take, length-drop, take-append-le, drop-append-le, take-append-drop, take_all}
use Rattle.std.proofs.lemmas.List.Concat.{flat_map-append}
use Rattle.std.proofs.lemmas.List.Sums.{sum_by-append, sum_by-cons}
use Rattle.cue_lattice.specs.Limits.{step_limit}
use Rattle.cue_row.specs.declared.parts.RowParts.{RowParts as Row}
use Rattle.cue_table.specs.Tree.{Tree, node, Children, none, child, Rest, no_rest, onward, row_of, below, rest_below, rest_at}
use Rattle.cue_table.specs.Depth.{tree_depth, children_depth, rest_depth}
use Rattle.cue_table.specs.Inner.ValidWalk.{IsSound, AreSound, IsRestSound}
use Rattle.cue_codec.specs.declared.row_walk.WalkPlace.{WalkPlace}
use Rattle.cue_codec.specs.Entry.{StateStep, at, to_rest, Entry, one_step_below, entries_of, entries_below, entries_onward}
use Rattle.cue_codec.specs.Parts.{step_bytes}
use Rattle.cue_codec.specs.RowBytes.{row_bytes_from}
use Rattle.cue_codec.specs.Version.{written_version}
use Rattle.cue_codec.specs.Inner.Ways.{branches_with, branches_in, branches_of, tree_bytes, branches_bytes, IsBranch}
use Rattle.cue_codec.specs.Inner.Walks.{stack_bytes, ArePlaces, steps_size}
use Rattle.cue_codec.proofs.Entries.{others_of, own_entry}
use Rattle.cue_codec.proofs.WrittenRows.{rows_behind, bytes_begin, word_step, child_word}

-- ---- the branches below a place

onward_bytes : (depth : ℕ) (steps : List ℕ) (rest : Rest Row) → flat_map (row_bytes_from written_version depth steps) (entries_onward written_version rest) ≡ branches_bytes depth steps (branches_with none (rest_at rest))
onward_bytes depth steps no_rest = refl
onward_bytes depth steps (onward n tree) = rows_behind depth steps to_rest (entries_of written_version tree) ∙ sym (append-nil (tree_bytes (depth + 1) (steps ++ step_bytes written_version to_rest) tree))

below_bytes :
    (depth : ℕ) (steps : List ℕ) (children : Children Row) (rest : Rest Row)
    → flat_map (row_bytes_from written_version depth steps) (entries_below written_version children ++ entries_onward written_version rest) ≡ branches_bytes depth steps (branches_with children (rest_at rest))
below_bytes depth steps none rest = onward_bytes depth steps rest
below_bytes depth steps (child step tree children) rest =
    let f : Entry → List ℕ = row_bytes_from written_version depth steps in
    let here : List Entry = map (one_step_below (at step)) (entries_of written_version tree) in
    let more : List Entry = entries_below written_version children ++ entries_onward written_version rest in
    ap (flat_map f) (append_assoc here (entries_below written_version children) (entries_onward written_version rest))
    ∙ flat_map-append f here more
    ∙ ap (λ t. t ++ flat_map f more) (rows_behind depth steps (at step) (entries_of written_version tree))
    ∙ ap (λ t. tree_bytes (depth + 1) (steps ++ step_bytes written_version (at step)) tree ++ t) (below_bytes depth steps children rest)

-- the rows below a place are those of the branches there
others_bytes : (depth : ℕ) (steps : List ℕ) (tree : Tree Row) → flat_map (row_bytes_from written_version depth steps) (others_of written_version tree) ≡ branches_bytes depth steps (branches_of tree)
others_bytes depth steps tree = below_bytes depth steps (below tree) (rest_below tree)

-- the row at a branch was written, and those of the branches below it are left
pub place_written :
    (depth : ℕ) (steps : List ℕ) (tree : Tree Row) (row : Row) (old new : List ℕ) → row_of tree ≡ Some row → new ≡ old ++ row_bytes_from written_version depth steps (own_entry written_version tree row)
    → new ++ branches_bytes depth steps (branches_of tree) ≡ old ++ tree_bytes depth steps tree
place_written depth steps tree row old new e h = ap (λ t. new ++ t) (sym (others_bytes depth steps tree)) ∙ bytes_begin depth steps tree row old new e h

-- a row is not empty
pub place_longer : (depth : ℕ) (steps : List ℕ) (row : Entry) (old new : List ℕ) → new ≡ old ++ row_bytes_from written_version depth steps row → length old < length new
unfolding row_bytes_from
place_longer depth steps row old new e = omega (arith, ap length e, length-append old (row_bytes_from written_version depth steps row))

-- what follows of a success
pub on_ok : {T E : Type 0} (r : Result T E) {P Q : Type 0} → (P → Q) → OnOk r P → OnOk r Q
on_ok (Ok x) f p = f p
on_ok (Err e) f p = tt

rest_can : (parent : Row) (depth : ℕ) (rest : Rest Row) → IsRestSound parent rest → depth + rest_depth rest ≤ step_limit → AllByRecursion (IsBranch (depth + 1)) (branches_with none (rest_at rest))
rest_can parent depth no_rest h d = tt
rest_can parent depth (onward n tree) h d = (record { step = tt; sound = h.1; deep = omega (arith, d) }, tt)

children_can :
    (parent : Row) (depth : ℕ) (children : Children Row) (rest : Rest Row) → AreSound parent children → IsRestSound parent rest → depth + children_depth children ≤ step_limit → depth + rest_depth rest ≤ step_limit
    → AllByRecursion (IsBranch (depth + 1)) (branches_with children (rest_at rest))
children_can parent depth none rest h k d f = rest_can parent depth rest k f
children_can parent depth (child step tree children) rest h k d f = (record { step = word_step step (child_word parent step (row_of tree) h.0); sound = h.1; deep = omega (arith, d) }, children_can parent depth children rest h.2 k (omega (arith, d)) f)

-- the branches below one that can be written can be written
pub branches_can : (depth : ℕ) (tree : Tree Row) → IsSound tree → depth + tree_depth tree ≤ step_limit → AllByRecursion (IsBranch (depth + 1)) (branches_of tree)
branches_can depth (node None children rest) h d = absurd h
branches_can depth (node (Some row) children rest) h d = children_can row depth children rest h.2 h.3 (omega (arith, d)) (omega (arith, d))

-- ---- the stack

-- the last place writes first, and has all of the steps
pub stack_push :
    (depth : ℕ) (above steps piece : List ℕ) (places : List WalkPlace) (place : WalkPlace) → steps_size places ≡ length steps → place.size ≡ length piece
    → stack_bytes depth above (steps ++ piece) (places ++ place ∷ []) ≡ branches_bytes (depth + length places) (above ++ (steps ++ piece)) (branches_in place.below) ++ stack_bytes depth above steps places
stack_push depth above [] piece [] place e h =
    let all : take place.size piece ≡ piece = take_all place.size piece (omega (arith, h)) in
    let n : depth ≡ depth + 0 = omega arith in
    (λ i. branches_bytes (n i) (above ++ all i) (branches_in place.below)) ∙ sym (append-nil (branches_bytes (depth + 0) (above ++ piece) (branches_in place.below)))
stack_push depth above (x ∷ steps) piece [] place e h = absurd (omega (arith, e))
stack_push depth above steps piece (first ∷ places) place e h =
    let k : ℕ = first.size in
    let sizes : steps_size (first ∷ places) ≡ k + steps_size places = sum_by-cons (λ p. p.size) first places in
    let fits : k ≤ length steps = omega (arith, e, sizes) in
    let front : take k (steps ++ piece) ≡ take k steps = take-append-le k steps piece fits in
    let back : drop k (steps ++ piece) ≡ drop k steps ++ piece = drop-append-le k steps piece fits in
    let left : steps_size places ≡ length (drop k steps) = omega (arith, e, sizes, length-drop k steps) in
    let all : (above ++ take k steps) ++ (drop k steps ++ piece) ≡ above ++ (steps ++ piece) =
    append_assoc above (take k steps) (drop k steps ++ piece) ∙ ap (λ t. above ++ t) (sym (append_assoc (take k steps) (drop k steps) piece) ∙ ap (λ t. t ++ piece) (take-append-drop k steps)) in
    let n : depth + 1 + length places ≡ depth + length (first ∷ places) = omega arith in
    let others = stack_push (depth + 1) (above ++ take k steps) (drop k steps) piece places place left h in
    (λ i. stack_bytes (depth + 1) (above ++ front i) (back i) (places ++ place ∷ []) ++ branches_bytes depth (above ++ front i) (branches_in first.below))
    ∙ ap (λ t. t ++ branches_bytes depth (above ++ take k steps) (branches_in first.below)) (others ∙ (λ i. branches_bytes (n i) (all i) (branches_in place.below) ++ stack_bytes (depth + 1) (above ++ take k steps) (drop k steps) places))
    ∙ append_assoc (branches_bytes (depth + length (first ∷ places)) (above ++ (steps ++ piece)) (branches_in place.below)) (stack_bytes (depth + 1) (above ++ take k steps) (drop k steps) places) (branches_bytes depth (above ++ take k steps) (branches_in first.below))

pub sizes_push : (places : List WalkPlace) (place : WalkPlace) → steps_size (places ++ place ∷ []) ≡ steps_size places + place.size
sizes_push places place = omega (arith, sum_by-append (λ p. p.size) places (place ∷ []))

-- what the last place writes, and what is left without it
pub stack_pop :
    (steps : List ℕ) (places : List WalkPlace) (place : WalkPlace) → steps_size (places ++ place ∷ []) ≡ length steps
    → stack_bytes 0 [] steps (places ++ place ∷ []) ≡ branches_bytes (length places) steps (branches_in place.below) ++ stack_bytes 0 [] (take (length steps - place.size) steps) places
stack_pop steps places place e =
    let cut : ℕ = length steps - place.size in
    let sizes = sizes_push places place in
    let whole = take-append-drop cut steps in
    let n : 0 + length places ≡ length places = omega arith in
    let front : steps_size places ≡ length (take cut steps) = omega (arith, e, sizes, length-take cut steps) in
    let back : place.size ≡ length (drop cut steps) = omega (arith, e, sizes, length-drop cut steps) in
    ap (λ t. stack_bytes 0 [] t (places ++ place ∷ [])) (sym whole)
    ∙ stack_push 0 [] (take cut steps) (drop cut steps) places place front back
    ∙ (λ i. branches_bytes (n i) (whole i) (branches_in place.below) ++ stack_bytes 0 [] (take cut steps) places)

-- the first branch below the last place comes next
pub stack_next :
    (steps : List ℕ) (places : List WalkPlace) (place left : WalkPlace) (branch : StateStep × Tree Row) → steps_size (places ++ place ∷ []) ≡ length steps → left.size ≡ place.size → (branches_in place.below) ≡ branch ∷ (branches_in left.below)
    → stack_bytes 0 [] steps (places ++ place ∷ []) ≡ tree_bytes (length (places ++ left ∷ [])) (steps ++ step_bytes written_version branch.0) branch.1 ++ stack_bytes 0 [] steps (places ++ left ∷ [])
stack_next steps places place left branch e same first =
    let sizes : steps_size (places ++ left ∷ []) ≡ length steps = omega (arith, e, same, sizes_push places place, sizes_push places left) in
    let others : List ℕ = stack_bytes 0 [] (take (length steps - place.size) steps) places in
    let n : length places + 1 ≡ length (places ++ left ∷ []) = omega (arith, length-append places (left ∷ [])) in
    stack_pop steps places place e
    ∙ ap (λ bs. branches_bytes (length places) steps bs ++ others) first
    ∙ append_assoc (tree_bytes (length places + 1) (steps ++ step_bytes written_version branch.0) branch.1) (branches_bytes (length places) steps (branches_in left.below)) others
    ∙ (λ i. tree_bytes (n i) (steps ++ step_bytes written_version branch.0) branch.1 ++ (branches_bytes (length places) steps (branches_in left.below) ++ others))
    ∙ ap (λ k. tree_bytes (length (places ++ left ∷ [])) (steps ++ step_bytes written_version branch.0) branch.1 ++ (branches_bytes (length places) steps (branches_in left.below) ++ stack_bytes 0 [] (take (length steps - k) steps) places)) (sym same)
    ∙ ap (λ t. tree_bytes (length (places ++ left ∷ [])) (steps ++ step_bytes written_version branch.0) branch.1 ++ t) (sym (stack_pop steps places left sizes))

-- ---- which places can be written

pub places_push : (depth : ℕ) (places : List WalkPlace) (place : WalkPlace) → ArePlaces depth places → AllByRecursion (IsBranch (depth + length places + 1)) (branches_in place.below) → ArePlaces depth (places ++ place ∷ [])
places_push depth [] place h k = let n : depth + 0 + 1 ≡ depth + 1 = omega arith in (subst (λ t. AllByRecursion (IsBranch t) (branches_in place.below)) n k, tt)
places_push depth (first ∷ places) place h k =
    let n : depth + length (first ∷ places) + 1 ≡ depth + 1 + length places + 1 = omega arith in (h.0, places_push (depth + 1) places place h.1 (subst (λ t. AllByRecursion (IsBranch t) (branches_in place.below)) n k))

pub places_pop : (depth : ℕ) (places : List WalkPlace) (place : WalkPlace) → ArePlaces depth (places ++ place ∷ []) → ArePlaces depth places × AllByRecursion (IsBranch (depth + length places + 1)) (branches_in place.below)
places_pop depth [] place h = let n : depth + 1 ≡ depth + 0 + 1 = omega arith in (tt, subst (λ t. AllByRecursion (IsBranch t) (branches_in place.below)) n h.0)
places_pop depth (first ∷ places) place h =
    let n : depth + 1 + length places + 1 ≡ depth + length (first ∷ places) + 1 = omega arith in
    let others = places_pop (depth + 1) places place h.1 in
    ((h.0, others.0), subst (λ t. AllByRecursion (IsBranch t) (branches_in place.below)) n others.1)
