-- The steps of a walk over the branches of a table.
use Rattle.std.proofs.Common.{◌≡◌, Bool, true, ℕ, ◌+◌, ◌-◌, ◌<◌, ◌≤◌, List, [], ◌∷◌, ◌++◌, append_assoc, length, take, Option, Some, None, refl, sym, ap, subst, ◌∙◌, arith}
use Rattle.std.specs.List.{AllByRecursion}
use Rattle.std.proofs.lemmas.List.{append-nil, length-append, length-take}
use Rattle.cue_lattice.specs.Limits.{step_limit}
use Rattle.cue_row.specs.declared.parts.RowParts.{RowParts as Row}
use Rattle.cue_table.specs.Tree.{Tree}
use Rattle.cue_table.specs.Depth.{tree_depth}
use Rattle.cue_table.specs.Inner.ValidWalk.{IsSound}
use Rattle.cue_codec.specs.declared.row_walk.WalkPlace.{WalkPlace}
use Rattle.cue_codec.specs.declared.row_walk.RowWalk.{RowWalk}
use Rattle.cue_codec.specs.declared.row_walk.Way.{Way}
use Rattle.cue_codec.specs.Entry.{StateStep}
use Rattle.cue_codec.specs.Parts.{step_bytes}
use Rattle.cue_codec.specs.Version.{written_version}
use Rattle.cue_codec.specs.Inner.Ways.{step_of_way, branches_in, branches_of, tree_bytes, branches_bytes, IsBranch}
use Rattle.cue_codec.specs.Inner.Walks.{stack_bytes, next_bytes, walk_bytes, ArePlaces, IsNext, steps_size, IsWalk}
use Rattle.cue_codec.proofs.WalkBytes.{branches_can, stack_push, stack_pop, stack_next, sizes_push, places_push, places_pop}

-- what a walk has to write, by its parts
abbrev left_bytes : List ℕ → List WalkPlace → Option (Way × Tree Row) → List ℕ
left_bytes steps places next = next_bytes (length places) steps next ++ stack_bytes 0 [] steps places

by_parts : (walk : RowWalk) (steps : List ℕ) (places : List WalkPlace) (next : Option (Way × Tree Row)) → walk.steps.items ≡ steps → walk.stack.items ≡ places → walk.next ≡ next → walk_bytes walk ≡ left_bytes steps places next
by_parts walk steps places next s p n = λ i. left_bytes (s i) (p i) (n i)

is_by_parts :
    (walk : RowWalk) (steps : List ℕ) (places : List WalkPlace) (next : Option (Way × Tree Row)) → walk.steps.items ≡ steps → walk.stack.items ≡ places → walk.next ≡ next
    → steps_size places ≡ length steps → ArePlaces 0 places → IsNext (length places) next → IsWalk walk
is_by_parts walk steps places next s p n sizes can first = record {
  sizes = ap steps_size p ∙ sizes ∙ sym (ap length s);
  places = subst (ArePlaces 0) (sym p) can;
  next = subst (IsNext (length walk.stack.items)) (sym n) (subst (λ ps. IsNext (length ps) next) (sym p) first);
}

-- what a walk has to write depends on these parts alone
pub same_bytes : (old walk : RowWalk) → walk.steps.items ≡ old.steps.items → walk.stack.items ≡ old.stack.items → walk.next ≡ old.next → walk_bytes walk ≡ walk_bytes old
same_bytes old walk s p n = by_parts walk old.steps.items old.stack.items old.next s p n

-- a walk with nothing to write
pub walk_empty : (walk : RowWalk) → walk.steps.items ≡ [] → walk.stack.items ≡ [] → walk.next ≡ None → IsWalk walk × (walk_bytes walk ≡ [])
walk_empty walk s p n = (is_by_parts walk [] [] None s p n refl tt tt, by_parts walk [] [] None s p n)

-- a walk at the root
pub walk_first :
    (walk : RowWalk) (place : WalkPlace) (tree : Tree Row) → walk.steps.items ≡ [] → walk.stack.items ≡ place ∷ [] → walk.next ≡ None → place.size ≡ 0 → (branches_in place.below) ≡ branches_of tree → IsSound tree → tree_depth tree ≤ step_limit
    → IsWalk walk × (walk_bytes walk ≡ branches_bytes 0 [] (branches_of tree))
walk_first walk place tree s p n size is sound deep =
    let can : AllByRecursion (IsBranch 1) (branches_in place.below) = subst (AllByRecursion (IsBranch 1)) (sym is) (branches_can 0 tree sound (omega (arith, deep))) in
    let all = stack_push 0 [] [] [] [] place refl size in
    (is_by_parts walk [] (place ∷ []) None s p n (omega (arith, size)) (can, tt) tt, by_parts walk [] (place ∷ []) None s p n ∙ all ∙ append-nil (branches_bytes 0 [] (branches_in place.below)) ∙ ap (branches_bytes 0 []) is)

-- what a branch that comes first writes
abbrev pub first_bytes : RowWalk → StateStep × Tree Row → List ℕ
first_bytes walk branch = tree_bytes (length walk.stack.items) (walk.steps.items ++ step_bytes written_version branch.0) branch.1

-- a branch comes first of all
pub walk_waits :
    (walk with_next : RowWalk) (next : Way × Tree Row) → with_next.steps.items ≡ walk.steps.items → with_next.stack.items ≡ walk.stack.items → with_next.next ≡ Some next → walk.next ≡ None
    → IsWalk walk → IsBranch (length walk.stack.items) (step_of_way next.0, next.1)
    → IsWalk with_next × (walk_bytes with_next ≡ first_bytes walk (step_of_way next.0, next.1) ++ walk_bytes walk)
walk_waits walk with_next next s p n none h can = (
  is_by_parts with_next walk.steps.items walk.stack.items (Some next) s p n h.sizes h.places can,
  by_parts with_next walk.steps.items walk.stack.items (Some next) s p n ∙ ap (λ t. first_bytes walk (step_of_way next.0, next.1) ++ t) (sym (by_parts walk walk.steps.items walk.stack.items None refl refl none)),
)

-- it was taken
pub walk_took :
    (walk with_next : RowWalk) (next : Way × Tree Row) → walk.steps.items ≡ with_next.steps.items → walk.stack.items ≡ with_next.stack.items → with_next.next ≡ Some next → walk.next ≡ None → IsWalk with_next
    → IsWalk walk × ((walk_bytes with_next ≡ first_bytes walk (step_of_way next.0, next.1) ++ walk_bytes walk) × IsBranch (length walk.stack.items) (step_of_way next.0, next.1))
walk_took walk with_next next s p n none h =
    let can : IsBranch (length with_next.stack.items) (step_of_way next.0, next.1) = subst (IsNext (length with_next.stack.items)) n h.next in
    let is = is_by_parts walk with_next.steps.items with_next.stack.items None s p none h.sizes h.places tt in
    let here : IsBranch (length walk.stack.items) (step_of_way next.0, next.1) = subst (λ ps. IsBranch (length ps) (step_of_way next.0, next.1)) (sym p) can in
    (is, ((walk_waits walk with_next next (sym s) (sym p) n none is here).1, here))

-- the first branch below the last place was taken
pub walk_next :
    (old walk : RowWalk) (places : List WalkPlace) (place left : WalkPlace) (branch : StateStep × Tree Row) → IsWalk old → old.next ≡ None → old.stack.items ≡ places ++ place ∷ []
    → walk.steps.items ≡ old.steps.items → walk.stack.items ≡ places ++ left ∷ [] → walk.next ≡ None → left.size ≡ place.size → (branches_in place.below) ≡ branch ∷ (branches_in left.below)
    → IsWalk walk × ((walk_bytes old ≡ first_bytes walk branch ++ walk_bytes walk) × IsBranch (length walk.stack.items) branch)
walk_next old walk places place left branch h none all s p n same first =
    let sizes : steps_size (places ++ place ∷ []) ≡ length old.steps.items = sym (ap steps_size all) ∙ h.sizes in
    let can = places_pop 0 places place (subst (ArePlaces 0) all h.places) in
    let each = subst (AllByRecursion (IsBranch (0 + length places + 1))) first can.1 in
    let count : 0 + length places + 1 ≡ length walk.stack.items = omega (arith, ap length p, length-append places (left ∷ [])) in
    let back : first_bytes walk branch ++ walk_bytes walk ≡ tree_bytes (length (places ++ left ∷ [])) (old.steps.items ++ step_bytes written_version branch.0) branch.1 ++ left_bytes old.steps.items (places ++ left ∷ []) None =
    λ i. tree_bytes (length (p i)) (s i ++ step_bytes written_version branch.0) branch.1 ++ left_bytes (s i) (p i) (n i) in (
      is_by_parts walk old.steps.items (places ++ left ∷ []) None s p n (omega (arith, sizes, sizes_push places place, sizes_push places left, same)) (places_push 0 places left can.0 each.1) tt,
      (
        by_parts old old.steps.items (places ++ place ∷ []) None refl all none
            ∙ stack_next old.steps.items places place left branch sizes same first
            ∙ sym back,
        subst (λ k. IsBranch k branch) count each.0,
      ),
    )

-- the last place had nothing left
pub walk_up :
    (old walk : RowWalk) (places : List WalkPlace) (place : WalkPlace) → IsWalk old → old.next ≡ None → old.stack.items ≡ places ++ place ∷ []
    → walk.steps.items ≡ take (length old.steps.items - place.size) old.steps.items → walk.stack.items ≡ places → walk.next ≡ None → (branches_in place.below) ≡ []
    → IsWalk walk × (walk_bytes walk ≡ walk_bytes old)
walk_up old walk places place h none all s p n done =
    let cut : List ℕ = take (length old.steps.items - place.size) old.steps.items in
    let sizes : steps_size (places ++ place ∷ []) ≡ length old.steps.items = sym (ap steps_size all) ∙ h.sizes in
    let can = places_pop 0 places place (subst (ArePlaces 0) all h.places) in (
      is_by_parts walk cut places None s p n (omega (arith, sizes, sizes_push places place, length-take (length old.steps.items - place.size) old.steps.items)) can.0 tt,
      by_parts walk cut places None s p n
          ∙ sym (by_parts old old.steps.items (places ++ place ∷ []) None refl all none ∙ stack_pop old.steps.items places place sizes ∙ ap (λ bs. branches_bytes (length places) old.steps.items bs ++ stack_bytes 0 [] cut places) done),
    )

-- the row at a branch was written, and the place comes last on the stack
pub walk_down :
    (old walk : RowWalk) (place : WalkPlace) (branch : StateStep × Tree Row) (before after : List ℕ) → IsWalk old → old.next ≡ None → IsBranch (length old.stack.items) branch
    → walk.steps.items ≡ old.steps.items ++ step_bytes written_version branch.0 → walk.stack.items ≡ old.stack.items ++ place ∷ [] → walk.next ≡ None
    → place.size ≡ length walk.steps.items - length old.steps.items → (branches_in place.below) ≡ branches_of branch.1
    → after ++ branches_bytes (length old.stack.items) walk.steps.items (branches_of branch.1) ≡ before ++ tree_bytes (length old.stack.items) walk.steps.items branch.1
    → IsWalk walk × (after ++ walk_bytes walk ≡ before ++ (first_bytes old branch ++ walk_bytes old))
walk_down old walk place branch before after h none can s p n size is put =
    let piece : List ℕ = step_bytes written_version branch.0 in
    let steps : List ℕ = old.steps.items ++ piece in
    let places : List WalkPlace = old.stack.items in
    let own : place.size ≡ length piece = omega (arith, size, ap length s, length-append old.steps.items piece) in
    let sizes : steps_size (places ++ place ∷ []) ≡ length steps = omega (arith, own, h.sizes, sizes_push places place, length-append old.steps.items piece) in
    let count : 0 + length places ≡ length places = omega arith in
    let more : length places + 1 ≡ 0 + length places + 1 = omega arith in
    let each : AllByRecursion (IsBranch (0 + length places + 1)) (branches_in place.below) =
    subst (λ k. AllByRecursion (IsBranch k) (branches_in place.below)) more (subst (AllByRecursion (IsBranch (length places + 1))) (sym is) (branches_can (length places) branch.1 can.sound can.deep)) in
    let others : List ℕ = stack_bytes 0 [] old.steps.items places in
    let put_there : after ++ branches_bytes (length places) steps (branches_of branch.1) ≡ before ++ tree_bytes (length places) steps branch.1 = subst (λ t. after ++ branches_bytes (length places) t (branches_of branch.1) ≡ before ++ tree_bytes (length places) t branch.1) s put in (
      is_by_parts walk steps (places ++ place ∷ []) None s p n sizes (places_push 0 places place h.places each) tt,
      ap (λ t. after ++ t) (by_parts walk steps (places ++ place ∷ []) None s p n ∙ stack_push 0 [] old.steps.items piece places place h.sizes own ∙ (λ i. branches_bytes (count i) steps (is i) ++ others))
          ∙ sym (append_assoc after (branches_bytes (length places) steps (branches_of branch.1)) others)
          ∙ ap (λ t. t ++ others) put_there
          ∙ append_assoc before (tree_bytes (length places) steps branch.1) others
          ∙ ap (λ t. before ++ (tree_bytes (length places) steps branch.1 ++ t)) (sym (by_parts old old.steps.items places None refl refl none)),
    )

-- where more was written, less is left
pub less_left : (more : Bool) (before after old new : List ℕ) → after ++ new ≡ before ++ old → (more ≡ true → length before < length after) → more ≡ true → length new < length old
less_left more before after old new same longer more_came = let grown = longer more_came in omega (arith, grown, ap length same, length-append after new, length-append before old)
