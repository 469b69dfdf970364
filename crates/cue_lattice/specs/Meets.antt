-- Which documents meet what is refused: those in which nothing that stands anywhere is refused
-- there. It goes by cases on the document; what is refused below a place is what is refused at the
-- longer paths.
use Rattle.std.specs.Prelude.{ℕ, suc, List, [], ◌∷◌}
use Rattle.cue_lattice.specs.Path.{label, index}
use Rattle.cue_lattice.specs.Question as questions
use Rattle.cue_lattice.specs.Question.{Refusals, may_be, struct, allows, level_at_most}
use Rattle.cue_lattice.specs.Question.{length_at_most, length_at_least}
use Rattle.cue_lattice.specs.Document.{Document, scalar, list, map, Items, no_items, item, Members}
use Rattle.cue_lattice.specs.Document.{no_members, member, length_of, HasMember}

-- what is refused below a label, and below an index
abbrev pub at_label : Refusals → List ℕ → Refusals
at_label refused l path = refused (label l ∷ path)

abbrev pub at_index : Refusals → ℕ → Refusals
at_index refused i path = refused (index i ∷ path)

abbrev mutual
  -- A scalar may stand. A list may stand, and neither is it too long nor too short. A struct may
  -- stand, and no field is left out that is required or there.
  pub Meets : Refusals → Document → Type 0
  Meets refused (scalar x) = ¬ refused [] (may_be x)
  Meets refused (list items) =
      (¬ refused [] questions.list)
      × (¬ refused [] (length_at_most (length_of items)))
      × (¬ refused [] (length_at_least (length_of items)))
      × ItemsMeet (at_index refused) items
  Meets refused (map members) =
      (¬ refused [] struct)
      × ((l : List ℕ) → refused (label l ∷ []) (level_at_most 0) → HasMember l members)
      × MembersMeet refused members

  -- what stands at each index meets what is refused there
  pub ItemsMeet : (ℕ → Refusals) → Items → Type 0
  ItemsMeet refused no_items = Unit {0}
  ItemsMeet refused (item document items) =
      Meets (refused 0) document × ItemsMeet (λ i. refused (suc i)) items

  -- each label is allowed, and what stands there meets what is refused there
  pub MembersMeet : Refusals → Members → Type 0
  MembersMeet refused no_members = Unit {0}
  MembersMeet refused (member l document members) =
      (¬ refused [] (allows l)) × Meets (at_label refused l) document × MembersMeet refused members
