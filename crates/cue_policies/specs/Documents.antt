-- Which documents a layer or a policy admits. It goes by cases on the document.
use Rattle.std.specs.Prelude.{ℕ, suc, List, [], ◌∷◌}
use Rattle.cue_lattice.specs.Document.{Document, scalar, list, map, Items, no_items, item, Members}
use Rattle.cue_lattice.specs.Document.{no_members, member, length_of, HasMember}
use Rattle.cue_lattice.specs.Meets.{at_label, at_index}
use Rattle.cue_lattice.specs.Path.{label, Path}
use Rattle.cue_lattice.specs.Question as questions
use Rattle.cue_lattice.specs.Question.{Question, Refusals, may_be, struct, allows, level_at_most}
use Rattle.cue_lattice.specs.Question.{length_at_most, length_at_least}
use Rattle.cue_policies.specs.Patterns.{IsPatternOf, Concerns}
use Rattle.cue_policies.specs.declared.kind.LayerKind.{LayerKind}

abbrev mutual
  -- A scalar may stand. A list may stand, and neither is it too long nor too short. A struct may
  -- stand, and no field is left out that is required or there; a pattern is no such field.
  pub Admits : LayerKind → Refusals → Document → Type 0
  Admits kind refused (scalar x) = ¬ refused [] (may_be x)
  Admits kind refused (list items) =
      (¬ refused [] questions.list)
      × (¬ refused [] (length_at_most (length_of items)))
      × (¬ refused [] (length_at_least (length_of items)))
      × ItemsAdmitted kind (at_index refused) items
  Admits kind refused (map members) =
      (¬ refused [] struct)
      × ((l : List ℕ) → ¬ IsPatternOf kind l → refused (label l ∷ []) (level_at_most 0)
      → HasMember l members)
      × MembersAdmitted kind refused members

  -- what is at each index is admitted there
  pub ItemsAdmitted : LayerKind → (ℕ → Refusals) → Items → Type 0
  ItemsAdmitted kind refused no_items = Unit {0}
  ItemsAdmitted kind refused (item document items) =
      Admits kind (refused 0) document × ItemsAdmitted kind (λ i. refused (suc i)) items

  -- each label is allowed, and what it holds is admitted by all that is written for it: at the
  -- label itself, and at each pattern that fits it
  pub MembersAdmitted : LayerKind → Refusals → Members → Type 0
  MembersAdmitted kind refused no_members = Unit {0}
  MembersAdmitted kind refused (member l document members) =
      (¬ refused [] (allows l))
      × ((own : List ℕ) → Concerns kind own l → Admits kind (at_label refused own) document)
      × MembersAdmitted kind refused members

abbrev mutual
  -- at each label of the document something is refused
  pub IsDeclaredIn : Refusals → Document → Type 0
  IsDeclaredIn refused (scalar x) = Unit {0}
  IsDeclaredIn refused (list items) = AreItemsDeclared (at_index refused) items
  IsDeclaredIn refused (map members) = AreMembersDeclared refused members

  pub AreItemsDeclared : (ℕ → Refusals) → Items → Type 0
  AreItemsDeclared refused no_items = Unit {0}
  AreItemsDeclared refused (item document items) =
      IsDeclaredIn (refused 0) document × AreItemsDeclared (λ i. refused (suc i)) items

  pub AreMembersDeclared : Refusals → Members → Type 0
  AreMembersDeclared refused no_members = Unit {0}
  AreMembersDeclared refused (member l document members) =
      ((below : Path) × (question : Question) × refused (label l ∷ below) question)
      × IsDeclaredIn (at_label refused l) document × AreMembersDeclared refused members
