-- A branch that is lent, to be written to.
use Rattle.std.specs.Prelude.{Option}
use Rattle.std.specs.Borrow.{LendsIf, RattleType, MutBor, Fml}
use Rattle.cue_lattice.specs.declared.narrow.Narrow.{Ghosts}
use Rattle.cue_table.specs.Inner.Child.{Child}
use Rattle.cue_table.specs.declared.child.HeldNode.{HeldNode}
use Rattle.cue_table.specs.contracts.child.Child.{the_row}
use Rattle.cue_table.specs.contracts.child.HeldNode as held

module _ (R Q : RattleType) (narrow : Ghosts R.Denot Q.Denot) where
  abbrev with_held : HeldNode R.Denot Q.Denot → Child R.Denot
  with_held w = record { step = w.step; node = w.node }

  -- once the borrow ends, the branch has what was written last, and where it is not lent it stays
  -- as it is
  abbrev pub lends_held : MutBor (Child R.Denot) → Option (MutBor (HeldNode R.Denot Q.Denot)) → Fml
  lends_held child r = LendsIf (the_row R Q narrow) (held.the_row R Q narrow) child r with_held child.now
