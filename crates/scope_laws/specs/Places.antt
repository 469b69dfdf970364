-- What the places in a tree say of it: where its tokens stand, and nothing else.
use Rattle.std.specs.Prelude.{ℕ, ◌≡◌, ◌↔◌}
use Rattle.cue_lattice.specs.declared.refusal.Kind.{Kind}
use Rattle.cue_syntax.specs.Syntax.{Entries}
use Rattle.cue_syntax.specs.Unplaced.{unplaced_entries}
use Rattle.cue_scope.specs.Limits.{size, depth}
use Rattle.cue_scope.specs.Meaning.{meant_text}
use Rattle.cue_scope.specs.Refusing.{IsLegalTree, RefusesAs}

-- declarations mean the same without their places
pub record AreMeantAlike (es : Entries) : Type 0 where
  pub meaning : meant_text (unplaced_entries es) ≡ meant_text es
  pub size : size (meant_text (unplaced_entries es)) ≡ size (meant_text es)
  pub depth : depth (meant_text (unplaced_entries es)) ≡ depth (meant_text es)

abbrev pub KeepsMeaning : Type 0
KeepsMeaning = (es : Entries) → AreMeantAlike es

-- the check of this kind refuses, at some place
abbrev pub AreRefusedAs : Kind → Entries → Type 0
AreRefusedAs kind es = (place : ℕ) × RefusesAs es kind place

-- the checks decide the same without places, and it is the same check that refuses
pub record AreCheckedAlike (es : Entries) : Type 0 where
  pub legal : IsLegalTree es ↔ IsLegalTree (unplaced_entries es)
  pub refused : (kind : Kind) → AreRefusedAs kind es ↔ AreRefusedAs kind (unplaced_entries es)

abbrev pub KeepsChecks : Type 0
KeepsChecks = (es : Entries) → AreCheckedAlike es
