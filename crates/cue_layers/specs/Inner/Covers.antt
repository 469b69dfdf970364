-- Lists that speak for others.
use Rattle.std.specs.Prelude.{◌≡◌, ◌⊎◌, ◌<◌, ◌≤◌, List}
use Rattle.cue_lattice.specs.Path.{Path}
use Rattle.cue_lattice.specs.Question.{Question}
use Rattle.cue_layers.specs.Puts.{Claims, HasElement}

-- what a list says for a member of another: it has the key, at no lesser revision, and refuses what
-- the member does, or has a greater revision
pub record IsCovered {X Y : Type 0} (of_x : Claims X) (of_y : Claims Y) (x : X) (ys : List Y)
    : Type 0 where
  pub above : (y : Y) × HasElement ys y × (of_y.key y ≡ of_x.key x) × (of_x.revision x ≤ of_y.revision y)
  pub refused : (path : Path) (question : Question) → of_x.refuses x path question
      → (y : Y) × HasElement ys y × (of_y.key y ≡ of_x.key x)
      × ((of_x.revision x < of_y.revision y)
      ⊎ ((of_x.revision x ≡ of_y.revision y) × of_y.refuses y path question))

-- the second list speaks for each member of the first
abbrev pub Covers : {X Y : Type 0} → Claims X → Claims Y → List X → List Y → Type 0
Covers {X} of_x of_y xs ys = (x : X) → HasElement xs x → IsCovered of_x of_y x ys

-- each speaks for the other
abbrev pub SpeakAlike : {X Y : Type 0} → Claims X → Claims Y → List X → List Y → Type 0
SpeakAlike of_x of_y xs ys = Covers of_x of_y xs ys × Covers of_y of_x ys xs
