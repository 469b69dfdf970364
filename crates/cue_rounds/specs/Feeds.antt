-- What a source is asked for, and where its answer goes.
use Rattle.std.specs.Prelude.{ℕ, Bool, List}
use Rattle.cue_rounds.specs.declared.asked.Feed.{Feed}
use Rattle.cue_rounds.specs.declared.asked.Feed.TheVariants as feed
use Rattle.cue_rounds.specs.declared.question.Subject.{Subject}
use Rattle.cue_rounds.specs.declared.question.Subject.TheVariants as subject
use Rattle.cue_rounds.specs.declared.question.Wanted.{Wanted}
use Rattle.cue_rounds.specs.declared.question.Wanted.TheVariants as wanted

-- what kind of answer a question asks for
abbrev pub subject_of : Wanted → Subject
subject_of (wanted.State tag) = subject.State
subject_of (wanted.Pieces place) = subject.Pieces
subject_of (wanted.Layers tag) = subject.Layers

-- The feed of the layers asks for layers alone, and that of the commons for all else.
abbrev pub AsksFor : Feed → Subject → Type 0
AsksFor feed.Commons subject.State = Unit {0}
AsksFor feed.Commons subject.Pieces = Unit {0}
AsksFor feed.Commons subject.Layers = ⊥
AsksFor feed.Layers subject.State = ⊥
AsksFor feed.Layers subject.Pieces = ⊥
AsksFor feed.Layers subject.Layers = Unit {0}

module _ {S : Type 0} (pulls_state pulls_pieces pulls_layers : S → List ℕ → Bool → S → Type 0) where
  -- the pull to which an answer of this kind goes
  abbrev pub PullsAs : Subject → S → List ℕ → Bool → S → Type 0
  PullsAs subject.State = pulls_state
  PullsAs subject.Pieces = pulls_pieces
  PullsAs subject.Layers = pulls_layers
