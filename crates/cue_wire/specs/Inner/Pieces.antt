-- What the functions that cut frames off a stream promise one another.
use Rattle.std.specs.Prelude.{◌≡◌, ◌≤◌, ℕ, ◌+◌, List, ◌++◌, length, take, Vec}
use Rattle.std.specs.Global.{Global}
use Rattle.std.specs.Int.{w32, to_be_bytes}
use Rattle.cue_wire.specs.Clients.{all_items}
use Rattle.cue_wire.specs.Frames.{frame_limit, named_length, AreFrames}

-- The bytes begin with a whole frame, and this is the length of its body.
pub record IsWhole (bytes : List ℕ) (len : ℕ) : Type 0 where
  pub head : 4 ≤ length bytes
  pub named : len ≡ named_length bytes
  pub spelled : to_be_bytes w32 len ≡ take 4 bytes
  pub short : len ≤ frame_limit
  pub there : 4 + len ≤ length bytes

-- The stream is whole frames up to this rest, and their bodies were added.
pub record Gains (stream rest : List ℕ) (old new : List (Vec ℕ Global)) : Type 0 where
  pub more : List (Vec ℕ Global)
  pub frames : AreFrames stream (all_items more) rest
  pub added : new ≡ old ++ more

-- bytes were added behind those that were there, or none
abbrev pub AppendsBytes : List ℕ → List ℕ → Type 0
AppendsBytes old new = (more : List ℕ) × (new ≡ old ++ more)
