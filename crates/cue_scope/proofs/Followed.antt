-- How large and how deep elements are with what follows them.
use Rattle.std.proofs.Common.{◌≡◌, ◌+◌, arith}
use Rattle.std.specs.Prelude.{max}
use Rattle.cue_scope.specs.Core.{Cores, no_cores, core, Elements, ends, followed_by}
use Rattle.cue_scope.specs.Limits.{size_of_cores, size_of_elements, depth_of_elements}

pub size_followed : (cs : Cores) (rest : Elements) → size_of_elements (followed_by cs rest) ≡ size_of_cores cs + size_of_elements rest
size_followed no_cores rest = omega arith
size_followed (core c cs) rest = let more = size_followed cs rest in omega (arith, more)

pub depth_followed : (cs : Cores) (rest : Elements) → depth_of_elements (followed_by cs rest) ≡ max (depth_of_elements (followed_by cs ends)) (depth_of_elements rest)
depth_followed no_cores rest = omega arith
depth_followed (core c cs) rest = let more = depth_followed cs rest in omega (arith, more)
