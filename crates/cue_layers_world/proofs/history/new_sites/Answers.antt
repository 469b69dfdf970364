use Rattle.std.proofs.Common.{◌≡◌, ◌+◌, ◌++◌, ℕ, suc, List, [], ◌∷◌, subst, sym, arith}
use Rattle.std.specs.Prelude.{replicate}
use Rattle.cue_lattice.specs.World.{AllAlong}
use Rattle.cue_layers_world.specs.Inner.Steps.{Map}
use Rattle.cue_layers_world.specs.Sites.{IsSiteOf}
use Rattle.cue_layers_world.proofs.Runs.{open_more}
use Rattle.cue_layers_world.proofs.history.new_sites.Goals as goal

pub loop-preserved : goal.loop-preserved
loop-preserved c =
    let site = c.in_ok-new.field-0 in
    let more = open_more c.loop.counter c.loop.sites.items site c.loop.invariant c.in_ok-new.ensures in
    let count : suc c.loop.counter ≡ c.loop.counter + 1 = omega arith in
    let P : ℕ → Type 0 = λ n. AllAlong IsSiteOf (c.loop.sites.items ++ site ∷ []) (replicate n []) in
    let Q : List Map → Type 0 = λ l. AllAlong IsSiteOf l (replicate (c.loop.counter + 1) []) in
    subst Q (sym {A = List Map} c.in_ok-push.ensures.items) (subst P count more)
