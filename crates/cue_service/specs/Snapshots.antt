-- When a snapshot of the state takes the place of the journal that grows.
use Rattle.std.specs.Prelude.{◌≢◌, ◌≤◌, ◌+◌, ◌*◌, ℕ, IfSome}
use Rattle.cue_service.specs.declared.snapshots.Snapshots.{Snapshots}

-- The journal has 1 MiB behind the last snapshot, and as much as that has. Where one was refused since, it
-- is twice as long as it was then, and the table has changed.
abbrev pub IsDue : Snapshots → ℕ → ℕ → Type 0
IsDue snapshots grown changes =
    (snapshots.size + 1048576 ≤ grown) × (2 * snapshots.size ≤ grown)
    × IfSome snapshots.refused (λ refused. (2 * refused.grown ≤ grown) × (changes ≢ refused.changes))
