use Rattle.std.proofs.Common.{◌≡◌, ◌-◌, length, drop, ap, arith, length-drop, min}
use Rattle.std.proofs.lemmas.List.{take_all}
use Rattle.cue_device.proofs.Slices.{copied, given, to_come, ended}
use Rattle.cue_device.proofs.memory.BytesSource.read.Goals as goal

pub returns-clause-gives : goal.returns-clause-gives
returns-clause-gives c =
    let at = c.args.self.now.at in
    let xs = c.args.self.now.all.now in
    let n = c.min-count.result in
    let rest = take_all (length xs - at) (drop at xs) (omega (arith, length-drop at xs)) in
    let bound : n ≡ min (length xs - at) (length c.args.into.now) = omega (arith, c.min-count.ensures, ap length rest, length-drop at xs) in
    given xs c.copy_from_slice.new.self c.args.into.now at n (copied xs c.copy_from_slice.new.self at n c.copy_from_slice.ensures.after) bound

pub returns-clause-takes : goal.returns-clause-takes
returns-clause-takes c =
    let at = c.args.self.now.at in
    let xs = c.args.self.now.all.now in
    let n = c.min-count.result in
    let front = c.copy_from_slice.new.self in
    let into = c.args.into.now in
    let rest = take_all (length xs - at) (drop at xs) (omega (arith, length-drop at xs)) in
    let bound : n ≡ min (length xs - at) (length into) = omega (arith, c.min-count.ensures, ap length rest, length-drop at xs) in
    let is = copied xs front at n c.copy_from_slice.ensures.after in
    (to_come xs front into at n is bound, ended xs front into at n is bound)
