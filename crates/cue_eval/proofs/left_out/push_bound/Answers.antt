use Rattle.std.specs.BinaryHeap.{heap_items}
use Rattle.cue_eval.proofs.Bounds.{pushed_few, pushed_kept, pushed_there}
use Rattle.cue_eval.proofs.left_out.push_bound.Goals as goal

pub returns-clause-few : goal.returns-clause-few
returns-clause-few c = pushed_few c.args.index (heap_items c.args.bounds.now) (heap_items c.push.new.self) c.requires.index c.requires.few c.in_ok-push.ensures.permutation

pub returns-clause-kept : goal.returns-clause-kept
returns-clause-kept c = pushed_kept c.args.index (heap_items c.args.bounds.now) (heap_items c.push.new.self) c.in_ok-push.ensures.permutation

pub returns-clause-there : goal.returns-clause-there
returns-clause-there c = pushed_there c.args.index (heap_items c.args.bounds.now) (heap_items c.push.new.self) c.in_ok-push.ensures.permutation
