-- Two files that were read, in either order.
use Rattle.std.proofs.Common.{ℕ, List, inl, inr}
use Rattle.cue_journal.specs.Starts.{AreOfFiles, IsStarted}
use Rattle.cue_journal.specs.declared.pair.JournalPair.{JournalPair}

turned : (spare growing : List (List ℕ)) (first second : List ℕ) → AreOfFiles spare growing first second → AreOfFiles spare growing second first
turned spare growing first second (inl are) = inr are
turned spare growing first second (inr are) = inl are

pub started_so : {D : Type 0} (seen : D → List ℕ) (may_leave : D → List ℕ → Type 0) (first second : D) (files : JournalPair D) (spare growing : List (List ℕ))
    → IsStarted seen may_leave first second files spare growing → IsStarted seen may_leave second first files spare growing
started_so seen may_leave first second files spare growing started = record {
  ready = started.ready;
  entries = started.entries;
  all = turned spare growing (seen first) (seen second) started.all;
  longer = started.longer;
}
