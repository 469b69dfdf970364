use Rattle.std.proofs.Common.{◌≡◌, ◌+◌, ◌≤◌, ◌++◌, ℕ, List, length}
use Rattle.std.specs.List.{flat_map}
use Rattle.cue_table.specs.Spans.{branches_of_spans}
use Rattle.cue_table.specs.Tree.{below, rest_below}
use Rattle.cue_table.specs.Size.{tree_size, children_size}
use Rattle.cue_codec.specs.Entry.{entries_of, entries_below, entries_onward}
use Rattle.cue_codec.specs.RowBytes.{row_bytes_from}
use Rattle.cue_codec.specs.Size.{at_most_64_bits, size_of}
use Rattle.cue_codec.specs.Version.{written_version}
use Rattle.cue_codec.proofs.sizes.+rows_size.Given as goal

abbrev pub decreases-rows_size : goal.decreases-rows_size
decreases-rows_size l = tree_size l.branch.now

-- what was counted and what is left are all
abbrev pub invariant-loop-span : goal.invariant-loop-span
invariant-loop-span l = record {
  counted : (depth : ℕ) (bytes : List ℕ) → l.steps ≡ size_of bytes
      → at_most_64_bits (l.size + length (flat_map (row_bytes_from written_version depth bytes) (entries_below written_version (branches_of_spans l.span-iterator) ++ entries_onward written_version (rest_below l.branch))))
      ≡ size_of (flat_map (row_bytes_from written_version depth bytes) (entries_of written_version l.branch));
  fits : l.size ≡ at_most_64_bits l.size;
  smaller : children_size (branches_of_spans l.span-iterator) ≤ children_size (below l.branch);
}
