use Rattle.std.proofs.Common.{◌≡◌, not, ◌∷◌, [], ◌++◌, sym, ap, ◌∙◌, length}
use Rattle.std.specs.Int.{w64, to_be_bytes}
use Rattle.std.specs.List.{flat_map}
use Rattle.std.proofs.lemmas.Bool.{false≢true}
use Rattle.cue_codec.specs.Entry.{entries_of}
use Rattle.cue_codec.specs.RowBytes.{row_bytes_from}
use Rattle.cue_codec.specs.State.{state_mark}
use Rattle.cue_codec.specs.Version.{written_version}
use Rattle.cue_codec.proofs.WrittenStates.{state_begun, sound_root, empty_root}
use Rattle.cue_codec.proofs.encoding.begin.Goals as goal

pub returns-then-is_none-clause-bytes : goal.returns-then-is_none-clause-bytes
returns-then-is_none-clause-bytes c =
    let tree = c.args.table.now in
    let count = c.in_ok-count.count in
    let head = state_mark ++ (2 ∷ to_be_bytes w64 count) in
    let counted : count ≡ length (entries_of written_version tree) = c.in_ok-count.ensures.count ∙ ap (λ t. length (entries_of written_version t)) c.root-root.ensures.branch in
    let none = empty_root (λ row. row.now) c.row.result tree c.root-root.result c.root-root.ensures.branch c.row.ensures.row (λ some. false≢true (sym (c.is_none.ensures ∙ ap not c.if-is_none.true) ∙ some)) c.requires in
    (λ i. c.in_ok-put_head.ensures i ++ c.new.ensures.bytes i)
    ∙ ap (λ t. (t ++ head) ++ []) c.new-out.ensures.items
    ∙ ap (λ rows. head ++ flat_map (row_bytes_from written_version 0 []) rows) (sym none)
    ∙ state_begun tree count counted

pub begin-requires-clause-sound : goal.begin-requires-clause-sound
begin-requires-clause-sound c = sound_root (λ row. row.now) c.row.result c.args.table.now c.root-root.result c.root-root.ensures.branch c.row.ensures.row (c.is_none.ensures ∙ ap not c.if-is_none.false) c.requires

pub returns-clause-bytes : goal.returns-clause-bytes
returns-clause-bytes c =
    let tree = c.args.table.now in
    let count = c.in_ok-count.count in
    let head = state_mark ++ (2 ∷ to_be_bytes w64 count) in
    let counted : count ≡ length (entries_of written_version tree) = c.in_ok-count.ensures.count ∙ ap (λ t. length (entries_of written_version t)) c.root-root.ensures.branch in
    c.in_ok-walk.ensures.bytes
    ∙ (λ i. c.in_ok-put_head.ensures i ++ flat_map (row_bytes_from written_version 0 []) (entries_of written_version (c.root-root.ensures.branch i)))
    ∙ ap (λ t. (t ++ head) ++ flat_map (row_bytes_from written_version 0 []) (entries_of written_version tree)) c.new-out.ensures.items
    ∙ state_begun tree count counted
