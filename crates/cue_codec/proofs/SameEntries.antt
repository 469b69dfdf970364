-- Rows are told by their places and their indexes.
use Rattle.std.proofs.Common.{◌≡◌, List, [], ◌∷◌, ◌++◌, map, Some, None, refl, sym, ap, ◌∙◌}
use Rattle.std.proofs.lemmas.List.{map-append}
use Rattle.cue_row.specs.declared.parts.RowParts.{RowParts as Row}
use Rattle.cue_table.specs.Slots as slots
use Rattle.cue_table.specs.Slots.{rows_of, rows_below, rows_onward}
use Rattle.cue_table.specs.Tree.{Tree, node, Children, none, child, Rest, no_rest, onward}
use Rattle.cue_codec.specs.declared.version.Version.{Version}
use Rattle.cue_codec.specs.Entry.{StateStep, at, StatePath, Entry, one_step_below, entries_of, entries_below, entries_onward, step_kind, path_of_place, entry_of_row, without_index}

pub same_entries : (xs ys : List Entry) → map without_index xs ≡ map without_index ys → map (λ e. e.fixed) xs ≡ map (λ e. e.fixed) ys → xs ≡ ys
same_entries [] [] e f = refl
same_entries [] (y ∷ ys) e f = cc
same_entries (x ∷ xs) [] e f = cc
same_entries (x ∷ xs) (y ∷ ys) e f =
    let first : without_index x ≡ without_index y = cc in
    let others : map without_index xs ≡ map without_index ys = cc in
    let fixed : x.fixed ≡ y.fixed = cc in
    let indexes : map (λ e. e.fixed) xs ≡ map (λ e. e.fixed) ys = cc in
    λ i. record { path = (first i).0; fixed = fixed i; row = (first i).1 } ∷ same_entries xs ys others indexes i

-- a path and a row one step further
abbrev one_on : StateStep → StatePath × Row → StatePath × Row
one_on step row = (step ∷ row.0, row.1)

entries_on : (step : StateStep) (entries : List Entry) → map without_index (map (one_step_below step) entries) ≡ map (one_on step) (map without_index entries)
entries_on step [] = refl
entries_on step (entry ∷ entries) = ap (λ (t : List (StatePath × Row)). (step ∷ entry.path, entry.row) ∷ t) (entries_on step entries)

rows_on : (slot : slots.Slot) (rows : List (slots.Place × Row)) → map entry_of_row (map (slots.row_behind slot) rows) ≡ map (one_on (step_kind slot)) (map entry_of_row rows)
rows_on slot [] = refl
rows_on slot (row ∷ rows) = ap (λ (t : List (StatePath × Row)). (step_kind slot ∷ path_of_place row.0, row.1) ∷ t) (rows_on slot rows)

behind_told : (slot : slots.Slot) (entries : List Entry) (rows : List (slots.Place × Row)) → map without_index entries ≡ map entry_of_row rows → map without_index (map (one_step_below (step_kind slot)) entries) ≡ map entry_of_row (map (slots.row_behind slot) rows)
behind_told slot entries rows e = entries_on (step_kind slot) entries ∙ ap (map (one_on (step_kind slot))) e ∙ sym (rows_on slot rows)

both_told : (xs ys : List Entry) (rows others : List (slots.Place × Row)) → map without_index xs ≡ map entry_of_row rows → map without_index ys ≡ map entry_of_row others → map without_index (xs ++ ys) ≡ map entry_of_row (rows ++ others)
both_told xs ys rows others e f = map-append without_index xs ys ∙ ap (λ t. t ++ map without_index ys) e ∙ ap (λ t. map entry_of_row rows ++ t) f ∙ sym (map-append entry_of_row rows others)

mutual
  -- the entries of a table are its rows, as they are told
  pub entries_told : (version : Version) (tree : Tree Row) → map without_index (entries_of version tree) ≡ map entry_of_row (rows_of tree)
  entries_told version (node None children rest) = both_told (entries_below version children) (entries_onward version rest) (rows_below children) (rows_onward rest) (below_told version children) (onward_told version rest)
  entries_told version (node (Some row) children rest) =
      ap (λ (t : List (StatePath × Row)). ([], row) ∷ t) (both_told (entries_below version children) (entries_onward version rest) (rows_below children) (rows_onward rest) (below_told version children) (onward_told version rest))

  below_told : (version : Version) (children : Children Row) → map without_index (entries_below version children) ≡ map entry_of_row (rows_below children)
  below_told version none = refl
  below_told version (child step tree children) =
      both_told (map (one_step_below (at step)) (entries_of version tree)) (entries_below version children) (map (slots.row_behind (slots.at step)) (rows_of tree)) (rows_below children)
      (behind_told (slots.at step) (entries_of version tree) (rows_of tree) (entries_told version tree)) (below_told version children)

  onward_told : (version : Version) (rest : Rest Row) → map without_index (entries_onward version rest) ≡ map entry_of_row (rows_onward rest)
  onward_told version no_rest = refl
  onward_told version (onward n tree) = behind_told (slots.from n) (entries_of version tree) (rows_of tree) (entries_told version tree)
