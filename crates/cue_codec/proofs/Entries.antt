-- The rows of a table, one place after another.
use Rattle.std.proofs.Common.{◌≡◌, List, [], ◌∷◌, ◌++◌, append_assoc, map, Some, None, refl, ap, ◌∙◌}
use Rattle.cue_lattice.specs.Path.{Step}
use Rattle.cue_row.specs.declared.parts.RowParts.{RowParts as Row}
use Rattle.cue_table.specs.Tree.{Tree, node, Children, none, child, no_rest, onward, row_of, below, rest_below, rest_at, children_of}
use Rattle.cue_table.specs.Inner.Walks.{first_child}
use Rattle.cue_codec.specs.declared.version.Version.{Version}
use Rattle.cue_codec.specs.Entry.{at, to_rest, Entry, one_step_below, fixed_in, entries_of, entries_below, entries_onward}

-- the rows below a tree's own place
abbrev pub others_of : Version → Tree Row → List Entry
others_of version tree = entries_below version (below tree) ++ entries_onward version (rest_below tree)

-- the row at a tree's own place
abbrev pub own_entry : Version → Tree Row → Row → Entry
own_entry version tree row = record { path = []; fixed = fixed_in version tree; row = row }

pub entries_begin : (version : Version) (tree : Tree Row) (row : Row) → row_of tree ≡ Some row → entries_of version tree ≡ own_entry version tree row ∷ others_of version tree
entries_begin version (node None children rest) row e = cc
entries_begin version (node (Some here) children rest) row e =
    let same : here ≡ row = cc in
    ap (λ r. own_entry version (node (Some here) children rest) r ∷ others_of version (node (Some here) children rest)) same

pub entries_begin_below : (version : Version) (tree : Tree Row) → row_of tree ≡ None → entries_of version tree ≡ others_of version tree
entries_begin_below version (node None children rest) e = refl
entries_begin_below version (node (Some here) children rest) e = cc

pub entries_more :
    (version : Version) (step : Step) (tree : Tree Row) (rest left : Children Row) (more : List Entry) → children_of rest ≡ (step, tree) ∷ children_of left
    → entries_below version rest ++ more ≡ map (one_step_below (at step)) (entries_of version tree) ++ (entries_below version left ++ more)
entries_more version step tree rest left more e =
    ap (λ cs. entries_below version cs ++ more) (first_child rest left step tree e) ∙ append_assoc (map (one_step_below (at step)) (entries_of version tree)) (entries_below version left) more

pub entries_end : (version : Version) (rest : Children Row) (more : List Entry) → children_of rest ≡ [] → entries_below version rest ++ more ≡ more
entries_end version none more e = refl
entries_end version (child step tree rest) more e = cc

pub entries_rest : (version : Version) (tree branch : Tree Row) → rest_at (rest_below tree) ≡ Some branch → entries_onward version (rest_below tree) ≡ map (one_step_below to_rest) (entries_of version branch)
entries_rest version (node row children no_rest) branch e = cc
entries_rest version (node row children (onward n tree)) branch e = let same : tree ≡ branch = cc in ap (λ t. map (one_step_below to_rest) (entries_of version t)) same

pub entries_no_rest : (version : Version) (tree : Tree Row) → rest_at (rest_below tree) ≡ None → entries_onward version (rest_below tree) ≡ []
entries_no_rest version (node row children no_rest) e = refl
entries_no_rest version (node row children (onward n tree)) e = cc
