-- Two lists of branches as one.
use Rattle.cue_table.specs.Tree.{Children, none, child}

-- the one list of branches and then the other
abbrev pub join_children : {R : Type 0} → Children R → Children R → Children R
join_children none others = others
join_children (child step tree children) others = child step tree (join_children children others)
