-- Each tree in form is in the form that its rows give it.
use Rattle.cue_table.specs.Tree.{Tree, node, Children, none, child, Rest, no_rest, onward}
use Rattle.cue_table.specs.Form.{IsTree, AreBranches, IsRestOf}
use Rattle.cue_table.specs.Inner.Form.{StepsRise}
use Rattle.cue_table.specs.Inner.Loose.{IsLoose, AreLoose, IsLooseRest}

module _ {R : Type 0} (P : R → Type 0) where
  mutual
    pub loosened : (tree : Tree R) → IsTree P tree → IsLoose P tree
    loosened (node row children rest) h = (h.0, loosened_below children h.1, loosened_rest children rest h.2)

    loosened_below : (children : Children R) → AreBranches P children → AreLoose P children
    loosened_below none h = tt
    loosened_below (child step tree children) h = (h.0, h.1, loosened tree h.2, loosened_below children h.3)

    loosened_rest : (children : Children R) (rest : Rest R) → IsRestOf P children rest → IsLooseRest P rest
    loosened_rest children no_rest h = tt
    loosened_rest children (onward n tree) h = (h.2, loosened tree h.3)

  -- the steps of its branches rise
  pub loose_rise : (children : Children R) → AreLoose P children → StepsRise children
  loose_rise none h = tt
  loose_rise (child step tree children) h = (h.0, loose_rise children h.3)
