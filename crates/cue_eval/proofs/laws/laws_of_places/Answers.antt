use Rattle.cue_eval.proofs.Origins.{comes_from}
use Rattle.cue_eval.proofs.Places.{labels_of_structs, lengths_of_lists, fields_of_structs, elements_of_lists, levels_of_fields}
use Rattle.cue_eval.proofs.Within.{places_of_kinds, usual_is_within}
use Rattle.cue_eval.proofs.Depth.{paths_within_depth}
use Rattle.cue_eval.proofs.Further.{further_are_alike}
use Rattle.cue_eval.proofs.laws.laws_of_places.Goals as goal

pub returns : goal.returns
returns c = record {
  origins = comes_from;
  kinds = places_of_kinds;
  labels = labels_of_structs;
  lengths = lengths_of_lists;
  fields = fields_of_structs;
  elements = elements_of_lists;
  further = further_are_alike;
  levels = levels_of_fields;
  depths = paths_within_depth;
  usual = usual_is_within;
}
