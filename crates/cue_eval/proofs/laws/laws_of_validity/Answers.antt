use Rattle.cue_eval.proofs.Unwritten.{paths_are_written, unwritten_labels}
use Rattle.cue_eval.proofs.UnwrittenTexts.{unwritten_texts}
use Rattle.cue_eval.proofs.Sizes.{lengths_within_size}
use Rattle.cue_eval.proofs.WordsOfTexts.{texts_write_words}
use Rattle.cue_eval.proofs.ValidTables.{texts_are_valid}
use Rattle.cue_eval.proofs.laws.laws_of_validity.Goals as goal

pub returns : goal.returns
returns c = record {
  paths = paths_are_written;
  labels = unwritten_labels;
  texts = unwritten_texts;
  lengths = lengths_within_size;
  words = texts_write_words;
  tables = texts_are_valid;
}
