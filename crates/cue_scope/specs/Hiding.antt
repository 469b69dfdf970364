-- The labels that hide words.
use Rattle.cue_syntax.specs.Syntax.{Entries, entries}
use Rattle.cue_scope.specs.declared.words.WordLabels.{WordLabels}

-- the declarations whose labels they are
abbrev pub labels_in : WordLabels → Entries
labels_in labels = entries labels.declarations.now
