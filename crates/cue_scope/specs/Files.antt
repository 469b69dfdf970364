-- What a file declares.
use Rattle.cue_syntax.specs.declared.tree.File.{File}
use Rattle.cue_syntax.specs.Syntax.{Entries, entries}

abbrev pub entries_of : File → Entries
entries_of file = entries file.declarations.items
