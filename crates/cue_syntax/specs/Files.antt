-- The tree of a file.
use Rattle.cue_syntax.specs.declared.tree.File.{File}
use Rattle.cue_syntax.specs.Syntax.{FileTree, entries}

abbrev pub file_tree : File → FileTree
file_tree file = record {
  package_clause = file.package;
  declarations = entries file.declarations.items;
  comma = file.comma;
}
