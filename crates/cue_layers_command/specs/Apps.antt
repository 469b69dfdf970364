-- What `clap` is given of the program's arguments.
use Rattle.std.specs.Prelude.{◌≡◌, Bool, [], Some, codes, true, false}
use Rattle.clap.specs.Walk.{Rule, Text}
use Rattle.clap.specs.Simple.{App, Shape, app_of, new_app, new_rule, new_shape, with_rule}
use Rattle.clap.specs.Simple.{with_subcommand}
use Rattle.clap.specs.declared.builder.action.ArgAction.TheVariants.{Append, Set, SetTrue}
use Rattle.clap.specs.declared.builder.command.Command.{Command}
use Rattle.clap.specs.declared.builder.command.Command.TheViews.{out-Command}

-- any number of files, or at least one where they are required
abbrev pub files_rule : Bool → Rule
files_rule required =
    record (new_rule (codes "FILE")) { action = Some Append; required = required }

-- an argument that must be there
abbrev pub taken_rule : Text → Rule
taken_rule id = record (new_rule id) { action = Some Set; required = true }

-- an option with a value: `--id VALUE` or `--id=VALUE`
abbrev pub option_rule : Text → Rule
option_rule id = record (new_rule id) { long = Some id; value_names = 1; action = Some Set }

-- the option `--policy`, which has none
abbrev pub policy_rule : Rule
policy_rule =
    record (new_rule (codes "policy")) { long = Some (codes "policy"); action = Some SetTrue }

-- a command with files alone
abbrev pub of_files : Text → App
of_files name = with_rule (new_app name) (files_rule true)

-- a command with an argument and files
abbrev pub of_first : Text → Text → App
of_first name first = with_rule (with_rule (new_app name) (taken_rule first)) (files_rule true)

-- a command about the layer of a name in a file
abbrev pub of_name : Text → Text → App
of_name name file = with_rule (with_rule (with_rule (new_app name) policy_rule)
    (taken_rule file)) (taken_rule (codes "NAME"))

-- a command that puts a layer of files
abbrev pub of_put : Text → App
of_put name = with_rule (with_rule (of_name name (codes "MAP")) (files_rule false))
    (option_rule (codes "limit"))

-- a command that asks about the view of files
abbrev pub of_question : Text → App
of_question name = with_rule (with_rule (of_files name) (option_rule (codes "at")))
    (option_rule (codes "limit"))

-- c is this one
abbrev pub IsApp : App → Command → Type 0
IsApp app c = (app_of c ≡ app) × ((out-Command c).has_globals ≡ false)

abbrev pub top : Shape
top = record (new_shape (codes "cuelayers")) {
  no_binary_name = true;
  disable_help_flag = true;
  disable_help_subcommand = true;
  subcommand_required = true;
}

-- the program's commands that change a map, or try to
abbrev pub app_with_changes : App
app_with_changes = with_subcommand (with_subcommand (with_subcommand (with_subcommand
    (record { top = top; subs = [] })
    (of_put (codes "put")).top) (of_name (codes "remove") (codes "MAP")).top)
    (of_put (codes "try")).top) (of_first (codes "merge") (codes "OUT")).top

-- and those that ask about a view
abbrev pub app_with_questions : App
app_with_questions = with_subcommand (with_subcommand (with_subcommand app_with_changes
    (of_question (codes "export")).top) (of_question (codes "report")).top)
    (of_question (codes "print")).top

-- the program
abbrev pub layers : App
layers = with_subcommand (with_subcommand (with_subcommand app_with_questions
    (of_files (codes "list")).top) (of_name (codes "show") (codes "FILE")).top)
    (of_first (codes "why") (codes "PATH")).top
