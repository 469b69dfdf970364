-- Which arguments ask for what.
use Rattle.std.specs.Prelude.{◌&&◌, ℕ, List, [], ◌∷◌, codes, nat_le, false, not}
use Rattle.std.specs.Prelude.{Option, Some, None, if◌then◌else◌, option_and_then, unwrap_or}
use Rattle.std.specs.Char.{is_ascii_digit}
use Rattle.std.specs.List.{list_all}
use Rattle.std.specs.Option.{option_map, option_map_or}
use Rattle.std.specs.Str.{bytes_eq}
use Rattle.std.specs.Str.Parse.{digits_value}
use Rattle.clap.specs.Faults.{fault_of}
use Rattle.clap.specs.Kinds.{Kinds}
use Rattle.clap.specs.Simple.{subcommand_of}
use Rattle.clap.specs.Walk.{Row, Text, all_of, first_of, is_empty}
use Rattle.cue_policies.specs.declared.kind.LayerKind.{LayerKind}
use Rattle.cue_policies.specs.declared.kind.LayerKind.TheVariants as kinds
use Rattle.cue_program.specs.declared.SiteQuestion.{SiteQuestion}
use Rattle.cue_program.specs.declared.SiteQuestion.TheVariants as questions
use Rattle.cue_program.specs.Files.{texts_of_files}
use Rattle.cue_layers_command.specs.Apps.{layers}
use Rattle.cue_layers_command.specs.declared.command.LayersCommand.{LayersCommand}
use Rattle.cue_layers_command.specs.declared.command.LayersCommand.TheVariants as commands

-- What arguments can ask for: to put a layer of files, so that the view has no more rows than so
-- many; to remove one; to try a put; to join files into one; to answer a question about the view of
-- files, or about a place of it; to list layers; to show one; or who makes what is reported at a
-- path.
pub data ArgumentsMeaning : Type 0 where
  putting : LayerKind → (map name : List ℕ) → List (List ℕ) → (limit : ℕ) → ArgumentsMeaning
  removing : LayerKind → (map name : List ℕ) → ArgumentsMeaning
  trying : LayerKind → (map name : List ℕ) → List (List ℕ) → (limit : ℕ) → ArgumentsMeaning
  merging : (out : List ℕ) → List (List ℕ) → ArgumentsMeaning
  asking : SiteQuestion → (place : Option (List ℕ)) → List (List ℕ) → (limit : ℕ) → ArgumentsMeaning
  listing : List (List ℕ) → ArgumentsMeaning
  showing : LayerKind → (file name : List ℕ) → ArgumentsMeaning
  tracing : (path : List ℕ) → List (List ℕ) → ArgumentsMeaning

-- what a command asks for
abbrev pub asked_by_arguments : LayersCommand → ArgumentsMeaning
asked_by_arguments (commands.Put kind map name files limit) =
    putting kind map.now name.now (texts_of_files files.items) limit
asked_by_arguments (commands.Remove kind map name) = removing kind map.now name.now
asked_by_arguments (commands.Attempt kind map name files limit) =
    trying kind map.now name.now (texts_of_files files.items) limit
asked_by_arguments (commands.Merge out files) = merging out.now (texts_of_files files.items)
asked_by_arguments (commands.Ask question place files limit) =
    asking question (option_map (λ p. p.now) place) (texts_of_files files.items) limit
asked_by_arguments (commands.List files) = listing (texts_of_files files.items)
asked_by_arguments (commands.Show kind file name) = showing kind file.now name.now
asked_by_arguments (commands.Why path files) = tracing path.now (texts_of_files files.items)

-- ---- what is read of an argument

-- the most rows, where no option says it
abbrev pub row_limit : ℕ
row_limit = 10000000

-- the greatest number of 64 bits
abbrev pub most_rows : ℕ
most_rows = 18446744073709551615

-- the number that an argument of decimal digits says, where it has 64 bits at most
abbrev pub rows_of_arguments : Text → Option ℕ
rows_of_arguments word = if not (is_empty word) && (list_all is_ascii_digit word
    && nat_le (digits_value 10 word) most_rows)
    then Some (digits_value 10 word) else None

-- ---- what `clap` finds of a command's arguments

-- the files that are named
abbrev pub files_of_rows : List Row → List Text
files_of_rows rows = unwrap_or (all_of (codes "FILE") rows) []

-- `--policy` is there or not
abbrev pub kind_in : List Row → LayerKind
kind_in rows = if option_map_or (λ word. bytes_eq word (codes "true"))
    (first_of (codes "policy") rows) false then kinds.Policy else kinds.Layer

-- what `--limit` says
abbrev pub limit_of : Option Text → Option ℕ
limit_of None = Some row_limit
limit_of (Some word) = rows_of_arguments word

abbrev pub limit_in : List Row → Option ℕ
limit_in rows = limit_of (first_of (codes "limit") rows)

-- the two arguments of these ids, and then what is made of them
abbrev pub both_in : Text → Text → (Text → Text → Option ArgumentsMeaning) → List Row → Option ArgumentsMeaning
both_in first second make rows = option_and_then (λ one. option_and_then (make one)
    (first_of second rows)) (first_of first rows)

abbrev pub put_in : List Row → Option ArgumentsMeaning
put_in rows = both_in (codes "MAP") (codes "NAME")
    (λ map name. option_map (putting (kind_in rows) map name (files_of_rows rows)) (limit_in rows))
    rows

abbrev pub try_in : List Row → Option ArgumentsMeaning
try_in rows = both_in (codes "MAP") (codes "NAME")
    (λ map name. option_map (trying (kind_in rows) map name (files_of_rows rows)) (limit_in rows))
    rows

abbrev pub remove_in : List Row → Option ArgumentsMeaning
remove_in rows = both_in (codes "MAP") (codes "NAME")
    (λ map name. Some (removing (kind_in rows) map name)) rows

abbrev pub show_in : List Row → Option ArgumentsMeaning
show_in rows = both_in (codes "FILE") (codes "NAME")
    (λ file name. Some (showing (kind_in rows) file name)) rows

abbrev pub merge_of_rows : List Row → Option ArgumentsMeaning
merge_of_rows rows = option_map (λ out. merging out (files_of_rows rows)) (first_of (codes "OUT") rows)

abbrev pub why_in : List Row → Option ArgumentsMeaning
why_in rows = option_map (λ path. tracing path (files_of_rows rows)) (first_of (codes "PATH") rows)

abbrev pub ask_in : SiteQuestion → List Row → Option ArgumentsMeaning
ask_in question rows = option_map (asking question (first_of (codes "at") rows) (files_of_rows rows))
    (limit_in rows)

-- what a command's name, and what is found of its arguments, ask for
abbrev pub meaning_of_argument_rows : Text → List Row → Option ArgumentsMeaning
meaning_of_argument_rows name rows = if bytes_eq name (codes "put") then put_in rows
    else (if bytes_eq name (codes "remove") then remove_in rows
    else (if bytes_eq name (codes "try") then try_in rows
    else (if bytes_eq name (codes "merge") then merge_of_rows rows
    else (if bytes_eq name (codes "export") then ask_in questions.Export rows
    else (if bytes_eq name (codes "report") then ask_in questions.Report rows
    else (if bytes_eq name (codes "print") then ask_in questions.Print rows
    else (if bytes_eq name (codes "list") then Some (listing (files_of_rows rows))
    else (if bytes_eq name (codes "show") then show_in rows
    else (if bytes_eq name (codes "why") then why_in rows else None)))))))))

-- What is asked for, by what `clap` refuses and what it finds.
abbrev pub asked_where : Kinds → Option (Text × List Row) → Option ArgumentsMeaning
asked_where [] found = option_and_then (λ p. meaning_of_argument_rows p.0 p.1) found
asked_where (kind ∷ kinds) found = None

-- What the arguments behind the program's name ask for: nothing where `clap` refuses them, and else
-- what it finds.
abbrev pub meaning_of_arguments : List Text → Option ArgumentsMeaning
meaning_of_arguments words = asked_where (fault_of layers words) (subcommand_of layers words)
