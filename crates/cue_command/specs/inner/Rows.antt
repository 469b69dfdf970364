-- What `clap` finds of the program's words, and what it asks for.
use Rattle.std.specs.Prelude.{List, [], Option, Some, None, codes, unwrap_or}
use Rattle.std.specs.Prelude.{if◌then◌else◌, option_and_then}
use Rattle.std.specs.Option.{option_map}
use Rattle.std.specs.Str.{bytes_eq}
use Rattle.clap.specs.Walk.{Row, Text, all_of, first_of}
use Rattle.cue_program.specs.declared.SiteQuestion.TheVariants as questions
use Rattle.cue_command.specs.Words.{WordsMeaning, asking, looping, merging, pushing, number_in, port_limit}
use Rattle.cue_command.specs.Words.{served_on}

-- the inputs that are named
abbrev pub files_in : List Row → List Text
files_in rows = unwrap_or (all_of (codes "FILE") rows) []

abbrev pub merge_in : List Row → Option WordsMeaning
merge_in rows = option_map (λ out. merging out (files_in rows)) (first_of (codes "OUT") rows)

abbrev pub push_in : List Row → Option WordsMeaning
push_in rows = option_and_then (λ port.
    option_map (λ p. pushing p (files_in rows)) (number_in port_limit port))
    (first_of (codes "PORT") rows)

abbrev pub serve_in : List Row → Option WordsMeaning
serve_in rows = option_and_then (λ port. option_and_then (served_on port)
    (first_of (codes "COUNT") rows)) (first_of (codes "PORT") rows)

-- what a subcommand's name and its rows ask for
abbrev pub meaning_of_rows : Text → List Row → Option WordsMeaning
meaning_of_rows name rows = if bytes_eq name (codes "export")
    then Some (asking questions.Export (files_in rows))
    else (if bytes_eq name (codes "print") then Some (asking questions.Print (files_in rows))
    else (if bytes_eq name (codes "report") then Some (asking questions.Report (files_in rows))
    else (if bytes_eq name (codes "state") then Some (asking questions.State (files_in rows))
    else (if bytes_eq name (codes "merge") then merge_in rows
    else (if bytes_eq name (codes "serve") then serve_in rows
    else (if bytes_eq name (codes "push") then push_in rows
    else (if bytes_eq name (codes "loop") then Some (looping (files_in rows)) else None)))))))
