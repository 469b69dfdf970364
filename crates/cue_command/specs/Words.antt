-- Which words ask for what.
use Rattle.std.specs.Prelude.{◌==◌, ◌&&◌, ℕ, List, [], ◌∷◌, codes, Bool, nat_le}
use Rattle.std.specs.Prelude.{false, Option, Some, None, if◌then◌else◌}
use Rattle.std.specs.Char.{is_ascii_digit}
use Rattle.std.specs.List.{list_all}
use Rattle.std.specs.Option.{option_map}
use Rattle.std.specs.Prelude.{option_and_then}
use Rattle.std.specs.Str.{bytes_eq}
use Rattle.std.specs.Str.Parse.{digits_value}
use Rattle.cue_program.specs.declared.SiteQuestion.{SiteQuestion}
use Rattle.cue_program.specs.declared.SiteQuestion.TheVariants as questions
use Rattle.cue_program.specs.Files.{texts_of_files}
use Rattle.cue_command.specs.declared.command.Command.{Command}
use Rattle.cue_command.specs.declared.command.Command.TheVariants as commands

-- What words can ask for: the answer to a question about files; the state of files at a name; to
-- serve so many connections on a port; to send files to the site on a port; or both in one process.
pub data WordsMeaning : Type 0 where
  asking : SiteQuestion → List (List ℕ) → WordsMeaning
  merging : List ℕ → List (List ℕ) → WordsMeaning
  serving : (port count : ℕ) → WordsMeaning
  pushing : (port : ℕ) → List (List ℕ) → WordsMeaning
  looping : List (List ℕ) → WordsMeaning

-- what a command asks for
abbrev pub asked_by_words : Command → WordsMeaning
asked_by_words (commands.Ask question files) = asking question (texts_of_files files.items)
asked_by_words (commands.Merge out files) = merging out.now (texts_of_files files.items)
asked_by_words (commands.Serve port count) = serving port count
asked_by_words (commands.Push port files) = pushing port (texts_of_files files.items)
asked_by_words (commands.Loop files) = looping (texts_of_files files.items)

-- the word begins with `-` and has more characters
abbrev pub is_option : List ℕ → Bool
is_option (c ∷ d ∷ more) = c == 45
is_option _ = false

-- the arguments among words: all up to the first `--`, of which none is an option, and all after
abbrev pub arguments : List (List ℕ) → Option (List (List ℕ))
arguments [] = Some []
arguments (word ∷ words) = if bytes_eq word (codes "--") then Some words
    else (if is_option word then None else option_map (λ more. word ∷ more) (arguments words))

-- merging asks for a file to write first
abbrev pub merge_words : List (List ℕ) → Option WordsMeaning
merge_words [] = None
merge_words (out ∷ files) = Some (merging out files)

-- the number that a word of decimal digits says, where it is from 1 to the greatest one
abbrev pub number_in : ℕ → List ℕ → Option ℕ
number_in most word = if list_all is_ascii_digit word
    && (nat_le 1 (digits_value 10 word) && nat_le (digits_value 10 word) most)
    then Some (digits_value 10 word) else None

-- the greatest port, and the most connections
abbrev pub port_limit : ℕ
port_limit = 65535

abbrev pub count_limit : ℕ
count_limit = 1000

-- serving asks for a port and a count, and for nothing else
abbrev pub served_on : List ℕ → List ℕ → Option WordsMeaning
served_on port count = option_and_then (λ p. option_map (λ n. serving p n)
    (number_in count_limit count)) (number_in port_limit port)

abbrev pub serve_words : List (List ℕ) → Option WordsMeaning
serve_words (port ∷ count ∷ []) = served_on port count
serve_words _ = None

-- pushing asks for a port first
abbrev pub push_words : List (List ℕ) → Option WordsMeaning
push_words [] = None
push_words (port ∷ files) = option_map (λ p. pushing p files) (number_in port_limit port)

-- what a command's name and its arguments ask for
abbrev pub meaning_of : List ℕ → List (List ℕ) → Option WordsMeaning
meaning_of name files = if bytes_eq name (codes "export") then Some (asking questions.Export files)
    else (if bytes_eq name (codes "print") then Some (asking questions.Print files)
    else (if bytes_eq name (codes "report") then Some (asking questions.Report files)
    else (if bytes_eq name (codes "state") then Some (asking questions.State files)
    else (if bytes_eq name (codes "merge") then merge_words files
    else (if bytes_eq name (codes "serve") then serve_words files
    else (if bytes_eq name (codes "push") then push_words files
    else (if bytes_eq name (codes "loop") then Some (looping files) else None)))))))

-- What the words after the program's name ask for: the first names the command, and the others give
-- its arguments.
abbrev pub meaning_of_words : List (List ℕ) → Option WordsMeaning
meaning_of_words [] = None
meaning_of_words (name ∷ words) = option_and_then (meaning_of name) (arguments words)
