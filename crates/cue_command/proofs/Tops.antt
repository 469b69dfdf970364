-- What `clap` makes of the program's words, and what they ask for.
use Rattle.std.proofs.Common.{◌≡◌, ◌∙◌, Bool, true, false, ◌⊎◌, inl, inr, List, [], ◌∷◌, Option, Some, None, codes, refl, sym, ap, ap₂, subst, fold, IsUtf8, option_map, true≢false}
use Rattle.std.specs.Prelude.{option_and_then, is_some}
use Rattle.std.specs.Str.{bytes_eq}
use Rattle.std.proofs.lemmas.Slice.Eq.{bytes_eq-Decides}
use Rattle.clap.specs.Kinds.{Kinds, or_else}
use Rattle.clap.specs.Walk.{Row, Text, Walk, after_step, idle, subcommand_or_other, nothing_held, rows_after, settled, finished, subcommand_met, walk, walk_from, walked}
use Rattle.clap.specs.Simple.{Shape, built, entered, names_of, subcommand_of}
use Rattle.clap.specs.Faults.{check_fault, defaults_fault, entered_fault, fault_of, flags_fault, level_fault, other_fault, step_fault, settle_fault, turn_fault, walk_fault}
use Rattle.clap.proofs.FaultLemmas.{stopped_fault}
use Rattle.clap.proofs.WalkLemmas.{walk_stopped}
use Rattle.cue_command.specs.inner.Apps.{store}
use Rattle.cue_command.specs.inner.Rows.{files_in, meaning_of_rows}
use Rattle.cue_program.specs.declared.SiteQuestion.TheVariants as questions
use Rattle.cue_command.specs.Words.{arguments, meaning_of_words, asking, is_option, looping, meaning_of, merge_words, merging, number_in, port_limit, push_words, pushing, serve_words}
use Rattle.cue_command.proofs.Looks.{Flag, flag_of, has_char, long, plain_long, plain_short, short}
use Rattle.cue_command.proofs.Walking.{IsFault, first_fault, later_fault}
use Rattle.cue_command.proofs.Machines.{AllText, Ends}
use Rattle.cue_command.proofs.Leaves.{file_rows, files_end, files_leaf, first_end, first_leaf, first_rows, pair_end, pair_rows, row, two_leaf}

-- the words' kinds of fault and subcommand say what is asked for
abbrev pub Agrees : List Text → Type 0
Agrees words = ((fault_of store words ≡ []) × (meaning_of_words words ≡ option_and_then (λ p. meaning_of_rows p.0 p.1) (subcommand_of store words)))
    ⊎ (IsFault (fault_of store words) × (meaning_of_words words ≡ None))

abbrev top : Shape
top = (built store).top

abbrev begun : Walk
begun = walk_from nothing_held

abbrev entering : Text → List Text → Walk
entering name rest = record begun { stopped = Some (name, rest) }

-- what is found, by the walk and its faults
abbrev found : Kinds → Walk → Kinds
found fault w = or_else fault (or_else (entered_fault (built store) w.stopped)
    (or_else (settle_fault [] false w.held) (or_else (defaults_fault (settled [] w.held).rows [])
    (check_fault top (finished [] w.held) (is_some (entered (built store) w.stopped))))))

fault_is : (words : List Text) → fault_of store words ≡ found (walk_fault top (names_of (built store)) begun words) (walk [] (names_of (built store)) nothing_held words)
fault_is words = refl

or_nothing : (a : Kinds) → or_else a [] ≡ a
or_nothing [] = refl
or_nothing (k ∷ ks) = refl

-- ---- a command's name

-- the name's leaf is entered with the words after it
module _ (name : Text) (leaf : Shape) (rest : List Text) (goes : walked [] (names_of (built store)) begun name ≡ entering name []) (none : turn_fault top (names_of (built store)) begun name ≡ [])
    (entered_is : entered (built store) (Some (name, rest)) ≡ Some (name, rows_after leaf.rules [] rest))
    (fault_in : entered_fault (built store) (Some (name, rest)) ≡ level_fault leaf [] nothing_held rest false []) where
  walk_is : walk [] (names_of (built store)) nothing_held (name ∷ rest) ≡ entering name rest
  walk_is = ap (λ (w : Walk). fold (walked [] (names_of (built store))) w rest) goes ∙ sym (walk_stopped [] (names_of (built store)) begun name [] rest)

  no_fault : walk_fault top (names_of (built store)) begun (name ∷ rest) ≡ []
  unfolding walk_fault
  no_fault = later_fault _ _ none ∙ ap (λ (w : Walk). walk_fault top (names_of (built store)) w rest) goes ∙ stopped_fault top (names_of (built store)) begun (name, []) rest

  named_fault : fault_of store (name ∷ rest) ≡ level_fault leaf [] nothing_held rest false []
  unfolding defaults_fault
  named_fault = ap₂ found no_fault walk_is ∙ ap (λ o. or_else (entered_fault (built store) (Some (name, rest))) (check_fault top [] (is_some o))) entered_is
      ∙ or_nothing (entered_fault (built store) (Some (name, rest))) ∙ fault_in

  named_subcommand : subcommand_of store (name ∷ rest) ≡ Some (name, rows_after leaf.rules [] rest)
  named_subcommand = ap (λ (w : Walk). entered (built store) w.stopped) walk_is ∙ entered_is

  agrees_at : (rows_of : List Text → Option (List Row)) → ((files : List Text) → meaning_of name files ≡ option_and_then (meaning_of_rows name) (rows_of files))
      → Ends leaf rest (option_and_then rows_of (arguments rest)) → Agrees (name ∷ rest)
  agrees_at rows_of means end = by_arguments (arguments rest) refl end
    where
      by_rows : (rows : Option (List Row)) (asked_is : meaning_of_words (name ∷ rest) ≡ option_and_then (meaning_of_rows name) rows) → Ends leaf rest rows → Agrees (name ∷ rest)
      by_rows (Some rows) is e = inl (named_fault ∙ e.0, is ∙ sym (ap (λ o. option_and_then (λ p. meaning_of_rows p.0 p.1) o) named_subcommand ∙ ap (meaning_of_rows name) e.1))
      by_rows None is e = inr (subst IsFault (sym named_fault) e, is)

      by_arguments : (some : Option (List Text)) → arguments rest ≡ some → Ends leaf rest (option_and_then rows_of some) → Agrees (name ∷ rest)
      by_arguments None is e = by_rows None (ap (λ o. option_and_then (meaning_of name) o) is) e
      by_arguments (Some files) is e = by_rows (rows_of files) (ap (λ o. option_and_then (meaning_of name) o) is ∙ means files) e

files_found : (files : List Text) → files ≡ files_in (file_rows files)
files_found [] = refl
files_found (file ∷ files) = refl

first_found : (rows_of : Row) (files : List Text) → bytes_eq rows_of.id (codes "FILE") ≡ false → files ≡ files_in (rows_of ∷ file_rows files)
first_found r [] e = rw e refl
first_found r (file ∷ files) e = rw e refl

abbrev some_files : List Text → Option (List Row)
some_files files = Some (file_rows files)

module _ (rest : List Text) (text : AllText rest) where
  export_agrees : Agrees (codes "export" ∷ rest)
  unfolding walked
  export_agrees = agrees_at (codes "export") (files_leaf (codes "export")) rest refl refl refl refl some_files
      (λ files. ap (λ fs. Some (asking questions.Export fs)) (files_found files)) (files_end (codes "export") rest text)

  print_agrees : Agrees (codes "print" ∷ rest)
  unfolding walked
  print_agrees = agrees_at (codes "print") (files_leaf (codes "print")) rest refl refl refl refl some_files
      (λ files. ap (λ fs. Some (asking questions.Print fs)) (files_found files)) (files_end (codes "print") rest text)

  report_agrees : Agrees (codes "report" ∷ rest)
  unfolding walked
  report_agrees = agrees_at (codes "report") (files_leaf (codes "report")) rest refl refl refl refl some_files
      (λ files. ap (λ fs. Some (asking questions.Report fs)) (files_found files)) (files_end (codes "report") rest text)

  state_agrees : Agrees (codes "state" ∷ rest)
  unfolding walked
  state_agrees = agrees_at (codes "state") (files_leaf (codes "state")) rest refl refl refl refl some_files
      (λ files. ap (λ fs. Some (asking questions.State fs)) (files_found files)) (files_end (codes "state") rest text)

  loop_agrees : Agrees (codes "loop" ∷ rest)
  unfolding walked
  loop_agrees = agrees_at (codes "loop") (files_leaf (codes "loop")) rest refl refl refl refl some_files
      (λ files. ap (λ fs. Some (looping fs)) (files_found files)) (files_end (codes "loop") rest text)

  merge_means : (files : List Text) → merge_words files ≡ option_and_then (meaning_of_rows (codes "merge")) (first_rows true files)
  merge_means [] = refl
  merge_means (out ∷ files) = ap (λ fs. Some (merging out fs)) (first_found (row (codes "OUT") (out ∷ [])) files refl)

  merge_agrees : Agrees (codes "merge" ∷ rest)
  unfolding walked
  merge_agrees = agrees_at (codes "merge") (first_leaf (codes "merge") (codes "OUT")) rest refl refl refl refl (first_rows true)
      merge_means (first_end (codes "merge") true rest text)

  push_means : (files : List Text) → push_words files ≡ option_and_then (meaning_of_rows (codes "push")) (first_rows false files)
  push_means [] = refl
  push_means (port ∷ files) = ap (λ fs. option_map (λ p. pushing p fs) (number_in port_limit port)) (first_found (row (codes "PORT") (port ∷ [])) files refl)

  push_agrees : Agrees (codes "push" ∷ rest)
  unfolding walked
  push_agrees = agrees_at (codes "push") (first_leaf (codes "push") (codes "PORT")) rest refl refl refl refl (first_rows false)
      push_means (first_end (codes "push") false rest text)

  serve_means : (files : List Text) → serve_words files ≡ option_and_then (meaning_of_rows (codes "serve")) (pair_rows files)
  serve_means [] = refl
  serve_means (port ∷ []) = refl
  serve_means (port ∷ count ∷ []) = refl
  serve_means (port ∷ count ∷ more ∷ files) = refl

  serve_agrees : Agrees (codes "serve" ∷ rest)
  unfolding walked
  serve_agrees = agrees_at (codes "serve") (two_leaf (codes "serve") (codes "PORT") (codes "COUNT")) rest refl refl refl refl pair_rows
      serve_means (pair_end (codes "serve") rest text)

-- ---- a first word that names no command

swapped : (a b : Text) → bytes_eq a b ≡ false → bytes_eq b a ≡ false
swapped a b e = go (bytes_eq b a) refl
  where
    go : (same : Bool) → bytes_eq b a ≡ same → same ≡ false
    go true t = absurd (true≢false (sym ((bytes_eq-Decides a b).1 (sym ((bytes_eq-Decides b a).0 t))) ∙ e))
    go false t = refl

module _ (word : Text) (text : IsUtf8 word) (no_export : bytes_eq word (codes "export") ≡ false) (no_print : bytes_eq word (codes "print") ≡ false) (no_report : bytes_eq word (codes "report") ≡ false)
    (no_state : bytes_eq word (codes "state") ≡ false) (no_merge : bytes_eq word (codes "merge") ≡ false) (no_serve : bytes_eq word (codes "serve") ≡ false)
    (no_push : bytes_eq word (codes "push") ≡ false) (no_loop : bytes_eq word (codes "loop") ≡ false) where
  no_name : subcommand_met (names_of (built store)) idle word ≡ None
  no_name = rw (
    swapped word (codes "export") no_export,
    swapped word (codes "print") no_print,
    swapped word (codes "report") no_report,
    swapped word (codes "state") no_state,
    swapped word (codes "merge") no_merge,
    swapped word (codes "serve") no_serve,
    swapped word (codes "push") no_push,
    swapped word (codes "loop") no_loop,
  ) refl

  means_nothing : (files : Option (List Text)) → option_and_then (meaning_of word) files ≡ None
  means_nothing None = refl
  means_nothing (Some files) = rw (no_export, no_print, no_report, no_state, no_merge, no_serve, no_push, no_loop) refl

  other : Option Text → Walk
  other name = let met = subcommand_or_other [] name idle 1 word begun.held in after_step [] word begun met.0 met.1

  other_walked : walked [] (names_of (built store)) begun word ≡ other None
  unfolding walked other
  other_walked = ap other no_name

  other_kinds : Option Text → Kinds
  other_kinds name = or_else (other_fault top name word begun.held)
      (let met = subcommand_or_other [] name idle 1 word begun.held in step_fault top 1 met.0 met.1)

  other_turn : turn_fault top (names_of (built store)) begun word ≡ other_kinds None
  unfolding other_kinds
  other_turn = ap other_kinds no_name

  -- it is no `--`
  plain_refused : bytes_eq word (codes "--") ≡ false → is_option word ≡ false → IsFault (other_kinds None)
  unfolding other_kinds
  plain_refused d o = rw (d, plain_long word o, plain_short word o) tt

  flag_refused : bytes_eq word (codes "--") ≡ false → Flag word → IsFault (other_kinds None)
  unfolding other_kinds flags_fault
  flag_refused d (long p e) = rw (d, e) tt
  flag_refused d (short c rest l e is) = let first = has_char c rest (subst IsUtf8 is text) in rw (d, l, e, first.1) tt

  refused : bytes_eq word (codes "--") ≡ false → (o : Bool) → is_option word ≡ o → IsFault (other_kinds None)
  refused d true o = flag_refused d (flag_of word d o)
  refused d false o = plain_refused d o

  turn_refused : (rest : List Text) → bytes_eq word (codes "--") ≡ false → IsFault (fault_of store (word ∷ rest))
  unfolding walk_fault
  turn_refused rest d = first_fault _ _ (first_fault _ _ (subst IsFault (sym other_turn) (refused d (is_option word) refl)))

  -- it is `--`
  abbrev behind_dashes : Walk
  behind_dashes = record begun { is_trailing = true }

  dashes_walk : bytes_eq word (codes "--") ≡ true → walked [] (names_of (built store)) begun word ≡ behind_dashes
  unfolding other
  dashes_walk d = other_walked ∙ rw d refl

  dashes_turn : bytes_eq word (codes "--") ≡ true → turn_fault top (names_of (built store)) begun word ≡ []
  unfolding other_kinds
  dashes_turn d = other_turn ∙ rw d refl

  dashes_refused : (rest : List Text) → bytes_eq word (codes "--") ≡ true → IsFault (fault_of store (word ∷ rest))
  unfolding walk_fault defaults_fault
  dashes_refused [] d = subst IsFault (sym (ap₂ found (later_fault _ _ (dashes_turn d)) (dashes_walk d))) tt
  dashes_refused (x ∷ xs) d = first_fault _ _ (subst IsFault (sym (later_fault _ _ (dashes_turn d) ∙ ap (λ (w : Walk). walk_fault top (names_of (built store)) w (x ∷ xs)) (dashes_walk d))) tt)

  unknown_agrees : (rest : List Text) → Agrees (word ∷ rest)
  unknown_agrees rest = inr (by_dashes (bytes_eq word (codes "--")) refl, means_nothing (arguments rest))
    where
      by_dashes : (d : Bool) → bytes_eq word (codes "--") ≡ d → IsFault (fault_of store (word ∷ rest))
      by_dashes true d = dashes_refused rest d
      by_dashes false d = turn_refused rest d

named : (name word : Text) (rest : List Text) → Agrees (name ∷ rest) → bytes_eq word name ≡ true → Agrees (word ∷ rest)
named name word rest a e = subst (λ (w : Text). Agrees (w ∷ rest)) (sym ((bytes_eq-Decides word name).0 e)) a

by_test : (name word : Text) (rest : List Text) → Agrees (name ∷ rest) → (bytes_eq word name ≡ false → Agrees (word ∷ rest)) → Agrees (word ∷ rest)
by_test name word rest a next = go (bytes_eq word name) refl
  where
    go : (b : Bool) → bytes_eq word name ≡ b → Agrees (word ∷ rest)
    go true e = named name word rest a e
    go false e = next e

pub agrees : (words : List Text) → AllText words → Agrees words
unfolding walk_fault defaults_fault
agrees [] text = inr (tt, refl)
agrees (word ∷ rest) text =
    by_test (codes "export") word rest (export_agrees rest text.1) (λ e1.
    by_test (codes "print") word rest (print_agrees rest text.1) (λ e2.
    by_test (codes "report") word rest (report_agrees rest text.1) (λ e3.
    by_test (codes "state") word rest (state_agrees rest text.1) (λ e4.
    by_test (codes "merge") word rest (merge_agrees rest text.1) (λ e5.
    by_test (codes "serve") word rest (serve_agrees rest text.1) (λ e6.
    by_test (codes "push") word rest (push_agrees rest text.1) (λ e7.
    by_test (codes "loop") word rest (loop_agrees rest text.1) (λ e8.
    unknown_agrees word text.0 e1 e2 e3 e4 e5 e6 e7 e8 rest))))))))
