use Rattle.std.proofs.Common.{◌≡◌, ◌<◌, true, refl, ap, sym, ◌∙◌, subst, arith, rules, lit<, get_or}
use Rattle.std.specs.Prelude.{not, ◌==◌}
use Rattle.std.specs.List.{prefix_len}
use Rattle.std.specs.Str.{IsCharBoundary}
use Rattle.std.proofs.lemmas.Str.{IsCharBoundary-after_ascii}
use Rattle.std.specs.Char.{is_ascii_alphabetic}
use Rattle.cue_lex.specs.Marks.{mark_in_front}
use Rattle.cue_lex.specs.Lexemes.{EndsAscii, lex_name}
use Rattle.cue_lex.proofs.Fronts.{ends_boundary, found_boundary, boundary_three, line_boundary}
use Rattle.cue_lex.proofs.FirstBytes.{gives_same, some_of, lexeme_letter, lexeme_mark, run_letter}
use Rattle.cue_lex.proofs.Beginning.{integer_told, name_told}
use Rattle.cue_lex.proofs.lexeme.lexeme_at.Goals as goal
use Rattle.cue_lex.proofs.lexeme.lexeme_at.Goals.{After-run_len}

pub returns-in-32-clause-boundary : goal.returns-in-32-clause-boundary
returns-in-32-clause-boundary c =
    let same = ap (λ bytes. get_or bytes 0 0) c.as_bytes-bytes.ensures.value in
    let is = c.in-32.is in
    IsCharBoundary-after_ascii c.args.text.now 0 c.utf8.text c.requires.nonempty (omega arith)

pub returns-in-10-clause-boundary : goal.returns-in-10-clause-boundary
returns-in-10-clause-boundary c =
    let same = ap (λ bytes. get_or bytes 0 0) c.as_bytes-bytes.ensures.value in
    let is = c.in-10.is in
    IsCharBoundary-after_ascii c.args.text.now 0 c.utf8.text c.requires.nonempty (omega arith)

pub returns-in-34-clause-boundary : goal.returns-in-34-clause-boundary
returns-in-34-clause-boundary c = found_boundary c.args.text.now c.args.text.now refl c.utf8.text c.string.result c.string.ensures.ends

pub returns-in-48-to-57-clause-boundary : goal.returns-in-48-to-57-clause-boundary
returns-in-48-to-57-clause-boundary c = found_boundary c.as_bytes-bytes.result.now c.args.text.now c.as_bytes-bytes.ensures.value c.utf8.text c.integer.result c.integer.ensures.ends

pub returns-then-starts_with-clause-boundary : goal.returns-then-starts_with-clause-boundary
returns-then-starts_with-clause-boundary c =
    subst (IsCharBoundary c.args.text.now) (sym (c.line_len.ensures ∙ ap (prefix_len (λ b. not (b == 10))) c.as_bytes-bytes.ensures.value)) (line_boundary c.args.text.now)

pub returns-then-starts_with-2-clause-boundary : goal.returns-then-starts_with-2-clause-boundary
returns-then-starts_with-2-clause-boundary c = boundary_three 95 124 95 c.args.text.now c.utf8.text (lit< tt) (search rules)

pub returns-in-Some-clause-boundary : goal.returns-in-Some-clause-boundary
returns-in-Some-clause-boundary c = ends_boundary c.args.text.now c.in-Some.len c.utf8.text (subst (λ bytes. EndsAscii bytes c.in-Some.len) c.as_bytes-bytes.ensures.value c.in-Some.ensures.ends)

pub returns-in-Some-clause-gives : goal.returns-in-Some-clause-gives
returns-in-Some-clause-gives c = lexeme_mark c.args.after_minus c.args.at c.args.text.now c.in-Some.mark c.in-Some.len c.utf8.text (ap mark_in_front (sym c.as_bytes-bytes.ensures.value) ∙ sym c.mark.ensures.value ∙ c.in-Some.is)

is_letter_first : (c : After-run_len) → is_ascii_alphabetic (get_or c.args.text.now 0 0) ≡ true
is_letter_first c = ap (λ bytes. is_ascii_alphabetic (get_or bytes 0 0)) (sym c.as_bytes-bytes.ensures.value) ∙ sym c.is_ascii_alphabetic.ensures.value ∙ c.if-is_ascii_alphabetic.true

some_run : (c : After-run_len) → 0 < c.run_len.result
some_run c =
    let some = run_letter c.args.text.now c.utf8.text c.requires.nonempty (is_letter_first c) in
    let same = c.run_len.ensures.value in
    omega arith

pub name-requires-clause-nonempty : goal.name-requires-clause-nonempty
name-requires-clause-nonempty c = some_run (goal.at.name-requires-clause-nonempty c).After-run_len

pub returns-then-is_ascii_alphabetic-clause-gives : goal.returns-then-is_ascii_alphabetic-clause-gives
returns-then-is_ascii_alphabetic-clause-gives c =
    gives_same _ _
    (lexeme_letter c.args.after_minus c.args.at c.args.text.now c.utf8.text c.requires.nonempty (is_letter_first (goal.at.returns-then-is_ascii_alphabetic-clause-gives c).After-run_len)
    ∙ ap (λ len. lex_name c.args.at len c.args.text.now) (sym c.run_len.ensures.value) ∙ sym c.name.ensures.value)

pub returns-then-is_ascii_alphabetic-clause-some : goal.returns-then-is_ascii_alphabetic-clause-some
returns-then-is_ascii_alphabetic-clause-some c =
    some_of c.name.result c.run_len.result (some_run (goal.at.returns-then-is_ascii_alphabetic-clause-some c).After-run_len) c.name.ensures.len

pub returns-in-48-to-57-clause-memory : goal.returns-in-48-to-57-clause-memory
returns-in-48-to-57-clause-memory c = integer_told _ c.args.after_minus c.args.at c.as_bytes-bytes.result.now c.integer.result c.integer.ensures.value

pub returns-then-is_ascii_alphabetic-clause-memory : goal.returns-then-is_ascii_alphabetic-clause-memory
returns-then-is_ascii_alphabetic-clause-memory c = name_told _ c.args.at c.run_len.result c.args.text.now c.name.result c.name.ensures.value

pub returns-in_default-identifier_len-clause-memory : goal.returns-in_default-identifier_len-clause-memory
returns-in_default-identifier_len-clause-memory c = name_told _ c.args.at c.identifier_len.result c.args.text.now c.name-in_default-identifier_len.result c.name-in_default-identifier_len.ensures.value
