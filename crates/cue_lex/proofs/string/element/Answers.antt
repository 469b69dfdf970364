use Rattle.std.proofs.Common.{◌≡◌, ◌+◌, drop, ap, sym, ◌∙◌, subst, arith, ◌<◌, get_or}
use Rattle.std.specs.Prelude.{slice_index}
use Rattle.std.specs.Char.{len_utf8}
use Rattle.std.specs.Str.{IsCharBoundary}
use Rattle.std.proofs.lemmas.Str.{IsCharBoundary-past_char, byte_from_char}
use Rattle.cue_lex.specs.Strings.{escape_sequence}
use Rattle.cue_lex.specs.Lexemes.{EndsAscii}
use Rattle.cue_lex.proofs.Bodies.{char_element, escape_element, escape_boundary, behind_first, IsRaw}
use Rattle.cue_lex.proofs.string.element.Goals as goal
use Rattle.cue_lex.proofs.string.element.Goals.{After-len_utf8, In_ok-meant}

raw : (c : After-len_utf8) → IsRaw c.in_ok-c.c
raw c =
    let split = sym c.chars.ensures.rest ∙ c.in_ok-c.ensures.steps.0 in
    let first : c.in_ok-c.c < 128 → slice_index c.args.text.now 0 ≡ c.in_ok-c.c = λ ascii. byte_from_char _ _ _ split ascii in
    record {
      no_quote = λ e. c.requires.no_quote (first (omega arith) ∙ e);
      no_break = λ e. c.requires.no_break (first (omega arith) ∙ e);
      no_backslash = c.if-c-ne92.true;
    }

pub returns-then-c-ne92-clause-found : goal.returns-then-c-ne92-clause-found
returns-then-c-ne92-clause-found c = char_element _ _ _ _ (sym c.chars.ensures.rest ∙ c.in_ok-c.ensures.steps.0) c.len_utf8.ensures.value (raw (goal.at.returns-then-c-ne92-clause-found c).After-len_utf8)

pub returns-then-c-ne92-clause-boundary : goal.returns-then-c-ne92-clause-boundary
returns-then-c-ne92-clause-boundary c =
    let value = c.len_utf8.ensures.value in
    let e : 0 + len_utf8 c.in_ok-c.c ≡ c.len_utf8.result = omega arith in
    subst (IsCharBoundary c.args.text.now) e (IsCharBoundary-past_char c.args.text.now _ 0 c.in_ok-c.c (omega arith) c.utf8.text (sym c.chars.ensures.rest ∙ c.in_ok-c.ensures.steps.0))

is_backslash : (c : In_ok-meant) → get_or c.args.text.now 0 0 ≡ 92
is_backslash c =
    let same : c.in_ok-c.c ≡ 92 = c.if-c-ne92.false in
    byte_from_char _ _ _ (sym c.chars.ensures.rest ∙ c.in_ok-c.ensures.steps.0) (omega arith) ∙ same

ends : (c : In_ok-meant) → EndsAscii (drop 1 c.args.text.now) c.in_ok-meant.width
ends c = subst (λ bytes. EndsAscii bytes c.in_ok-meant.width) (behind_first c.args.text.now c.as_bytes.result.now c.as_bytes.ensures.value) c.in_ok-meant.ensures.ends

pub returns-clause-found : goal.returns-clause-found
returns-clause-found c =
    let d = (goal.at.returns-clause-found c).In_ok-meant in
    escape_element c.args.text.now c.in_ok-meant.meant c.in_ok-meant.width c.requires.nonempty (is_backslash d)
    (ap escape_sequence (sym (behind_first c.args.text.now c.as_bytes.result.now c.as_bytes.ensures.value)) ∙ sym c.in_ok-meant.ensures.value)
    (ends d).within

pub returns-clause-boundary : goal.returns-clause-boundary
returns-clause-boundary c =
    let d = (goal.at.returns-clause-boundary c).In_ok-meant in
    escape_boundary c.args.text.now c.in_ok-meant.width c.utf8.text (ends d)
