use Rattle.std.proofs.Common.{◌≡◌, ◌<◌, ◌⊎◌, inl, inr, length, ap, ◌∙◌, arith, get_or}
use Rattle.std.specs.List.{prefix_len}
use Rattle.std.proofs.lemmas.List.Sums.{prefix_len-le-length}
use Rattle.cue_lex.specs.Characters.{is_ascii_part}
use Rattle.cue_lex.specs.Names.{run_len}
use Rattle.cue_lex.proofs.Words.{ascii_run, ascii_stops, run_boundary}
use Rattle.cue_lex.proofs.name.run_len.Goals as goal
use Rattle.cue_lex.proofs.name.run_len.Goals.{then-ascii-bytes-via-then-ascii-bytes, then-ascii-bytes-via-else-ascii-bytes+then-bytes-ascii-lt128}

pub bounds-bytes-ascii : goal.bounds-bytes-ascii
bounds-bytes-ascii c = let within = prefix_len-le-length is_ascii_part c.as_bytes-bytes.result.now in omega arith

pub returns-then-ascii-bytes-clause-value : goal.returns-then-ascii-bytes-clause-value
returns-then-ascii-bytes-clause-value c =
    let same = c.as_bytes-bytes.ensures.value in
    let is : c.ascii_len-ascii.result ≡ prefix_len is_ascii_part c.args.text.now = c.ascii_len-ascii.ensures ∙ ap (prefix_len is_ascii_part) same in
    let size = ap length same in
    let first = ap (λ bytes. get_or bytes c.ascii_len-ascii.result 0) same in
    let ends : (c.ascii_len-ascii.result ≡ length c.args.text.now) ⊎ (get_or c.args.text.now c.ascii_len-ascii.result 0 < 128) =
    elim c.then-ascii-bytes.branch [
      | then-ascii-bytes-via-then-ascii-bytes w ↦ inl (omega arith)
      | then-ascii-bytes-via-else-ascii-bytes+then-bytes-ascii-lt128 w ↦ inr (omega arith)
    ] in
    ascii_stops c.args.text.now c.ascii_len-ascii.result c.utf8.text is ends

pub returns-then-ascii-bytes-clause-boundary : goal.returns-then-ascii-bytes-clause-boundary
returns-then-ascii-bytes-clause-boundary c =
    run_boundary (ascii_run c.args.text.now c.ascii_len-ascii.result c.utf8.text (c.ascii_len-ascii.ensures ∙ ap (prefix_len is_ascii_part) c.as_bytes-bytes.ensures.value))

pub returns-clause-value : goal.returns-clause-value
returns-clause-value c =
    let run = ascii_run c.args.text.now c.ascii_len-ascii.result c.utf8.text (c.ascii_len-ascii.ensures ∙ ap (prefix_len is_ascii_part) c.as_bytes-bytes.ensures.value) in
    let more = c.wide_len.ensures.value ∙ ap run_len c.range_from.ensures.value in
    omega (arith, run.total)

pub range_from-requires : goal.range_from-requires
range_from-requires c = λ _.
    run_boundary (ascii_run c.args.text.now c.ascii_len-ascii.result c.utf8.text (c.ascii_len-ascii.ensures ∙ ap (prefix_len is_ascii_part) c.as_bytes-bytes.ensures.value))
