use Rattle.std.proofs.Common.{◌≡◌, ℕ, List, take, sym, subst, arith}
use Rattle.std.proofs.lemmas.List.{take_all}
use Rattle.cue_journal.specs.Blocks.{recovered_pieces, StandsFor}
use Rattle.cue_journal.proofs.Written.{read_whole}
use Rattle.cue_journal.proofs.entries.entries_in.Goals as goal

pub returns-then-end-bytes-clause-written : goal.returns-then-end-bytes-clause-written
returns-then-end-bytes-clause-written c = λ entries fit is.
    absurd (omega (arith, read_whole entries c.args.bytes.now c.in_ok-entries.end fit is c.in_ok-entries.ensures.end))

pub returns-clause-whole : goal.returns-clause-whole
returns-clause-whole c =
    let all : take c.in_ok-entries.end c.args.bytes.now ≡ c.args.bytes.now = take_all c.in_ok-entries.end c.args.bytes.now (omega arith) in
    subst (λ (l : List (List ℕ)). StandsFor c.args.bytes.now l) (sym c.in_ok-entries.ensures.pieces)
    (subst (λ (l : List ℕ). StandsFor l (recovered_pieces c.args.bytes.now)) all c.in_ok-entries.ensures.end.front)
