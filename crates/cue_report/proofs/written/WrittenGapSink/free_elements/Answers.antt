use Rattle.std.proofs.Common.{◌≡◌, ◌∙◌, ◌++◌, ◌-◌, ◌≤◌, ℕ, List, Option, codes, ap, refl, subst, arith, string_bytes}
use Rattle.cue_lattice.specs.Path.{index, Path}
use Rattle.cue_report.specs.Inner.GapSearch.{gaps_above, free_elements}
use Rattle.cue_report.specs.Lines.{gap_line}
use Rattle.cue_report.specs.Telling.{Tally}
use Rattle.cue_report.specs.Inner.Telling.{WritesPieces, WritesPiecesPrefix}
use Rattle.cue_report.specs.Inner.Trail.{shown_steps}
use Rattle.cue_report.proofs.GapTelling.{one_more_free, one_begun_free, free_begun}
use Rattle.cue_report.proofs.Telling.{grows_none, grows_same, grows_from, starts_none, starts_whole}
use Rattle.cue_report.proofs.Texts.{element_line}
use Rattle.cue_report.proofs.Writing.{on_any}
use Rattle.cue_report.proofs.written.WrittenGapSink.free_elements.Goals as goal

abbrev at : ℕ → Option (List ℕ) → Tally ℕ
at count known = record { count = count; known = known }

-- what is told of so many free elements
abbrev lines : Path → ℕ → ℕ → List ℕ
lines path first count = gaps_above gap_line path (free_elements first count)

pub returns-then-first-end-clause-told : goal.returns-then-first-end-clause-told
returns-then-first-end-clause-told g c =
    let none : 0 ≡ c.args.end - c.args.first = omega arith in
    let start = at c.args.self.now.told (g.S.TextSink.taken c.args.out.now) in
    subst (λ n. WritesPieces start start (lines (shown_steps c.args.steps.now) c.args.first n)) none (grows_none start)

pub returns-in_err-list_path-clause-begun : goal.returns-in_err-list_path-clause-begun
returns-in_err-list_path-clause-begun g c = on_any _ (starts_none _ _ _ refl)

pub loop-number-init : goal.loop-number-init
loop-number-init g c =
    let none : 0 ≡ c.args.first - c.args.first = omega arith in
    let start = at c.args.self.now.told (g.S.TextSink.taken c.args.out.now) in
    let now = at c.list_path.new.self.told (g.S.TextSink.taken c.args.out.now) in
    record {
      reach = omega arith;
      list = c.in_ok-list_path.ensures.list;
      told = subst (λ n. WritesPieces start now (lines (shown_steps c.args.steps.now) c.args.first n)) none (grows_same start now c.list_path.ensures.told refl);
    }

pub loop-number-preserved : goal.loop-number-preserved
loop-number-preserved g c =
    let loop = c.loop-number in
    let path = shown_steps c.args.steps.now in
    let now = at loop.self.told (g.S.TextSink.taken loop.out) in
    let made = at c.element_line.new.self.told (g.S.TextSink.taken loop.out) in
    let after = at c.put_line.new.self.told (g.S.TextSink.taken c.put_line.new.out) in
    let text = c.in_ok-element_line.ensures.line ∙ ap (λ rest. codes "incomplete " ++ rest) (element_line path (index loop.number) (string_bytes loop.self.list) (codes "not a single value") loop.invariant.list) in
    record {
      reach = omega arith;
      list = c.in_ok-put_line.ensures.list ∙ c.in_ok-element_line.ensures.list ∙ loop.invariant.list;
      told = one_more_free gap_line c.args.first loop.number (at c.args.self.now.told (g.S.TextSink.taken c.args.out.now)) now after path loop.auto.number loop.invariant.told
          (grows_from now made after _ c.element_line.ensures.told refl (subst (λ t. WritesPieces made after t) text c.in_ok-put_line.ensures.told));
    }

pub returns-in_err-element_line-clause-begun : goal.returns-in_err-element_line-clause-begun
returns-in_err-element_line-clause-begun g c =
    let loop = c.loop-number in
    let path = shown_steps c.args.steps.now in
    let start = at c.args.self.now.told (g.S.TextSink.taken c.args.out.now) in
    let now = at loop.self.told (g.S.TextSink.taken loop.out) in
    let made = at c.element_line.new.self.told (g.S.TextSink.taken loop.out) in
    let low : loop.number - c.args.first ≤ c.args.end - c.args.first = omega (arith, c.loop-number-test.true) in
    let so_far = free_begun gap_line c.args.first (loop.number - c.args.first) (c.args.end - c.args.first) start now path low (starts_whole start now (lines path c.args.first (loop.number - c.args.first)) loop.invariant.told) in
    let all : WritesPiecesPrefix start made (lines path c.args.first (c.args.end - c.args.first)) = record { front = so_far.front; back = so_far.back; whole = so_far.whole; added = so_far.added } in
    on_any _ all

pub returns-in_err-put_line-clause-begun : goal.returns-in_err-put_line-clause-begun
returns-in_err-put_line-clause-begun g c =
    let loop = c.loop-number in
    let path = shown_steps c.args.steps.now in
    let now = at loop.self.told (g.S.TextSink.taken loop.out) in
    let made = at c.element_line.new.self.told (g.S.TextSink.taken loop.out) in
    let after = at c.put_line.new.self.told (g.S.TextSink.taken c.put_line.new.out) in
    let text = c.in_ok-element_line.ensures.line ∙ ap (λ rest. codes "incomplete " ++ rest) (element_line path (index loop.number) (string_bytes loop.self.list) (codes "not a single value") loop.invariant.list) in
    let begun = subst (λ t. WritesPiecesPrefix made after t) text c.in_err-put_line.ensures.begun in
    on_any _ (one_begun_free gap_line c.args.first loop.number c.args.end (at c.args.self.now.told (g.S.TextSink.taken c.args.out.now)) now after path loop.auto.number (omega (arith, c.loop-number-test.true)) loop.invariant.told
    (record { front = begun.front; back = begun.back; whole = begun.whole; added = begun.added }))

pub returns-clause-told : goal.returns-clause-told
returns-clause-told g c =
    let loop = c.loop-number in
    let start = at c.args.self.now.told (g.S.TextSink.taken c.args.out.now) in
    let now = at loop.self.told (g.S.TextSink.taken loop.out) in
    let all : loop.number - c.args.first ≡ c.args.end - c.args.first = omega arith in
    subst (λ n. WritesPieces start now (lines (shown_steps c.args.steps.now) c.args.first n)) all loop.invariant.told
