use Rattle.std.proofs.Common.{◌++◌, ◌∙◌, ℕ, List, ap, inr, refl, sym, subst}
use Rattle.std.proofs.lemmas.Bool.{both_ways}
use Rattle.std.proofs.lemmas.Result.{IfErr-weaker}
use Rattle.cue_program.specs.Parts.{IsSeparator}
use Rattle.cue_program.specs.inner.Taking.{IsRefusedWithin, IsStopWithin, IsUnbroken}
use Rattle.cue_program.proofs.Takings.{line_ended, line_kept, line_read, taken_where_short}
use Rattle.cue_program.proofs.Unfinished.{separator_ended}
use Rattle.cue_program.proofs.stdin_splitter.StdinSplitter.end_line.Goals as goal

pub returns-then-is_separator-clause-taken : goal.returns-then-is_separator-clause-taken
returns-then-is_separator-clause-taken c front h =
    let is = c.in_ok-extend_from_slice.ensures.items in
    let ended = line_ended c.args.self.now front c.args.end.now c.extend_from_slice.new.self.items h c.requires is in
    c.end_part.ensures.taken (front ++ c.args.end.now)
    (line_read c.args.self.now _ front c.args.end.now h.read (record { gathered = refl; number = refl }) refl is)
    (separator_ended c.extend_from_slice.new.self.items ended (subst IsSeparator c.deref.ensures.value (c.is_separator.ensures.0 c.if-is_separator.true)))

pub returns-then-is_separator-clause-stop : goal.returns-then-is_separator-clause-stop
returns-then-is_separator-clause-stop c front h =
    let is = c.in_ok-extend_from_slice.ensures.items in
    let ended = line_ended c.args.self.now front c.args.end.now c.extend_from_slice.new.self.items h c.requires is in
    c.end_part.ensures.stop (front ++ c.args.end.now)
    (line_read c.args.self.now _ front c.args.end.now h.read (record { gathered = refl; number = refl }) refl is)
    (separator_ended c.extend_from_slice.new.self.items ended (subst IsSeparator c.deref.ensures.value (c.is_separator.ensures.0 c.if-is_separator.true)))

pub returns-clause-taken : goal.returns-clause-taken
returns-clause-taken c front h =
    let is = c.in_ok-extend_from_slice.ensures.items in
    let ended = line_ended c.args.self.now front c.args.end.now c.extend_from_slice.new.self.items h c.requires is in
    let bytes = front ++ c.args.end.now in
    taken_where_short _ bytes c.check_length.result
    (line_kept (record { gathered = c.args.self.now.gathered; number = c.args.self.now.number; part = c.args.self.now.part; line = c.extend_from_slice.new.self }) _ bytes
    (line_read c.args.self.now _ front c.args.end.now h.read (record { gathered = refl; number = refl }) refl is) ended
    (λ sep. both_ways c.is_separator.result c.if-is_separator.false (c.is_separator.ensures.1 (subst IsSeparator (sym c.deref.ensures.value) sep)))
    (record { gathered = refl; number = refl })
    (c.in_ok-extend_from_slice-2.ensures.items ∙ ap (λ (l : List ℕ). c.args.self.now.part.items ++ l) c.deref-2.ensures.value)
    c.clear.ensures.items)
    (subst IsUnbroken (sym c.clear.ensures.items) tt)
    c.check_length.ensures.short

pub returns-clause-stop : goal.returns-clause-stop
returns-clause-stop c front h =
    let is = c.in_ok-extend_from_slice.ensures.items in
    let ended = line_ended c.args.self.now front c.args.end.now c.extend_from_slice.new.self.items h c.requires is in
    let bytes = front ++ c.args.end.now in
    IfErr-weaker c.check_length.result (IsRefusedWithin bytes) (IsStopWithin bytes) (λ stop refused. inr refused)
    (c.check_length.ensures.long bytes
    (line_kept (record { gathered = c.args.self.now.gathered; number = c.args.self.now.number; part = c.args.self.now.part; line = c.extend_from_slice.new.self }) _ bytes
    (line_read c.args.self.now _ front c.args.end.now h.read (record { gathered = refl; number = refl }) refl is) ended
    (λ sep. both_ways c.is_separator.result c.if-is_separator.false (c.is_separator.ensures.1 (subst IsSeparator (sym c.deref.ensures.value) sep)))
    (record { gathered = refl; number = refl })
    (c.in_ok-extend_from_slice-2.ensures.items ∙ ap (λ (l : List ℕ). c.args.self.now.part.items ++ l) c.deref-2.ensures.value)
    c.clear.ensures.items)
    (subst IsUnbroken (sym c.clear.ensures.items) tt))
