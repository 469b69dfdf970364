-- Texts that a site takes while they are read.
use Rattle.std.proofs.Common.{◌≡◌, ◌⊎◌, inl, inr, ℕ, ◌+◌, ◌-◌, ◌^◌, ◌<◌, ◌≤◌, min, true, false, Option, Some, None, Result, Ok, Err, OnOk, List, [], ◌∷◌, ◌++◌, length, map, arith, refl, sym, ap, subst, ◌∙◌}
use Rattle.std.specs.Prelude.{codes}
use Rattle.std.specs.Option.{is_some}
use Rattle.std.proofs.lemmas.Bool.{false≢true}
use Rattle.std.proofs.lemmas.List.{append_assoc, append-nil, length-append, map_push}
use Rattle.cue_lattice.specs.World.{Piece, text}
use Rattle.cue_replica.specs.Accepted.{IsOfPieces, text_limit, refusal_at}
use Rattle.cue_replica.specs.Language.{Table, language}
use Rattle.cue_replica.specs.declared.Kind.{Kind}
use Rattle.cue_replica.specs.declared.Kind.TheVariants as kinds
use Rattle.cue_replica.specs.declared.Refusal.{Refusal}
use Rattle.cue_program.specs.Inputs.{IsTextInputRefusal}
use Rattle.cue_program.specs.Parts.{IsFirstPart, IsSeparator}
use Rattle.cue_program.specs.Stops.{IsMemoryStop, IsRefusedAs}
use Rattle.cue_program.specs.inner.Gathered.{IsGathered}
use Rattle.cue_program.specs.inner.Taking.{HasRead, HasTaken, IsLineEnd, IsOpenOr, IsRefusedWithin, IsStopWithin, IsUnbroken}
use Rattle.cue_program.specs.inner.Texts.{AreFirstParts, HasTakenParts, IsTextRefused}
use Rattle.cue_program.specs.declared.stop.RunError.{RunError}
use Rattle.cue_program.specs.declared.stop.RunError.TheVariants as stops
use Rattle.cue_program.specs.declared.batch.SiteBatch.{SiteBatch}
use Rattle.cue_program.specs.declared.stdin_splitter.StdinSplitter.{StdinSplitter}
use Rattle.cue_program.proofs.Batches.{all_legal, of_texts}
use Rattle.cue_program.proofs.Texts.{counted, next_part, part_refused, so_far_more}
use Rattle.cue_program.proofs.Unfinished.{end_behind, first_is_long, line_first, no_lines, one_line_more, unbroken_more}

-- the old site with another unfinished part
pub record IsSameSite (old new : StdinSplitter) : Type 0 where
  pub gathered : new.gathered ≡ old.gathered
  pub number : new.number ≡ old.number

-- a new site has taken nothing
pub taken_none : (taken : StdinSplitter) → IsGathered taken.gathered [] → taken.number ≡ 0 → taken.part.items ≡ [] → taken.line.items ≡ [] → HasTaken taken []
taken_none taken none number part line = record {
  read = record {
    done = [];
    texts = none;
    counted = number;
    rest = λ more. rw (part, line) (λ parts are. are);
    whole = rw part no_lines;
  };
  unbroken = rw line tt;
  short = omega (arith, ap (λ (l : List ℕ). length l) part, ap (λ (l : List ℕ). length l) line);
}

-- the line goes on
pub line_read :
    (old new : StdinSplitter) (bytes piece : List ℕ) → HasRead old bytes → IsSameSite old new → new.part.items ≡ old.part.items
    → new.line.items ≡ old.line.items ++ piece → HasRead new (bytes ++ piece)
line_read old new bytes piece h same part line = record {
  done = h.done;
  texts = subst (λ (t : SiteBatch). IsGathered t (map text h.done)) (sym same.gathered) h.texts;
  counted = same.number ∙ h.counted;
  rest = λ more. rw (append_assoc bytes piece more, part, line, append_assoc old.line.items piece more) (h.rest (piece ++ more));
  whole = rw part h.whole;
}

-- a line that doesn't separate belongs to the part
pub line_kept :
    (old new : StdinSplitter) (bytes : List ℕ) → HasRead old bytes → IsLineEnd old.line.items → (IsSeparator old.line.items → ⊥) → IsSameSite old new
    → new.part.items ≡ old.part.items ++ old.line.items → new.line.items ≡ [] → HasRead new bytes
line_kept old new bytes h ended other same part line = record {
  done = h.done;
  texts = subst (λ (t : SiteBatch). IsGathered t (map text h.done)) (sym same.gathered) h.texts;
  counted = same.number ∙ h.counted;
  rest = λ more. rw (part, line, append_assoc old.part.items old.line.items more) (h.rest more);
  whole = rw part (one_line_more old.part.items old.line.items h.whole ended other);
}

first_ends : (taken : StdinSplitter) (bytes more : List ℕ) → HasRead taken bytes → taken.line.items ≡ codes "---\n"
    → IsFirstPart (taken.part.items ++ (taken.line.items ++ more)) taken.part.items (Some more)
first_ends taken bytes more h is = (
  h.whole.lines,
  taken.line.items,
  h.whole.part,
  h.whole.joined,
  inl is,
  refl,
  h.whole.behind (taken.line.items ++ more)
      ∙ ap (λ (ls : List (List ℕ)). h.whole.lines ++ ls) (line_first taken.line.items more (45 ∷ 45 ∷ 45 ∷ [], (refl, (refl, (refl, tt))), is)),
)

-- the part is finished, and was taken
pub part_taken :
    (old new : StdinSplitter) (bytes : List ℕ) (h : HasRead old bytes) → old.line.items ≡ codes "---\n" → new.number ≡ min (old.number + 1) (2 ^ 64 - 1)
    → IsGathered new.gathered (map text h.done ++ text old.part.items ∷ [])
    → new.part.items ≡ [] → new.line.items ≡ [] → HasTaken new bytes
part_taken old new bytes h is next gathered part line = record {
  read = record {
    done = h.done ++ old.part.items ∷ [];
    texts = subst (IsGathered new.gathered) (sym (map_push text h.done old.part.items)) gathered;
    counted = counted h.done old.part.items old.number new.number h.counted next
        ∙ ap (λ n. min n (2 ^ 64 - 1)) (sym (length-append h.done (old.part.items ∷ [])));
    rest = λ more.
        let all = old.part.items ++ (old.line.items ++ more) in
        rw (part, line) (so_far_more (bytes ++ more) all old.part.items h.done (Some more) (h.rest more)
        (next_part all old.part.items (Some more) (first_ends old bytes more h is)));
    whole = rw part no_lines;
  };
  unbroken = rw line tt;
  short = omega (arith, ap (λ (l : List ℕ). length l) part, ap (λ (l : List ℕ). length l) line);
}

-- the part is finished, and was refused, or memory ran out
pub part_stops :
    (old : StdinSplitter) (bytes part : List ℕ) (number : ℕ) (stop : RunError) → HasRead old bytes → old.line.items ≡ codes "---\n"
    → number ≡ min (old.number + 1) (2 ^ 64 - 1) → part ≡ old.part.items
    → (IsMemoryStop stop ⊎ ((why : Refusal) × IsRefusedAs why number stop × IsTextInputRefusal part why)) → IsStopWithin bytes stop
part_stops old bytes part number stop h is next same (inl memory) = inl memory
part_stops old bytes part number stop h is next same (inr fault) = inr (λ more.
    let all = old.part.items ++ (old.line.items ++ more) in
    part_refused language.IsLegal IsTextInputRefusal (bytes ++ more) all old.part.items h.done number (Some more) stop (all_legal old.gathered.site old.gathered.batch h.done h.texts) (h.rest more)
    (first_ends old bytes more h is) (counted h.done old.part.items old.number number h.counted next)
    (subst (λ (t : List ℕ). (why : Refusal) × IsRefusedAs why number stop × IsTextInputRefusal t why) same fault))

-- the part is too long, whatever follows
pub long_stops :
    (taken : StdinSplitter) (bytes : List ℕ) (why : Refusal) (number : ℕ) → HasRead taken bytes → IsUnbroken taken.line.items
    → text_limit + 4 < length taken.part.items + length taken.line.items → why ≡ refusal_at kinds.TooLong text_limit
    → number ≡ min (taken.number + 1) (2 ^ 64 - 1) → (stop : RunError) → IsRefusedAs why number stop → IsRefusedWithin bytes stop
long_stops taken bytes why number h plain less is next stop told = λ more.
    let long = first_is_long taken.part.items taken.line.items more h.whole plain less in (
      h.done,
      long.0,
      long.1,
      h.rest more (long.0 ∷ long.1) long.2,
      all_legal taken.gathered.site taken.gathered.batch h.done h.texts,
      (why, subst (λ (n : ℕ). IsRefusedAs why n stop) (counted h.done long.0 taken.number number h.counted next) told, inl (inl (long.3, is))),
    )

-- more may follow what was refused
pub refused_more : (bytes piece : List ℕ) (stop : RunError) → IsRefusedWithin bytes stop → IsRefusedWithin (bytes ++ piece) stop
refused_more bytes piece stop h = λ more. rw (append_assoc bytes piece more) (h (piece ++ more))

-- and nothing
pub refused_whole : (bytes : List ℕ) (stop : RunError) → IsRefusedWithin bytes stop → IsTextRefused bytes stop
refused_whole bytes stop h = subst (λ (b : List ℕ). IsTextRefused b stop) (append-nil bytes) (h [])

-- at the end the unfinished part is the rest
pub rest_at_end :
    (taken : StdinSplitter) (bytes rest : List ℕ) (site : Table) → HasRead taken bytes
    → ((pieces : List Piece) → IsGathered taken.gathered pieces → IsOfPieces site pieces) → rest ≡ taken.part.items ++ taken.line.items
    → HasTakenParts bytes site taken.number (Some rest)
rest_at_end taken bytes rest site h gathered is = (
  h.done,
  of_texts site h.done (gathered (map text h.done) h.texts),
  subst (λ (b : List ℕ). AreFirstParts b h.done (Some rest)) (append-nil bytes)
      (subst (λ (r : List ℕ). AreFirstParts (bytes ++ []) h.done (Some r))
      (ap (λ (l : List ℕ). taken.part.items ++ l) (append-nil taken.line.items) ∙ sym is) (h.rest [])),
  h.counted,
)

-- the line was read to its end
pub line_ended : (old : StdinSplitter) (bytes end line : List ℕ) → HasTaken old bytes → IsLineEnd end → line ≡ old.line.items ++ end → IsLineEnd line
line_ended old bytes end line h ended is = subst IsLineEnd (sym is) (end_behind old.line.items end h.unbroken ended)

-- with more of the line it is still not ended
pub line_plain : (old : StdinSplitter) (bytes piece line : List ℕ) → HasTaken old bytes → IsUnbroken piece → line ≡ old.line.items ++ piece → IsUnbroken line
line_plain old bytes piece line h plain is = subst IsUnbroken (sym is) (unbroken_more old.line.items piece h.unbroken plain)

-- what is not too long is kept
pub taken_where_short :
    {T E : Type 0} (taken : StdinSplitter) (bytes : List ℕ) (result : Result T E) → HasRead taken bytes → IsUnbroken taken.line.items
    → OnOk result (length taken.part.items + length taken.line.items ≤ text_limit + 4) → OnOk result (HasTaken taken bytes)
taken_where_short taken bytes (Ok done) h plain short = record { read = h; unbroken = plain; short = short }
taken_where_short taken bytes (Err fault) h plain short = tt

-- some pieces of the input were read, and the rest was not
abbrev pub IsTakenUpTo : StdinSplitter → List ℕ → List ℕ → List ℕ → Type 0
IsTakenUpTo taken front piece rest = (done : List ℕ) × (piece ≡ done ++ rest) × HasTaken taken (front ++ done)

pub up_to_none : (taken : StdinSplitter) (front piece : List ℕ) → HasTaken taken front → IsTakenUpTo taken front piece piece
up_to_none taken front piece h = ([], refl, subst (HasTaken taken) (sym (append-nil front)) h)

pub up_to_more :
    (old new : StdinSplitter) (front piece rest end after : List ℕ) (h : IsTakenUpTo old front piece rest) → rest ≡ end ++ after
    → HasTaken new ((front ++ h.0) ++ end) → IsTakenUpTo new front piece after
up_to_more old new front piece rest end after h cut taken = (
  h.0 ++ end,
  h.1 ∙ ap (λ (r : List ℕ). h.0 ++ r) cut ∙ sym (append_assoc h.0 end after),
  subst (HasTaken new) (append_assoc front h.0 end) taken,
)

-- all that was read, where nothing is left
up_to_all : (front piece done rest : List ℕ) → piece ≡ done ++ rest → (front ++ done) ++ rest ≡ front ++ piece
up_to_all front piece done rest is = append_assoc front done rest ∙ ap (λ (p : List ℕ). front ++ p) (sym is)

-- the rest of the piece belongs to the line
pub rest_read :
    (old new : StdinSplitter) (front piece rest : List ℕ) (h : IsTakenUpTo old front piece rest) → IsSameSite old new → new.part.items ≡ old.part.items
    → new.line.items ≡ old.line.items ++ rest → HasRead new (front ++ piece)
rest_read old new front piece rest h same part line =
    subst (HasRead new) (up_to_all front piece h.0 rest h.1) (line_read old new (front ++ h.0) rest h.2.read same part line)

-- more may follow what ended the run
pub stop_more :
    (taken : StdinSplitter) (front piece rest end after : List ℕ) (stop : RunError) (h : IsTakenUpTo taken front piece rest) → rest ≡ end ++ after
    → IsStopWithin ((front ++ h.0) ++ end) stop → IsStopWithin (front ++ piece) stop
stop_more taken front piece rest end after stop h cut (inl memory) = inl memory
stop_more taken front piece rest end after stop h cut (inr refused) =
    inr (subst (λ (b : List ℕ). IsRefusedWithin b stop)
    (append_assoc (front ++ h.0) end after ∙ ap (λ (r : List ℕ). (front ++ h.0) ++ r) (sym cut) ∙ up_to_all front piece h.0 rest h.1)
    (refused_more ((front ++ h.0) ++ end) after stop refused))

-- a text was refused before this piece
pub still_refused : (taken : StdinSplitter) (refused : Option RunError) (front piece : List ℕ) → is_some refused ≡ true → IsOpenOr refused taken front → IsOpenOr refused taken (front ++ piece)
still_refused taken None front piece is h = absurd (false≢true is)
still_refused taken (Some stop) front piece is h = refused_more front piece stop h

-- none was
pub none_refused : (taken : StdinSplitter) (refused : Option RunError) (front : List ℕ) → is_some refused ≡ false → IsOpenOr refused taken front → HasTaken taken front
none_refused taken None front is h = h
none_refused taken (Some stop) front is h = absurd (false≢true (sym is))

-- a refusal of an input is no want of memory
pub refusal_stops : (bytes : List ℕ) (why : Refusal) (number : ℕ) → IsStopWithin bytes (stops.RefusedInput why number) → IsRefusedWithin bytes (stops.RefusedInput why number)
refusal_stops bytes why number (inl is) = absurd (no_memory is)
  where
    no_memory : stops.RefusedInput why number ≡ stops.Refused kinds.Memory → ⊥
    no_memory is = cc
refusal_stops bytes why number (inr refused) = refused

-- what stops it beside a refused text is want of memory
told_within : (bytes : List ℕ) (stop : RunError) → IsRefusedWithin bytes stop → (why : Refusal) × (number : ℕ) × (stop ≡ stops.RefusedInput why number)
told_within bytes stop refused =
    let told = refused [] in
    (told.5.0, _, told.5.1)

pub memory_within : (bytes : List ℕ) (kind : Kind) → IsStopWithin bytes (stops.Refused kind) → IsMemoryStop (stops.Refused kind)
memory_within bytes kind (inl is) = is
memory_within bytes kind (inr refused) =
    let told = told_within bytes (stops.Refused kind) refused in
    absurd (other told.0 told.1 told.2)
  where
    other : (why : Refusal) (number : ℕ) → stops.Refused kind ≡ stops.RefusedInput why number → ⊥
    other why number is = cc

pub never_device : (bytes : List ℕ) → IsStopWithin bytes stops.Device → IsMemoryStop stops.Device
never_device bytes (inl is) = is
never_device bytes (inr refused) =
    let told = told_within bytes stops.Device refused in
    absurd (other told.0 told.1 told.2)
  where
    other : (why : Refusal) (number : ℕ) → stops.Device ≡ stops.RefusedInput why number → ⊥
    other why number is = cc
