-- The inputs that requests hand in so far.
use Rattle.std.proofs.Common.{◌≡◌, ◌≢◌, ◌⊎◌, Result, Ok, Err, IfOk, IfErr, OnOk, ℕ, suc, ◌+◌, ◌-◌, ◌^◌, ◌≤◌, min, List, [], ◌∷◌, ◌++◌, Option, Some, None, map, length, refl, sym, ap, ◌∙◌, subst, inl, inr}
use Rattle.std.specs.Prelude.{slice_get}
use Rattle.std.specs.List.{AllByRecursion}
use Rattle.std.proofs.lemmas.List.{map_push}
use Rattle.cue_lattice.specs.World.{text, state}
use Rattle.cue_replica.proofs.Along.{along_push}
use Rattle.cue_wire.specs.declared.request.Request as requests
use Rattle.cue_wire.specs.Clients.{request_of_client}
use Rattle.cue_wire.specs.Requests as asking
use Rattle.cue_program.specs.Files.{AreAll}
use Rattle.cue_program.specs.Inputs.{AreStreamPieces, InputGives, IsByteFault, IsTextInput, files, stream}
use Rattle.cue_program.specs.Parts.{IsFirstPart}
use Rattle.cue_program.specs.Requests.{AreRequests, CanBeSent, IsRequestFault, IsUnsentOn, request_for}
use Rattle.cue_program.specs.Stops.{IsLongStop, IsMemoryStop, IsUnreadable, read_limit}
use Rattle.cue_program.specs.declared.stop.RunError.{RunError}
use Rattle.cue_program.specs.inner.Sending.{AreTextRequests, IsFileRequest, IsFileUnsent, IsNoText, IsPartUnsent}
use Rattle.cue_program.specs.inner.Texts.{AreFirstParts}
use Rattle.cue_program.proofs.SubmittedInputs.{all_texts, files_first_refused, files_unread}
use Rattle.cue_program.proofs.Streams.{parts_refused, refused_of_known}
use Rattle.cue_program.proofs.Texts.{next_part, part_refused, so_far_more}

all_push : {X : Type 0} (P : X → Type 0) (xs : List X) (x : X) → AllByRecursion P xs → P x → AllByRecursion P (xs ++ x ∷ [])
all_push P [] x h p = (p, tt)
all_push P (y ∷ xs) x h p = (h.0, all_push P xs x h.1 p)

length_mapped : {X Y : Type 0} (f : X → Y) (xs : List X) → length (map f xs) ≡ length xs
length_mapped f [] = refl
length_mapped f (x ∷ xs) = ap suc (length_mapped f xs)

-- requests that mean what others mean are as many
same_length : {X : Type 0} (f : X → asking.Request) (asked : List requests.Request) (xs : List X) → map request_of_client asked ≡ map f xs → length asked ≡ length xs
same_length f asked xs same = sym (length_mapped request_of_client asked) ∙ (ap (λ (rs : List asking.Request). length rs) same ∙ length_mapped f xs)

numbered : {X : Type 0} (f : X → asking.Request) (asked : List requests.Request) (xs : List X) (number : ℕ) → map request_of_client asked ≡ map f xs
    → number ≡ min (length asked + 1) (2 ^ 64 - 1) → number ≡ min (length xs + 1) (2 ^ 64 - 1)
numbered f asked xs number same is = is ∙ ap (λ n. min (n + 1) (2 ^ 64 - 1)) (same_length f asked xs same)

one_more :
    {X : Type 0} (f : X → asking.Request) (asked : List requests.Request) (request : requests.Request) (xs : List X) (x : X) → map request_of_client asked ≡ map f xs
    → request_of_client request ≡ f x → map request_of_client (asked ++ request ∷ []) ≡ map f (xs ++ x ∷ [])
one_more f asked request xs x same means =
    map_push request_of_client asked request
    ∙ (ap (λ (rs : List asking.Request). rs ++ request_of_client request ∷ []) same
    ∙ (ap (λ r. map f xs ++ r ∷ []) means ∙ sym (map_push f xs x)))

-- the requests hand in these parts, of which each is a text
abbrev pub Sends : List ℕ → List requests.Request → Option (List ℕ) → Type 0
Sends bytes asked rest =
    (parts : List (List ℕ)) × AllByRecursion IsTextInput parts × AreFirstParts bytes parts rest × (map request_of_client asked ≡ map asking.text parts)

pub sends_none : (bytes : List ℕ) → Sends bytes [] (Some bytes)
sends_none bytes = ([], tt, (λ parts are. are), refl)

pub sends_more :
    (bytes rest part : List ℕ) (asked : List requests.Request) (request : requests.Request) (after : Option (List ℕ)) → Sends bytes asked (Some rest)
    → IsFirstPart rest part after → IsTextInput part → request_of_client request ≡ asking.text part → Sends bytes (asked ++ request ∷ []) after
sends_more bytes rest part asked request after s first is means = (
  s.0 ++ part ∷ [],
  all_push IsTextInput s.0 part s.1 is,
  so_far_more bytes rest part s.0 after s.2 (next_part rest part after first),
  one_more asking.text asked request s.0 part s.3 means,
)

pub sends_all : (bytes : List ℕ) (asked : List requests.Request) → Sends bytes asked None → AreTextRequests bytes asked
sends_all bytes asked s = (s.0, s.2, s.1, s.3)

pub sends_not :
    (bytes rest part : List ℕ) (asked : List requests.Request) (number : ℕ) (after : Option (List ℕ)) (stop : RunError) → Sends bytes asked (Some rest)
    → IsFirstPart rest part after → number ≡ min (length asked + 1) (2 ^ 64 - 1) → IsNoText part number stop → IsPartUnsent bytes stop
sends_not bytes rest part asked number after stop s first is fault =
    inl (part_refused IsTextInput IsByteFault bytes rest part s.0 number after stop s.1 s.2 first (numbered asking.text asked s.0 number s.3 is) fault)

-- the pieces of a reader's bytes
for_texts : (parts : List (List ℕ)) → map request_for (map text parts) ≡ map asking.text parts
for_texts [] = refl
for_texts (part ∷ parts) = ap (λ (rs : List asking.Request). asking.text part ∷ rs) (for_texts parts)

pub texts_sent : (bytes : List ℕ) (asked : List requests.Request) → slice_get bytes 0 ≢ Some 254 → AreTextRequests bytes asked → AreRequests (stream (Some bytes)) asked
texts_sent bytes asked first h =
    (map text h.0, (bytes, refl, inr (first, (h.0, h.1, refl))), all_texts CanBeSent h.0 h.2, h.3 ∙ sym (for_texts h.0))

pub texts_unsent : (bytes : List ℕ) (stop : RunError) → slice_get bytes 0 ≢ Some 254 → IsPartUnsent bytes stop → IsUnsentOn (stream (Some bytes)) stop
texts_unsent bytes stop first (inl h) = inl (parts_refused CanBeSent IsRequestFault bytes stop first h)
texts_unsent bytes stop first (inr memory) = inr (inr memory)

pub state_sent :
    (bytes : List ℕ) (request : requests.Request) → slice_get bytes 0 ≡ Some 254 → request_of_client request ≡ asking.state bytes
    → AreRequests (stream (Some bytes)) ([] ++ request ∷ [])
state_sent bytes request first means = (state bytes ∷ [], (bytes, refl, inl (first, refl)), (tt, tt), ap (λ r. r ∷ []) means)

-- bytes that are all that a reader had
pub sent_of_known :
    (known : Option (List ℕ)) (bytes : List ℕ) (asked : List requests.Request) → AreAll known bytes → AreRequests (stream (Some bytes)) asked
    → AreRequests (stream known) asked
sent_of_known known bytes asked all h = (h.0, (bytes, all, subst (λ (b : List ℕ). AreStreamPieces b h.0) h.1.1 h.1.2), h.2, h.3)

-- an input that is too long to be read is so where less is known of it
long_of_known : (known : Option (List ℕ)) (bytes : List ℕ) → AreAll known bytes → IsLongStop (Some bytes) → IsLongStop known
long_of_known None bytes all long = tt
long_of_known (Some x) bytes all long = subst (λ (b : List ℕ). read_limit ≤ length b) all long

pub unsent_of_known :
    (known : Option (List ℕ)) (bytes : List ℕ) (stop : RunError) → AreAll known bytes → IsUnsentOn (stream (Some bytes)) stop → IsUnsentOn (stream known) stop
unsent_of_known known bytes stop all (inl h) = inl (refused_of_known CanBeSent IsRequestFault known bytes stop all h)
unsent_of_known known bytes stop all (inr (inl (inl device))) = inr (inl (inl device))
unsent_of_known known bytes stop all (inr (inl (inr (inl (turns, long))))) = inr (inl (inr (inl (turns, long_of_known known bytes all long))))
unsent_of_known known bytes stop all (inr (inl (inr (inr memory)))) = inr (inl (inr (inr memory)))
unsent_of_known known bytes stop all (inr (inr memory)) = inr (inr memory)

-- files
pub files_sent_none : AreRequests (files []) []
files_sent_none = ([], tt, tt, refl)

pub files_sent_more :
    (known : List (Option (List ℕ))) (next : Option (List ℕ)) (bytes : List ℕ) (asked : List requests.Request) (request : requests.Request)
    → AreRequests (files known) asked → AreAll next bytes → IsFileRequest bytes request → AreRequests (files (known ++ next ∷ [])) (asked ++ request ∷ [])
files_sent_more known next bytes asked request h all more = (
  h.0 ++ more.0 ∷ [],
  along_push InputGives known h.0 next more.0 h.1 (bytes, all, more.1),
  all_push CanBeSent h.0 more.0 h.2 more.2,
  one_more request_for asked request h.0 more.0 h.3 more.3,
)

pub files_unsent :
    (front back : List (Option (List ℕ))) (next : Option (List ℕ)) (asked : List requests.Request) (number : ℕ) (bytes : List ℕ) (stop : RunError)
    → AreRequests (files front) asked → AreAll next bytes → number ≡ min (length asked + 1) (2 ^ 64 - 1) → IsFileUnsent bytes number stop
    → IsUnsentOn (files (front ++ next ∷ back)) stop
files_unsent front back next asked number bytes stop h all is fault =
    inl (files_first_refused CanBeSent IsRequestFault front back next h.0 number bytes stop h.1 h.2 all (numbered request_for asked h.0 number h.3 is) fault)

pub files_sent_unread :
    (front back : List (Option (List ℕ))) (next : Option (List ℕ)) (asked : List requests.Request) (stop : RunError)
    → AreRequests (files front) asked → IsUnreadable next stop → IsUnsentOn (files (front ++ next ∷ back)) stop
files_sent_unread front back next asked stop h fault = inr (inl (files_unread CanBeSent front back next h.0 stop h.1 h.2 fault))

-- a file that is one text
pub file_text_sent :
    {E : Type 0} (bytes now : List ℕ) (r : Result requests.Request E) → now ≡ bytes → slice_get bytes 0 ≢ Some 254
    → IfOk r (λ request. request_of_client request ≡ asking.text now) → OnOk r (IsTextInput now) → IfOk r (IsFileRequest bytes)
file_text_sent bytes now (Ok request) is first means fits =
    (text bytes, inr (first, refl), subst IsTextInput is fits, means ∙ ap asking.text is)
file_text_sent bytes now (Err e) is first means fits = tt

pub file_text_unsent :
    {T : Type 0} (bytes now : List ℕ) (number : ℕ) (r : Result T RunError) → now ≡ bytes → slice_get bytes 0 ≢ Some 254
    → IfErr r (λ stop. IsNoText now number stop ⊎ IsMemoryStop stop) → IfErr r (λ stop. IsFileUnsent bytes number stop ⊎ IsMemoryStop stop)
file_text_unsent bytes now number (Ok x) is first h = tt
file_text_unsent bytes now number (Err stop) is first (inl fault) =
    inl (text bytes, fault.0, inr (first, refl), subst (λ (b : List ℕ). IsByteFault b fault.0) is fault.2, fault.1)
file_text_unsent bytes now number (Err stop) is first (inr memory) = inr memory
