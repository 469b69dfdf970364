-- The first refusal among replies that grow by one.
use Rattle.std.proofs.Common.{◌≡◌, ◌≢◌, ◌⊎◌, ℕ, ◌+◌, List, [], ◌∷◌, ◌++◌, length, ap, sym, ◌∙◌, append_assoc, inl, Option, Some, None, Result, Vec, Global, IsErrOf}
use Rattle.std.proofs.lemmas.List.{map-append, length-map}
use Rattle.std.proofs.lemmas.List.Elements.{All-push}
use Rattle.cue_lattice.specs.declared.refusal.Refusal.{Refusal}
use Rattle.cue_replica.specs.declared.answers.Answer.{Answer}
use Rattle.cue_wire.specs.Clients.{all_items}
use Rattle.cue_net.specs.declared.halt.NetError.{NetError}
use Rattle.cue_net.specs.declared.halt.NetError.TheVariants as halts
use Rattle.cue_net.specs.Replies.{acceptance_reply, refusal_reply, ReplySaysOfInput}
use Rattle.cue_net.specs.Told.{ReportReplies}
use Rattle.cue_net.specs.Inner.Told.{IsFound, first_of}

pub found_more : (replies : List (List ℕ)) (reply : List ℕ) (first : Option (Refusal × ℕ)) (found : Option Refusal) (number : ℕ)
    → IsFound replies first → ReplySaysOfInput reply found → number ≡ length replies + 1 → IsFound (replies ++ reply ∷ []) (first_of first found number)
found_more replies reply None None number was says counted = All-push (λ r. r ≡ acceptance_reply []) replies reply was says
found_more replies reply None (Some why) number was says counted = record {
  before = replies;
  after = [];
  replies_are = ap (λ r. replies ++ r ∷ []) says.0;
  told = says.1;
  accepted = was;
  counted = counted;
}
found_more replies reply (Some first) found number was says counted = record {
  before = was.before;
  after = was.after ++ reply ∷ [];
  replies_are = ap (λ rs. rs ++ reply ∷ []) was.replies_are ∙ append_assoc was.before (refusal_reply first.0 ∷ was.after) (reply ∷ []);
  told = was.told;
  accepted = was.accepted;
  counted = was.counted;
}

-- the last of the replies is told apart
pub told_parts : (vectors rest : List (Vec ℕ Global)) (last : Vec ℕ Global) (bytes : List ℕ) (inputs : ℕ) (result : Result Answer NetError)
    → vectors ≡ rest ++ last ∷ [] → bytes ≡ last.items → length rest ≡ inputs → ReportReplies (all_items rest) bytes result
    → ((to_inputs : List (List ℕ)) × (x : List ℕ) × (all_items vectors ≡ to_inputs ++ x ∷ []) × (length to_inputs ≡ inputs) × ReportReplies to_inputs x result)
    ⊎ ((length vectors ≢ inputs + 1) × IsErrOf result halts.Device)
told_parts vectors rest last bytes inputs result are is count told = inl (
  all_items rest,
  bytes,
  ap all_items are ∙ map-append (λ (v : Vec ℕ Global). v.items) rest (last ∷ []) ∙ ap (λ b. all_items rest ++ b ∷ []) (sym is),
  length-map rest (λ (v : Vec ℕ Global). v.items) ∙ count,
  told,
)
