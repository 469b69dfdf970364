-- Inputs that are pushed a group at a time.
use Rattle.std.proofs.Common.{◌≡◌, ℕ, ◌+◌, ◌-◌, ◌≤◌, List, [], ◌∷◌, ◌++◌, length, take, drop, ap, sym, ◌∙◌, subst, arith, append_assoc, append-nil, Option, Result, Ok, Err, flat_map, All, length-append, length-drop, take-append-drop}
use Rattle.std.proofs.lemmas.List.{take_all, length-take-le}
use Rattle.std.proofs.lemmas.List.Concat.{flat_map-append}
use Rattle.std.proofs.lemmas.List.Elements.{All-take, All-drop}
use Rattle.cue_wire.specs.Clients.{ClientExchange, ClientHasTaken, request_frame, IsSendable}
use Rattle.cue_wire.specs.Connections.{Moment, calls, failures}
use Rattle.cue_wire.specs.declared.request.Request as requests
use Rattle.cue_wire.specs.declared.request.Request.TheVariants as asked_of
use Rattle.cue_net.specs.declared.halt.NetError.{NetError}
use Rattle.cue_net.specs.Inner.Hearing.{RequestsSent}
use Rattle.cue_net.specs.Talks.{request_frames}
use Rattle.cue_net.proofs.Asking.{asks_more, asks_part}
use Rattle.cue_net.proofs.Talks.{cut, AskedBetween, Talked}

abbrev pub frames : List requests.Request → List ℕ
frames requests = flat_map request_frame requests

-- the front of what was left joins what was before it
parts_more : {X : Type 0} (all front rest : List X) (n : ℕ) → all ≡ front ++ rest → all ≡ (front ++ take n rest) ++ take (length rest - n) (drop n rest)
parts_more all front rest n is =
    is ∙ ap (λ zs. front ++ zs) (sym (take-append-drop n rest)) ∙ sym (append_assoc front (take n rest) (drop n rest))
    ∙ ap (λ zs. (front ++ take n rest) ++ zs) (sym (take_all (length rest - n) (drop n rest) (omega (arith, length-drop n rest))))

-- the inputs so far are pushed
pub record Pushed (inputs rest : List requests.Request) (asked : ℕ) (old new : ClientExchange) (given given' to_come to_come' taken taken' : Option (List ℕ))
    (start left failed failed' : ℕ) : Type 0 where
  pub front : List requests.Request
  pub parts : inputs ≡ front ++ rest
  pub counted : asked ≡ length front
  pub asks : RequestsSent (Ok tt) (flat_map request_frame front) old new asked given given' to_come to_come' taken taken' start left failed failed'

pub pushed_more : (u : Unit {0}) (inputs rest : List requests.Request) (asked n : ℕ) (old mid new : ClientExchange) (given given' given'' to_come to_come' to_come'' taken taken' taken'' : Option (List ℕ))
    (start left left' failed failed' failed'' : ℕ) → n ≤ length rest → failed' ≡ failed
    → Pushed inputs rest asked old mid given given' to_come to_come' taken taken' start left failed failed'
    → RequestsSent (Ok u) (flat_map request_frame (take n rest)) mid new (asked + n) given' given'' to_come' to_come'' taken' taken'' left left' failed' failed''
    → Pushed inputs (take (length rest - n) (drop n rest)) (asked + n) old new given given'' to_come to_come'' taken taken'' start left' failed failed''
pushed_more u inputs rest asked n old mid new given given' given'' to_come to_come' to_come'' taken taken' taken'' start left left' failed failed' failed'' within sound p next = record {
  front = p.front ++ take n rest;
  parts = parts_more inputs p.front rest n p.parts;
  counted = omega (arith, p.counted, length-append p.front (take n rest), length-take-le n rest within);
  asks = subst (λ fs. RequestsSent (Ok tt) fs old new (asked + n) given given'' to_come to_come'' taken taken'' start left' failed failed'') (sym (flat_map-append request_frame p.front (take n rest)))
      (asks_more tt (Ok u) (frames p.front) (frames (take n rest)) old mid new asked (asked + n) given given' given'' to_come to_come' to_come'' taken taken' taken''
      start left left' failed failed' failed'' sound p.asks next);
}

-- a group is not pushed
pub pushed_part : (halt : NetError) (inputs rest : List requests.Request) (asked n : ℕ) (old mid new : ClientExchange) (given given' given'' to_come to_come' to_come'' taken taken' taken'' : Option (List ℕ))
    (start left left' failed failed' failed'' : ℕ) → n ≤ length rest → failed' ≡ failed
    → Pushed inputs rest asked old mid given given' to_come to_come' taken taken' start left failed failed'
    → RequestsSent (Err halt) (flat_map request_frame (take n rest)) mid new (asked + n) given' given'' to_come' to_come'' taken' taken'' left left' failed' failed''
    → RequestsSent (Err halt) (flat_map request_frame inputs) old new (length inputs) given given'' to_come to_come'' taken taken'' start left' failed failed''
pushed_part halt inputs rest asked n old mid new given given' given'' to_come to_come' to_come'' taken taken' taken'' start left left' failed failed' failed'' within sound p next =
    let group = take n rest in
    let behind = take (length rest - n) (drop n rest) in
    let all : inputs ≡ (p.front ++ group) ++ behind = parts_more inputs p.front rest n p.parts in
    let fs : frames inputs ≡ (frames p.front ++ frames group) ++ frames behind =
    ap frames all ∙ flat_map-append request_frame (p.front ++ group) behind ∙ ap (λ zs. zs ++ frames behind) (flat_map-append request_frame p.front group) in
    let few : asked + n ≤ length inputs =
    omega (arith, p.counted, ap length p.parts, length-append p.front rest) in
    subst (λ fs. RequestsSent (Err halt) fs old new (length inputs) given given'' to_come to_come'' taken taken'' start left' failed failed'') (sym fs)
    (asks_part halt (frames p.front ++ frames group) (frames behind) old new (asked + n) (length inputs) given given'' to_come to_come'' taken taken'' start left' failed failed'' few
    (asks_more tt (Err halt) (frames p.front) (frames group) old mid new asked (asked + n) given given' given'' to_come to_come' to_come'' taken taken' taken''
    start left left' failed failed' failed'' sound p.asks next))

-- all inputs are pushed
pub pushed_all : (inputs rest : List requests.Request) (asked : ℕ) (old new : ClientExchange) (given given' to_come to_come' taken taken' : Option (List ℕ)) (start left failed failed' : ℕ)
    → rest ≡ [] → Pushed inputs rest asked old new given given' to_come to_come' taken taken' start left failed failed'
    → RequestsSent (Ok tt) (flat_map request_frame inputs) old new (length inputs) given given' to_come to_come' taken taken' start left failed failed'
pushed_all inputs rest asked old new given given' to_come to_come' taken taken' start left failed failed' none p =
    let all : inputs ≡ p.front = p.parts ∙ ap (λ rs. p.front ++ rs) none ∙ append-nil p.front in
    subst (λ n. RequestsSent (Ok tt) (flat_map request_frame inputs) old new n given given' to_come to_come' taken taken' start left failed failed') (p.counted ∙ ap length (sym all))
    (subst (λ rs. RequestsSent (Ok tt) (flat_map request_frame rs) old new asked given given' to_come to_come' taken taken' start left failed failed') (sym all) p.asks)

-- what is left can be sent too
pub fits_behind : (rest : List requests.Request) (n : ℕ) → All IsSendable rest → All IsSendable (take (length rest - n) (drop n rest))
fits_behind rest n fits = All-take IsSendable (length rest - n) (drop n rest) (All-drop IsSendable n rest fits)

abbrev pub question : List requests.Request
question = asked_of.AskExport ∷ []

pub asks_both : (inputs : List requests.Request) → frames inputs ++ frames question ≡ request_frames inputs
asks_both inputs = ap (λ zs. frames inputs ++ zs) (append-nil (request_frame asked_of.AskExport))

-- the inputs are not all pushed
pub stops_first : (halt : NetError) (inputs : List requests.Request) (old new : ClientExchange) (before after : Moment) (start left : ℕ) → ClientHasTaken old [] → (left ≡ 0 → calls after ≡ calls before + start)
    → AskedBetween (Err halt) (flat_map request_frame inputs) old new (length inputs) before after start left → Talked (Err halt) inputs start before after
stops_first halt inputs old new before after start left none used asked =
    cut halt inputs old new (length inputs + 1) before after start left none (omega arith) used
    (subst (λ fs. AskedBetween (Err halt) fs old new (length inputs + 1) before after start left) (asks_both inputs)
    (asks_part halt (frames inputs) (frames question) old new (length inputs) (length inputs + 1) before.given after.given before.to_come after.to_come before.taken after.taken
    start left (failures before) (failures after) (omega arith) asked))

-- the question is asked too, or not
pub asks_on : (u : Unit {0}) (result : Result (Unit {0}) NetError) (inputs : List requests.Request) (old mid new : ClientExchange) (given given' given'' to_come to_come' to_come'' taken taken' taken'' : Option (List ℕ))
    (start left left' failed failed' failed'' : ℕ) → failed' ≡ failed
    → RequestsSent (Ok u) (flat_map request_frame inputs) old mid (length inputs) given given' to_come to_come' taken taken' start left failed failed'
    → RequestsSent result (flat_map request_frame question) mid new (length inputs + 1) given' given'' to_come' to_come'' taken' taken'' left left' failed' failed''
    → RequestsSent result (request_frames inputs) old new (length inputs + 1) given given'' to_come to_come'' taken taken'' start left' failed failed''
asks_on u result inputs old mid new given given' given'' to_come to_come' to_come'' taken taken' taken'' start left left' failed failed' failed'' sound first second =
    subst (λ fs. RequestsSent result fs old new (length inputs + 1) given given'' to_come to_come'' taken taken'' start left' failed failed'') (asks_both inputs)
    (asks_more u result (frames inputs) (frames question) old mid new (length inputs) (length inputs + 1) given given' given'' to_come to_come' to_come'' taken taken' taken''
    start left left' failed failed' failed'' sound first second)
