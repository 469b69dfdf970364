-- Tokens that are told to a sink, some behind others.
use Rattle.std.proofs.Common.{◌≡◌, Bool, true, false, ℕ, List, [], ◌∷◌, ◌++◌, drop, length, Option, IsUtf8, refl, sym, ap, subst, ◌∙◌, append_assoc, append-nil, arith}
use Rattle.std.specs.Io.KnownBytes.{Appends}
use Rattle.std.specs.Str.{IsCharBoundary}
use Rattle.std.proofs.lemmas.List.{drop_at}
use Rattle.std.proofs.lemmas.Str.{IsCharBoundary-after_ascii}
use Rattle.json.specs.Print.{ends, print, print_from, token_text}
use Rattle.json.specs.Token.{Token}
use Rattle.json.proofs.Printed.Tokens.{print_from-append}
use Rattle.cue_device.proofs.Texts.{appends_none, appends_then, begins_now, begins_later}
use Rattle.cue_device.specs.Texts.{WritesPrefix}
use Rattle.cue_report.specs.Stream.{Flow, WritesTokens, WritesTokensPrefix, ends_behind, opener}

-- ---- what a writer holds behind the token that is not told
pub behind_opener : (primed : Bool) (tokens rest : List Token) → tokens ≡ opener primed ∷ rest
    → drop (length (token_text (opener primed))) (print tokens) ≡ print_from (ends (opener primed)) rest
unfolding print_from
behind_opener primed tokens rest e =
    ap (λ ts. drop (length (token_text (opener primed))) (print ts)) e
    ∙ drop_at (token_text (opener primed)) (print_from (ends (opener primed)) rest) (length (token_text (opener primed))) refl

-- with one token more
pub one_behind : (primed owes : Bool) (old new rest : List Token) (token : Token) → old ≡ opener primed ∷ rest → owes ≡ ends_behind (ends (opener primed)) rest → new ≡ old ++ token ∷ []
    → drop (length (token_text (opener primed))) (print new) ≡ drop (length (token_text (opener primed))) (print old) ++ print_from owes (token ∷ [])
one_behind primed owes old new rest token e o n =
    behind_opener primed new (rest ++ token ∷ []) (n ∙ ap (λ ts. ts ++ token ∷ []) e) ∙ print_from-append (ends (opener primed)) rest (token ∷ [])
    ∙ (λ i. sym (behind_opener primed old rest e) i ++ print_from (sym o i) (token ∷ []))

pub none_behind : (primed : Bool) (tokens : List Token) → tokens ≡ opener primed ∷ [] → drop (length (token_text (opener primed))) (print tokens) ≡ []
unfolding print_from
none_behind primed tokens e = behind_opener primed tokens [] e

-- what is pending stands as text of its own behind that token
pub boundary_behind : (primed : Bool) (tokens rest : List Token) (text : List ℕ) (n : ℕ) → tokens ≡ opener primed ∷ rest → text ≡ print tokens → n ≡ length (token_text (opener primed)) → IsUtf8 (print tokens) → IsCharBoundary text n
unfolding print_from
boundary_behind primed tokens rest text n e t l u =
    let whole : text ≡ token_text (opener primed) ++ print_from (ends (opener primed)) rest = t ∙ ap print e in
    subst (IsCharBoundary text) (sym l) (subst (λ bytes. IsCharBoundary bytes (length (token_text (opener primed)))) (sym whole)
    (by primed (print_from (ends (opener primed)) rest) (subst IsUtf8 (ap print e) u)))
  where
    by : (primed : Bool) (more : List ℕ) → IsUtf8 (token_text (opener primed) ++ more) → IsCharBoundary (token_text (opener primed) ++ more) (length (token_text (opener primed)))
    by true more u = IsCharBoundary-after_ascii (110 ∷ 117 ∷ 108 ∷ 108 ∷ more) 3 u (omega arith) (omega arith)
    by false more u = IsCharBoundary-after_ascii (91 ∷ more) 0 u (omega arith) (omega arith)

-- ---- tokens behind tokens
ends_append : (owes : Bool) (ts us : List Token) → ends_behind owes (ts ++ us) ≡ ends_behind (ends_behind owes ts) us
ends_append owes [] us = refl
ends_append owes (t ∷ ts) us = ends_append (ends t) ts us

-- the text of both is that of the first ones, of which some is put, and of the others
text_then : (u v : Flow) (ts us : List Token) (a : WritesTokens u v ts)
    → u.stream.pending ++ print_from u.stream.owes (ts ++ us) ≡ a.put ++ (v.stream.pending ++ print_from v.stream.owes us)
text_then u v ts us a =
    let later = print_from (ends_behind u.stream.owes ts) us in
    ap (λ t. u.stream.pending ++ t) (print_from-append u.stream.owes ts us) ∙ sym (append_assoc u.stream.pending (print_from u.stream.owes ts) later)
    ∙ ap (λ t. t ++ later) a.whole ∙ append_assoc a.put v.stream.pending later
    ∙ ap (λ o. a.put ++ (v.stream.pending ++ print_from o us)) (sym a.owes)

pub streams_then : (u v w : Flow) (ts us : List Token) → WritesTokens u v ts → WritesTokens v w us → WritesTokens u w (ts ++ us)
streams_then u v w ts us a b = record {
  put = a.put ++ b.put;
  known = appends_then u.known v.known w.known a.put b.put a.known b.known;
  whole = text_then u v ts us a ∙ ap (λ t. a.put ++ t) b.whole ∙ sym (append_assoc a.put b.put w.stream.pending);
  owes = b.owes ∙ ap (λ o. ends_behind o us) a.owes ∙ sym (ends_append u.stream.owes ts us);
}

pub breaks_later : (u v : Flow) (known : Option (List ℕ)) (ts us : List Token) → WritesTokens u v ts → WritesTokensPrefix v known us → WritesTokensPrefix u known (ts ++ us)
breaks_later u v known ts us a b =
    subst (WritesPrefix u.known known) (sym (text_then u v ts us a)) (begins_later u.known v.known known a.put (v.stream.pending ++ print_from v.stream.owes us) a.known b)

pub breaks_now : (u : Flow) (known : Option (List ℕ)) (ts us : List Token) → WritesTokensPrefix u known ts → WritesTokensPrefix u known (ts ++ us)
breaks_now u known ts us b =
    let later = print_from (ends_behind u.stream.owes ts) us in
    subst (WritesPrefix u.known known)
    (append_assoc u.stream.pending (print_from u.stream.owes ts) later ∙ ap (λ t. u.stream.pending ++ t) (sym (print_from-append u.stream.owes ts us)))
    (begins_now u.known known (u.stream.pending ++ print_from u.stream.owes ts) later b)

-- nothing of some tokens was told: so it is with others in their place
pub breaks_any : (u : Flow) (known : Option (List ℕ)) (ts : List Token) → WritesTokensPrefix u known [] → WritesTokensPrefix u known ts
breaks_any u known ts b = breaks_now u known [] ts b

-- ---- one token, and one part
pub stays : (u v : Flow) → v.known ≡ u.known → v.stream.pending ≡ u.stream.pending → v.stream.owes ≡ u.stream.owes → WritesTokens u v []
unfolding print_from
stays u v k p o = record {
  put = [];
  known = subst (λ w. Appends u.known w []) (sym k) (appends_none u.known);
  whole = append-nil u.stream.pending ∙ sym p;
  owes = o;
}

pub wrote : (u v : Flow) (token : Token) → v.known ≡ u.known → v.stream.pending ≡ u.stream.pending ++ print_from u.stream.owes (token ∷ []) → v.stream.owes ≡ ends token → WritesTokens u v (token ∷ [])
wrote u v token k p o = record {
  put = [];
  known = subst (λ w. Appends u.known w []) (sym k) (appends_none u.known);
  whole = sym p;
  owes = o;
}

pub drained : (u v : Flow) (part : List ℕ) → part ≡ u.stream.pending → Appends u.known v.known part → v.stream.pending ≡ [] → v.stream.owes ≡ u.stream.owes → WritesTokens u v []
unfolding print_from
drained u v part e a p o = record {
  put = part;
  known = a;
  whole = ap (λ t. t ++ []) (sym e) ∙ ap (λ t. part ++ t) (sym p);
  owes = o;
}

pub drain_begun : (u : Flow) (known : Option (List ℕ)) (part : List ℕ) → part ≡ u.stream.pending → WritesPrefix u.known known part → WritesTokensPrefix u known []
drain_begun u known part e b = subst (λ t. WritesPrefix u.known known (t ++ print_from u.stream.owes [])) e (begins_now u.known known part (print_from u.stream.owes []) b)
