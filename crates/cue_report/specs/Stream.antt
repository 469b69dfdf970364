-- JSON that is told to a sink part after part, as tokens.
use Rattle.std.specs.Prelude.{◌≡◌, Bool, true, false, List, ℕ, [], ◌∷◌, ◌++◌, Option, fold}
use Rattle.std.specs.Prelude.{drop, length, refl}
use Rattle.std.specs.Coded.{Coded, code_by, coded×, coded_list, coded_ℕ, coded_bool}
use Rattle.std.specs.Io.KnownBytes.{Appends}
use Rattle.json.specs.Print.{ends, print, print_from, token_text}
use Rattle.json.specs.Token.{Token, begin_array, null}
use Rattle.cue_device.specs.Texts.{WritesPrefix}
use Rattle.cue_report.specs.declared.stream.Stream.TheInside.{Inside}

-- the text that is not put yet, and whether a value ended there
pub record PendingText : Type 0 where
  pub pending : List ℕ
  pub owes : Bool

abbrev pub streamed_code : Coded PendingText
streamed_code =
    code_by (List ℕ × Bool) (coded× (coded_list coded_ℕ) coded_bool)
    (λ s. (s.pending, s.owes)) (λ p. record { pending = p.0; owes = p.1 }) (λ _. refl)

-- whether a value ended behind these tokens, where one ended in front of them or not
abbrev pub ends_behind : Bool → List Token → Bool
ends_behind = fold (λ _ token. ends token)

-- the token that stands in front of what is pending, and is not told: a value or not
abbrev pub opener : Bool → Token
opener true = null
opener false = begin_array

abbrev pub stream_view : Inside → PendingText
stream_view s = record {
  pending = drop (length (token_text (opener s.primed))) (print s.writer.tokens);
  owes = s.owes;
}

-- the writer holds that token and others
pub record IsStream (s : Inside) : Type 0 where
  pub before : s.writer.before ≡ []
  pub rest : List Token
  pub tokens : s.writer.tokens ≡ opener s.primed ∷ rest
  pub owes : s.owes ≡ ends_behind (ends (opener s.primed)) rest

-- what a sink has, and what is on its way there
pub record Flow : Type 0 where
  pub known : Option (List ℕ)
  pub stream : PendingText

abbrev pub flow_of : Option (List ℕ) → PendingText → Flow
flow_of known stream = record { known = known; stream = stream }

-- the text of these tokens is told: some is put, and some is pending
pub record WritesTokens (old new : Flow) (tokens : List Token) : Type 0 where
  pub put : List ℕ
  pub known : Appends old.known new.known put
  pub whole : old.stream.pending ++ print_from old.stream.owes tokens ≡ put ++ new.stream.pending
  pub owes : new.stream.owes ≡ ends_behind old.stream.owes tokens

-- the sink has the front of what is pending with the text of these tokens
abbrev pub WritesTokensPrefix : Flow → Option (List ℕ) → List Token → Type 0
WritesTokensPrefix old known tokens =
    WritesPrefix old.known known (old.stream.pending ++ print_from old.stream.owes tokens)
