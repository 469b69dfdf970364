-- The place that a request names, and the field that names one.
use Rattle.std.proofs.Common.{◌≡◌, ℕ, ◌<◌, ◌^◌, List, [], ◌∷◌, ◌++◌, drop, Option, Some, None, IfNone, IfSome, IsTrue, inl, inr, sym, ap, ◌∙◌, arith, codes}
use Rattle.std.specs.List.{AllByRecursion}
use Rattle.std.specs.Str.Pattern.{FindsTextPrefix, StripsPrefix}
use Rattle.std.proofs.lemmas.Bool.Decides.{nat_tests}
use Rattle.std.proofs.lemmas.List.Elements.{All-from_recursion}
use Rattle.http_header.specs.FieldValue.{IsFieldValue}
use Rattle.http_header.specs.Token.{is_value_byte}
use Rattle.bytes.specs.Filled.{Filled}
use Rattle.http.specs.declared.request.Request.{Request}
use Rattle.http1.specs.Fields.{Header}
use Rattle.http_server.specs.declared.response.Response.{Response}
use Rattle.http_server.specs.Response.{fields_of}
use Rattle.cue_replica.specs.declared.question.SiteQuestion.{SiteQuestion}
use Rattle.cue_replica.specs.Language.{Table}
use Rattle.cue_service.specs.Answering.{IsAsked}
use Rattle.cue_journal.specs.Cursors.{cursor_text, IsCursor}
use Rattle.cue_journal.specs.declared.cursor.PieceCursor.{PieceCursor}
use Rattle.cue_journal.proofs.Telling.{IsPlain, plain_text}

abbrev key : List ℕ
key = codes "after="

-- what stands behind it
pub stripped : (s x : List ℕ) → StripsPrefix (FindsTextPrefix key) s x → s ≡ key ++ x
stripped s x h = h.1.1 ∙ ap (λ (l : List ℕ). key ++ l) (sym h.2)

pub same_rest : (x y : List ℕ) → key ++ x ≡ key ++ y → x ≡ y
same_rest x y e = ap (drop 6) e

pub is_query : (query : Option (List ℕ)) (q text : List ℕ) → Some q ≡ query → query ≡ Some (key ++ text) → q ≡ key ++ text
is_query query q text is asked = inside (is ∙ asked)
  where
    inside : ◌≡◌ {A = Option (List ℕ)} (Some q) (Some (key ++ text)) → q ≡ key ++ text
    inside e = cc

pub no_query : (query : Option (List ℕ)) (text : List ℕ) → ◌≡◌ {A = Option (List ℕ)} None query → query ≡ Some (key ++ text) → ⊥
no_query query text is asked = no (is ∙ asked)
  where
    no : ◌≡◌ {A = Option (List ℕ)} None (Some (key ++ text)) → ⊥
    no e = cc

-- what is read as no place is the text of none
pub none_named : (r : Option PieceCursor) (query : Option (List ℕ)) (q x : List ℕ) → Some q ≡ query → q ≡ key ++ x
    → ((cursor : PieceCursor) → cursor.run < 2 ^ 64 → cursor.count < 2 ^ 64 → x ≡ cursor_text cursor.run cursor.count → r ≡ Some cursor)
    → IfNone r ((run count : ℕ) → run < 2 ^ 64 → count < 2 ^ 64 → ¬ (query ≡ Some (key ++ cursor_text run count)))
none_named (Some cursor) query q x is begins written = tt
none_named None query q x is begins written = λ run count small less asked.
    let rest : x ≡ cursor_text run count = same_rest x (cursor_text run count) (sym begins ∙ is_query query q (cursor_text run count) is asked) in
    no (record { run = run; count = count }) (written (record { run = run; count = count }) small less rest)
  where
    no : (cursor : PieceCursor) → ◌≡◌ {A = Option PieceCursor} None (Some cursor) → ⊥
    no cursor e = cc

-- and what is read stands there
pub is_named : (r : Option PieceCursor) (query : Option (List ℕ)) (q x : List ℕ) → Some q ≡ query → q ≡ key ++ x → IfSome r (λ cursor. IsCursor x cursor.run cursor.count)
    → IfSome r (λ cursor. (text : List ℕ) × (query ≡ Some (key ++ text)) × IsCursor text cursor.run cursor.count)
is_named (Some cursor) query q x is begins holds = (x, sym is ∙ ap (λ (l : List ℕ). Some l) begins, holds)
is_named None query q x is begins holds = tt

pub same_pair : {a a' b b' : List ℕ} → a ≡ a' → b ≡ b' → ◌≡◌ {A = List ℕ × List ℕ} (a, b) (a', b')
same_pair first second = cc

stands : (b : ℕ) → IsPlain b → IsTrue (is_value_byte b)
stands b plain = grind (arith, nat_tests)

all_stand : (bytes : List ℕ) → AllByRecursion IsPlain bytes → AllByRecursion (λ b. IsTrue (is_value_byte b)) bytes
all_stand [] plain = tt
all_stand (b ∷ bytes) plain = (stands b plain.0, all_stand bytes plain.1)

-- the text of a place may stand in a field
pub cursor_may_stand : (run count : ℕ) → run < 2 ^ 64 → count < 2 ^ 64 → IsFieldValue (cursor_text run count)
cursor_may_stand run count small less =
    All-from_recursion (λ b. IsTrue (is_value_byte b)) (cursor_text run count) (all_stand (cursor_text run count) (plain_text run count small less))

-- a response with these fields more
pub asked_more :
    (limit : ℕ) (question : SiteQuestion) (table : Table) (request : Request (List ℕ)) (more : List Header) (before after : Response) → IsAsked limit question table request [] before
    → after.status ≡ before.status → after.body ≡ before.body → fields_of after ≡ fields_of before ++ more → IsAsked limit question table request more after
asked_more limit question table request more before after (inl same) status body fields = inl (record {
  known = same.known;
  answer = record {
    status = status ∙ same.answer.status;
    headers = fields ∙ ap (λ (l : List Header). l ++ more) same.answer.headers;
    body = ap (λ (b : Filled). b.items) body ∙ same.answer.body;
  };
})
asked_more limit question table request more before after (inr (inl told)) status body fields = inr (inl (record {
  unknown = told.unknown;
  told = told.told;
  whole = told.whole;
  within = told.within;
  answer = record {
    status = status ∙ told.answer.status;
    headers = fields ∙ ap (λ (l : List Header). l ++ more) told.answer.headers;
    body = ap (λ (b : Filled). b.items) body ∙ told.answer.body;
  };
}))
asked_more limit question table request more before after (inr (inr other)) status body fields = inr (inr (record {
  unknown = other.unknown;
  over = other.over;
  answer = (status ∙ other.answer.0, fields ∙ ap (λ (l : List Header). l ++ more) other.answer.1);
}))
