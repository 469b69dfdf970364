use Rattle.std.proofs.Common.{◌≡◌, ℕ, List, Option, Vec, [], ◌∷◌, ◌++◌, inl, inr, ap, ◌∙◌, subst}
use Rattle.std.specs.Prelude.{IfSome, IfNone}
use Rattle.std.specs.declared.alloc.Global.{Global}
use Rattle.bytes.specs.Filled.{Filled}
use Rattle.cue_journal.specs.Blocks.{recovered_pieces}
use Rattle.cue_journal.specs.Cursors.{IsCursor}
use Rattle.cue_journal.specs.Listed.{KeepsPieces, behind_of}
use Rattle.cue_journal.specs.Lists.{blocks}
use Rattle.http1.specs.Fields.{Header}
use Rattle.cue_service.specs.Statuses.{place_field}
use Rattle.cue_service.proofs.Listing.{told}
use Rattle.cue_service.proofs.Opening.{on_ok}
use Rattle.cue_service.proofs.listed.answer_pieces.Goals as goal

pub returns : goal.returns
returns c =
    let pieces = c.args.pieces.now in
    let count = c.in-Some.cursor.count in
    let body = c.in-Some-2.body.items in
    let found : KeepsPieces pieces c.in-Some.cursor.run count × (body ≡ blocks (behind_of pieces count)) × (recovered_pieces body ≡ behind_of pieces count) =
    subst (λ (o : Option (Vec ℕ Global)). IfSome o (λ b. KeepsPieces pieces c.in-Some.cursor.run count × (b.items ≡ blocks (behind_of pieces count)) × (recovered_pieces b.items ≡ behind_of pieces count))) c.in-Some-2.is c.in_ok-body.ensures.some in
    let keeps : KeepsPieces pieces pieces.run count = subst (λ n. KeepsPieces pieces n count) found.0.same_run found.0 in
    let is : c.name_cursor.new.response.body.items ≡ body =
    ap (λ (b : Filled). b.items) c.name_cursor.ensures.body ∙ c.in_ok-answer_body.ensures.body ∙ c.in_ok-from_vec.ensures.ok in
    on_ok c.name_cursor.result
    (λ named. inl (record {
      text = c.in-Some.ensures.some.0;
      count = count;
      asks = c.in-Some.ensures.some.1;
      cursor = subst (λ n. IsCursor c.in-Some.ensures.some.0 n count) found.0.same_run c.in-Some.ensures.some.2;
      kept = keeps;
      head = (
        c.name_cursor.ensures.status ∙ c.in_ok-answer_body.ensures.status,
        named ∙ ap (λ (l : List Header). l ++ place_field pieces ∷ []) c.in_ok-answer_body.ensures.headers,
      );
      told = told pieces count c.name_cursor.new.response.body.items keeps (is ∙ found.1) (ap recovered_pieces is ∙ found.2);
    }))
    c.name_cursor.ensures.named

pub returns-in-None : goal.returns-in-None
returns-in-None c =
    let pieces = c.args.pieces.now in
    let run = c.in-Some.cursor.run in
    let count = c.in-Some.cursor.count in
    inr (inl (record {
      text = c.in-Some.ensures.some.0;
      run = run;
      count = count;
      asks = c.in-Some.ensures.some.1;
      cursor = c.in-Some.ensures.some.2;
      not_kept = subst (λ (o : Option (Vec ℕ Global)). IfNone o (¬ KeepsPieces pieces run count)) c.in-None.is c.in_ok-body.ensures.none;
      answer = c.answer_status-in-None.ensures;
    }))
