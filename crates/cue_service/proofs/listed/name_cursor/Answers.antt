use Rattle.std.proofs.Common.{◌≡◌, ℕ, List, [], ◌∷◌, ◌++◌, sym, ap, ◌∙◌, subst, arith}
use Rattle.http_header.specs.FieldValue.{FieldValue, IsFieldValue}
use Rattle.http_server.specs.Response.{fields_of}
use Rattle.cue_journal.specs.Cursors.{cursor_text}
use Rattle.cue_journal.specs.Listed.{next_of}
use Rattle.cue_service.proofs.Asking.{cursor_may_stand, same_pair}
use Rattle.cue_service.proofs.listed.name_cursor.Goals as goal

pub from_known_valid-value-requires : goal.from_known_valid-value-requires
from_known_valid-value-requires c =
    let is : c.in_ok-from_string.field-0 ≡ cursor_text c.cursor.result.run c.cursor.result.count = c.in_ok-from_string.ensures ∙ c.in_ok-text.ensures in
    subst IsFieldValue (sym is) (cursor_may_stand c.cursor.result.run c.cursor.result.count (omega arith) (omega arith))

pub returns-clause-named : goal.returns-clause-named
returns-clause-named c =
    let pieces = c.args.pieces.now in
    let text : c.from_known_valid-value.result.bytes ≡ cursor_text pieces.run (next_of pieces) =
    ap (λ (v : FieldValue). v.bytes) c.from_known_valid-value.ensures ∙ c.in_ok-from_string.ensures ∙ c.in_ok-text.ensures
    ∙ ap (λ n. cursor_text n c.cursor.result.count) c.cursor.ensures.run ∙ ap (λ n. cursor_text pieces.run n) c.cursor.ensures.count in
    c.in_ok-add_header.ensures.headers ∙ ap (λ (h : List ℕ × List ℕ). fields_of c.args.response.now ++ h ∷ []) (same_pair c.from_static.ensures text)
