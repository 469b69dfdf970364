use Rattle.std.proofs.Common.{map, Some, ap, ◌∙◌}
use Rattle.std.specs.Char.{to_ascii_lowercase}
use Rattle.std.specs.Option.{option_map}
use Rattle.http_header.specs.FieldValue.{FieldValue}
use Rattle.http_header.specs.HeaderMap.{Entries, get}
use Rattle.cue_doors.proofs.doors.field.Goals as goal

pub returns-in-None : goal.returns-in-None
returns-in-None c =
    ap (option_map (λ (field : FieldValue). field.bytes)) c.in-None.ensures.value
    ∙ ap (λ (fields : Entries FieldValue). option_map (λ (field : FieldValue). field.bytes) (get fields (map to_ascii_lowercase c.args.name.now))) c.headers.ensures

pub returns-in-Some : goal.returns-in-Some
returns-in-Some c =
    ap Some c.as_bytes.ensures.value ∙ ap (option_map (λ (field : FieldValue). field.bytes)) c.in-Some.ensures.value
    ∙ ap (λ (fields : Entries FieldValue). option_map (λ (field : FieldValue). field.bytes) (get fields (map to_ascii_lowercase c.args.name.now))) c.headers.ensures
