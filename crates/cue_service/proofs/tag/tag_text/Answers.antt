use Rattle.std.proofs.Common.{◌≡◌, rules, sym, subst}
use Rattle.http_header.specs.FieldValue.{IsFieldValue}
use Rattle.cue_service.specs.Tags.{quoted_digest}
use Rattle.cue_service.proofs.Digests.{tag_may_stand}
use Rattle.cue_service.proofs.tag.tag_text.Goals as goal

pub from_known_valid-requires : goal.from_known_valid-requires
unfolding quoted_digest
from_known_valid-requires c =
    let is : c.in_ok-from_vec.field-0 ≡ quoted_digest c.args.state.now = search rules in
    subst IsFieldValue (sym is) (tag_may_stand c.args.state.now)
