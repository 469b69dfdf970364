use Rattle.std.proofs.Common.{◌↔◌, List, String, Global, Any, IsTrue, string_bytes, subst}
use Rattle.cue_doors.specs.Hosts.{Names}
use Rattle.cue_doors.proofs.Hosts.{by_first, by_second, by_neither}
use Rattle.cue_doors.proofs.doors.Doors.is_own.Goals as goal

pub returns-then-names_one : goal.returns-then-names_one
returns-then-names_one c =
    by_first _ _ c.names_one.result c.if-names_one.true
    (subst (λ (hosts : List (String Global)). IsTrue c.names_one.result ↔ Any (λ host. Names (string_bytes host) c.args.field.now) hosts) c.deref.ensures.value c.names_one.ensures)

pub returns-then-self : goal.returns-then-self
returns-then-self c =
    by_second _ _ c.names_one.result c.args.self.now.any_address c.is_address.result c.if-names_one.false
    (subst (λ (hosts : List (String Global)). IsTrue c.names_one.result ↔ Any (λ host. Names (string_bytes host) c.args.field.now) hosts) c.deref.ensures.value c.names_one.ensures) c.if-self.true c.is_address.ensures

pub returns-else-self : goal.returns-else-self
returns-else-self c =
    by_neither _ _ c.names_one.result c.args.self.now.any_address c.if-names_one.false
    (subst (λ (hosts : List (String Global)). IsTrue c.names_one.result ↔ Any (λ host. Names (string_bytes host) c.args.field.now) hosts) c.deref.ensures.value c.names_one.ensures) c.if-self.false
