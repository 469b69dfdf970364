-- What is answered is true of the site, where bytes come as they were sent.
use Rattle.std.specs.Prelude.{◌≡◌, ℕ, List, [], ◌∷◌, Ok}
use Rattle.cue_replica.specs.declared.world.Outcome.TheVariants.{Accepted}
use Rattle.cue_replica.specs.Language.{Table}
use Rattle.cue_replica.specs.World.{SubmitsText, TakesState}
use Rattle.cue_replica.specs.declared.answers.Answer.{Answer}
use Rattle.cue_wire.specs.declared.request.Request as requests
use Rattle.cue_wire.specs.Clients.{request_of_client}
use Rattle.cue_wire.specs.Readings.{IsLast}
use Rattle.cue_wire.specs.Requests.{Request, text, state, ask}
use Rattle.cue_wire.specs.Sessions.{Served}
use Rattle.cue_net.specs.Printed.{IsPrintedExport}
use Rattle.cue_net.specs.Talks.{Talk, AreReplies}
use Rattle.cue_net.specs.Told.{ReportReplies}

-- A site with the one table accepts what it is handed, and has the other table then. What is only
-- asked changes nothing.
abbrev pub SiteAccepts : Request → Table → Table → Type 0
SiteAccepts (text t) before after = SubmitsText t before after Accepted
SiteAccepts (state bytes) before after = TakesState bytes before after Accepted
SiteAccepts (ask question) before after = after ≡ before

-- so it is with all these inputs, one after the other
unfoldable pub AcceptsAll : List requests.Request → Table → Table → Type 0
AcceptsAll [] before after = after ≡ before
AcceptsAll (input ∷ inputs) before after =
    (between : Table) × SiteAccepts (request_of_client input) before between
    × AcceptsAll inputs between after

-- Where a site has read just what was sent, and its replies are what was heard: what is answered is
-- the site's export, and the site has accepted all inputs.
abbrev pub AreTrue : Type 0
AreTrue =
    (inputs : List requests.Request) (talk : Talk) (replies : List (List ℕ)) (last : List ℕ)
    (answer : Answer) (before after : Table) (rest : List ℕ)
    → AreReplies inputs talk replies last → ReportReplies replies last (Ok answer)
    → Served talk.sent rest before after [] talk.heard → IsLast rest
    → AcceptsAll inputs before after × IsPrintedExport after answer
