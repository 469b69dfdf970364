-- Words over a network, by what their calls came to.
use Rattle.std.proofs.Common.{◌≡◌, List, Result, Ok, Err, IfOk, IfErr, refl, subst, inr}
use Rattle.cue_net.specs.declared.halt.NetError.{NetError}
use Rattle.cue_net.specs.Halts.{IsDeviceOrMemory}
use Rattle.cue_net.specs.Printed.{IsServedExport}
use Rattle.cue_wire.specs.declared.request.Request.{Request}
use Rattle.cue_program.specs.declared.Answer.{Answer}
use Rattle.cue_program.specs.declared.RunError.{RunError}
use Rattle.cue_program.specs.Inputs.{Inputs}
use Rattle.cue_program.specs.Requests.{AreRequests}
use Rattle.cue_command.specs.Networks.{IsNetworkEndedBy, IsServed, IsTalkOn, IsTalkStopOn}

-- a talk that was answered, and one that was stopped
pub talk_answered :
    {X : Type 0} (x : X) (Talks : List Request → Result Answer NetError → Type 0) (inputs : Inputs) (requests sent : List Request) (came : Result Answer NetError) (result : Result Answer RunError)
    → sent ≡ requests → AreRequests inputs requests → Talks sent came → IfOk result (λ answer. came ≡ Ok answer)
    → IfOk result (λ answer. IsTalkOn Talks inputs (Ok answer) × (x ≡ x))
talk_answered x Talks inputs requests sent came (Ok answer) is asked told h =
    ((requests, asked, subst (λ (r : Result Answer NetError). Talks requests r) h (subst (λ (rs : List Request). Talks rs came) is told)), refl)
talk_answered x Talks inputs requests sent came (Err stop) is asked told h = tt

pub talk_stopped :
    {X : Type 0} (x : X) (Talks : List Request → Result Answer NetError → Type 0) (inputs : Inputs) (requests sent : List Request) (came : Result Answer NetError) (result : Result Answer RunError)
    → sent ≡ requests → AreRequests inputs requests → Talks sent came → IfErr result (IsNetworkEndedBy (λ halt. came ≡ Err halt))
    → IfErr result (λ stop. IsTalkStopOn Talks inputs stop × (x ≡ x))
talk_stopped x Talks inputs requests sent came (Ok answer) is asked told h = tt
talk_stopped x Talks inputs requests sent came (Err stop) is asked told h =
    let all = subst (λ (rs : List Request). Talks rs came) is told in
    (inr (h.0, (requests, asked, subst (λ (r : Result Answer NetError). Talks requests r) h.1 all), h.2), refl)

-- so it is with serving
pub is_served : (came : Result Answer NetError) → IfOk came IsServedExport → IfErr came IsDeviceOrMemory → IsServed came
is_served (Ok answer) export halt = export
is_served (Err why) export halt = halt

pub serving_answered :
    {X : Type 0} (x : X) (Serves : Result Answer NetError → Type 0) (came : Result Answer NetError) (result : Result Answer RunError) → Serves came → IfOk result (λ answer. came ≡ Ok answer)
    → IfOk result (λ answer. Serves (Ok answer) × (x ≡ x))
serving_answered x Serves came (Ok answer) told h = (subst Serves h told, refl)
serving_answered x Serves came (Err stop) told h = tt

pub serving_stopped :
    {X : Type 0} (x : X) (Serves : Result Answer NetError → Type 0) (came : Result Answer NetError) (result : Result Answer RunError) → Serves came
    → IfErr result (IsNetworkEndedBy (λ halt. came ≡ Err halt)) → IfErr result (λ stop. IsNetworkEndedBy (λ halt. Serves (Err halt)) stop × (x ≡ x))
serving_stopped x Serves came (Ok answer) told h = tt
serving_stopped x Serves came (Err stop) told h = ((h.0, subst Serves h.1 told, h.2), refl)
