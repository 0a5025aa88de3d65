use Rattle.std.proofs.Common.{◌≡◌, ℕ, ◌↔◌, true, map}
use Rattle.std.proofs.lemmas.Result.{IfOk-weaker}
use Rattle.bc_flow.specs.Graph.{turned}
use Rattle.bc_flow.specs.Flow.{holds, IsFlow}
use Rattle.bc_bodies.specs.Mir.{edges_of}
use Rattle.bc_live.specs.Live.{IsLive}
use Rattle.bc_live.proofs.Paths.{sets_are_live}
use Rattle.bc_live.proofs.liveness.live_by_point.Goals as goal

pub returns-clause-live : goal.returns-clause-live
returns-clause-live c =
    let mir = c.args.typed.now in
    IfOk-weaker c.flow_back.result (λ rows. IsFlow (map turned (edges_of mir)) c.in_ok-seeds.seeds c.in_ok-kills.kills rows) (λ rows. (l p : ℕ) → (holds rows p l ≡ true) ↔ IsLive mir l p)
    (λ rows flow. sets_are_live mir c.in_ok-seeds.seeds c.in_ok-kills.kills rows c.in_ok-seeds.ensures.uses c.in_ok-kills.ensures.definitions flow)
    c.flow_back.ensures.flow
