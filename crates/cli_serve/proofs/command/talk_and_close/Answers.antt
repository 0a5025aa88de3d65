use Rattle.std.proofs.Common.{◌≡◌, List, length, ap, ◌∙◌, refl, subst, sym, arith}
use Rattle.std.specs.Prelude.{All}
use Rattle.bc_share.specs.Sessions.{SessionView, new_session}
use Rattle.cli_serve.proofs.Opening.{are_new, length-new}
use Rattle.cli_serve.proofs.Closing.{not_foreign}
use Rattle.cli_serve.proofs.command.talk_and_close.Goals as goal

pub converse-requires-clause-are_new : goal.converse-requires-clause-are_new
converse-requires-clause-are_new g c =
    let count = c.args.service.now.sessions in
    let long = ap length c.in-Ok.ensures.opened.1 ∙ length-new count in
    let most = c.args.service.now.few in
    λ κs lives. record {
      few = omega (arith, long, most);
      sized = refl;
      each = subst (λ (l : List SessionView). All (λ (s : SessionView). s ≡ new_session 0 s.number) l) (sym c.in-Ok.ensures.opened.1) (are_new count);
    }

pub unreachable-requires : goal.unreachable-requires
unreachable-requires g c =
    let talk = c.in-Ok-converse.ensures in
    let long : length c.in-Ok-converse.talked.sessions.items ≡ c.args.service.now.sessions = talk.sized ∙ ap length c.in-Ok.ensures.opened.1 ∙ length-new c.args.service.now.sessions in
    not_foreign c.in-Ok.opened.0 c.args.service.now.sessions c.in-Ok-converse.talked.sessions.items c.in-Ok.ensures.opened.0 long talk.own (rw c.in-Err-Foreign.field-0-is at c.in-Err-Foreign.ensures.fault)
