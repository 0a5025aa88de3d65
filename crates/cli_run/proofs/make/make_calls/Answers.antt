use Rattle.std.proofs.Common.{length, ap, arith}
use Rattle.bc_share.proofs.Closings.{length-new_sessions}
use Rattle.cli_file.specs.declared.stop.Stop.TheVariants.{Audit}
use Rattle.cli_file.proofs.Stopping.{is_stop}
use Rattle.cli_file.proofs.Closing.{only_audited}
use Rattle.cli_run.proofs.Made.{made_of, new_are_sessions, ran_are_sessions, scripts_sized}
use Rattle.cli_run.proofs.Stopping.{audited_stop}
use Rattle.cli_run.proofs.make.make_calls.Goals as goal

pub run_sessions-requires-after_bounds : goal.run_sessions-requires-after_bounds
run_sessions-requires-after_bounds g c bounds lives = scripts_sized c.args.sessions c.args.calls.now _ _ c.in_ok-db.ensures.opened.1 c.in_ok-scripts.ensures

pub part-requires-clause-room : goal.part-requires-clause-room
part-requires-clause-room g c =
    let opened = ap length c.in_ok-db.ensures.opened.1 in
    let few = length-new_sessions 0 c.args.sessions in
    omega (arith, c.in-Ok.ensures.run.sized, opened, few, c.from.ensures, c.in_ok-back.ensures.capacity)

pub part-requires-clause-room_for_ends : goal.part-requires-clause-room_for_ends
part-requires-clause-room_for_ends g c =
    let opened = ap length c.in_ok-db.ensures.opened.1 in
    let few = length-new_sessions 0 c.args.sessions in
    omega (arith, c.in-Ok.ensures.run.sized, opened, few, c.from-2.ensures, c.in_ok-ends.ensures.capacity)

pub returns-in_ok-history-in-Ok-clause-made : goal.returns-in_ok-history-in-Ok-clause-made
returns-in_ok-history-in-Ok-clause-made g c =
    made_of c.args.sessions c.args.calls.now c.in_ok-db.opened.items c.in_ok-scripts.scripts.items c.in-Ok.ran.items c.part.new.sessions.items c.part.new.ends.items c.in_ok-history-in-Ok.history
    c.in_ok-db.ensures.opened.1 c.in_ok-scripts.ensures c.in-Ok.ensures.run c.part.ensures.sessions c.part.ensures.ends c.in_ok-history-in-Ok.ensures.one_history

pub returns-in_err-history-in-Ok-clause-stop : goal.returns-in_err-history-in-Ok-clause-stop
returns-in_err-history-in-Ok-clause-stop g c =
    let are = ran_are_sessions c.args.sessions c.in_ok-db.opened.items c.in_ok-scripts.scripts.items c.in-Ok.ran.items c.part.new.sessions.items c.in_ok-db.ensures.opened.1 c.in-Ok.ensures.run c.part.ensures.sessions in
    let audit = only_audited _ c.args.sessions _ c.in_err-history-in-Ok.field-0.0 c.in_ok-db.ensures.opened.0 are c.in_err-history-in-Ok.ensures.fault in
    audited_stop _ (is_stop c.from_residual-in_err-history-in-Ok.result _ Audit c.from_residual-in_err-history-in-Ok.ensures.1 audit)

pub returns-in_err-close-in-Err-clause-stop : goal.returns-in_err-close-in-Err-clause-stop
returns-in_err-close-in-Err-clause-stop g c =
    let are = new_are_sessions c.args.sessions c.in_ok-db.opened.items _ c.in_ok-db.ensures.opened.1 c.in-Err.ensures.kept in
    let audit = only_audited _ c.args.sessions _ c.in_err-close-in-Err.field-0.0 c.in_ok-db.ensures.opened.0 are c.in_err-close-in-Err.ensures.fault in
    audited_stop _ (is_stop c.from_residual-in_err-close-in-Err.result _ Audit c.from_residual-in_err-close-in-Err.ensures.1 audit)
