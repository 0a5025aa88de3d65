use Rattle.std.proofs.Common.{arith, ◌≡◌, ◌+◌, ◌≤◌, ℕ, List, length, map, true≢false, refl, ap, sym, ◌∙◌, subst}
use Rattle.std.specs.Prelude.{true, Result, IfErr}
use Rattle.std.proofs.lemmas.List.{length-map}
use Rattle.bc_share.specs.declared.db.TheConstants.{MOST_ENTRIES}
use Rattle.cli_file.specs.declared.stop.Stop.{Stop}
use Rattle.cli_file.specs.declared.stop.Stop.TheVariants.{Audit}
use Rattle.cli_file.specs.Stops.{is_of_calls}
use Rattle.bc_calls.specs.declared.call.Event.{Event}
use Rattle.cli_file.specs.Changes.{seen}
use Rattle.cli_file.proofs.Stopping.{is_stop}
use Rattle.cli_file.proofs.Closing.{only_audited}
use Rattle.cli_check.specs.Run.{error_lines, AreLegal}
use Rattle.cli_check.specs.Performed.{Adds}
use Rattle.cli_check.proofs.Performing.{always_refused, refused_map}
use Rattle.cli_check.proofs.Shorter.{the_last}
use Rattle.cli_check.proofs.Ending.{runs_of, begins_of, begins_none, closed_with, legal_adds, owed_of, prints_of, shown_of}
use Rattle.cli_check.proofs.Closing.{one_session}
use Rattle.cli_check.proofs.command.call_and_close.Goals as goal

pub unreachable-requires : goal.unreachable-requires
unreachable-requires g c =
    let one : length c.in_ok-db.sessions.items ≡ 1 = ap length c.in_ok-db.ensures.opened.1 in
    omega (arith, one, c.in_ok-db.sessions.ok.0, c.in_default.ensures.cases.0)

pub returns-in_err-db-clause-refused : goal.returns-in_err-db-clause-refused
returns-in_err-db-clause-refused g c = always_refused _ (begins_none c.args.asking.now.form.now (map seen c.args.changes.items) c.args.asking.now.names.now.keys _ _)

pub returns-in_err-closed-clause-other : goal.returns-in_err-closed-clause-other
returns-in_err-closed-clause-other g c =
    let are = one_session _ _ _ c.in-Some.session c.make_all-made.new.session c.in_ok-db.ensures.opened.1 c.in-Some.ensures.items c.push_reserved.ensures.items c.make_all-made.ensures.still in
    let audit = only_audited _ 1 _ c.in_err-closed.field-0.0 c.in_ok-db.ensures.opened.0 are c.in_err-closed.ensures.fault in
    let is = is_stop c.from_residual-in_err-closed.result _ Audit c.from_residual-in_err-closed.ensures.1 audit in
    subst (λ (r : Result ℕ Stop). IfErr r (λ stop. is_of_calls stop ≡ true)) (sym is) refl

pub returns-in_err-closed-clause-audited : goal.returns-in_err-closed-clause-audited
returns-in_err-closed-clause-audited g c e =
    let new = (the_last _ _ _ (sym c.in_ok-db.ensures.opened.1 ∙ c.in-Some.ensures.items)).1 in
    let made = c.make_all-made.ensures in
    shown_of c.args.asking.now.form.now (map seen c.args.changes.items) c.args.asking.now.names.now.keys c.in-Some.session c.make_all-made.new.session _ _ _ _ c.make_all-made.result new made.performed made.refused made.untold made.silent made.stop (λ failed. absurd (true≢false (sym (c.is_unwritten.ensures.1 failed) ∙ c.if-is_unwritten.false)))

pub returns-then-is_unwritten-clause-unwritten : goal.returns-then-is_unwritten-clause-unwritten
returns-then-is_unwritten-clause-unwritten g c e =
    let new = (the_last _ _ _ (sym c.in_ok-db.ensures.opened.1 ∙ c.in-Some.ensures.items)).1 in
    prints_of (map seen c.args.changes.items) error_lines c.in-Some.session _ _ new (c.make_all-made.ensures.unwritten e)

pub returns-clause-done : goal.returns-clause-done
returns-clause-done g c =
    let closed = closed_with _ _ _ c.in-Some.session c.make_all-made.new.session c.in_ok-closed.field-0 c.in_ok-db.ensures.opened.1 c.in-Some.ensures.items c.push_reserved.ensures.items c.in_ok-closed.ensures.one_history in
    let few : length (map seen c.args.changes.items) + length c.args.asking.now.names.now.keys ≤ MOST_ENTRIES = omega (arith, length-map c.args.changes.items seen, c.in_ok-capacity.ensures.fits, c.len.ensures, c.len-2.ensures.len, c.args.changes.ok.0) in
    runs_of c.args.asking.now.form.now (map seen c.args.changes.items) c.args.asking.now.names.now.keys c.in-Some.session c.make_all-made.new.session _ _ _ _ c.in_ok-closed.field-0 c.make_all-made.result closed.0 few closed.1 c.make_all-made.ensures.performed

pub returns-clause-untold : goal.returns-clause-untold
returns-clause-untold g c e =
    let closed = closed_with _ _ _ c.in-Some.session c.make_all-made.new.session c.in_ok-closed.field-0 c.in_ok-db.ensures.opened.1 c.in-Some.ensures.items c.push_reserved.ensures.items c.in_ok-closed.ensures.one_history in
    owed_of (λ (events : List Event). Adds events c.in-Some.session c.make_all-made.new.session) AreLegal (map seen c.args.changes.items) (legal_adds c.in-Some.session c.make_all-made.new.session c.in_ok-closed.field-0 closed.0 closed.1) (c.make_all-made.ensures.untold e)

pub returns-clause-refused : goal.returns-clause-refused
returns-clause-refused g c =
    let closed = closed_with _ _ _ c.in-Some.session c.make_all-made.new.session c.in_ok-closed.field-0 c.in_ok-db.ensures.opened.1 c.in-Some.ensures.items c.push_reserved.ensures.items c.in_ok-closed.ensures.one_history in
    refused_map c.make_all-made.result (λ some. begins_of c.args.asking.now.form.now (map seen c.args.changes.items) c.args.asking.now.names.now.keys c.in-Some.session c.make_all-made.new.session _ _ _ _ c.in_ok-closed.field-0 closed.0 closed.1 some) c.make_all-made.ensures.refused
