use Rattle.std.proofs.Common.{◌≤◌, length, sym, ap, ◌∙◌, subst}
use Rattle.std.specs.Prelude.{map}
use Rattle.bc_names.specs.Names.{NameParts}
use Rattle.bc_prov.specs.Outcome.{fault_at}
use Rattle.bc_outcomes.specs.Reported.{errors_in}
use Rattle.bc_outcomes.specs.Visits.{state_in}
use Rattle.bc_outcomes.proofs.Faults.{pieces_of_fault}
use Rattle.bc_outcomes.proofs.Folding.{report_of}
use Rattle.bc_outcomes.proofs.reporting.outcome_held.Goals as goal

pub walk-requires-clause-short : goal.walk-requires-clause-short
walk-requires-clause-short g c = c.root-bytes.ensures.name.depth

pub pieces_of-requires-clause-sound : goal.pieces_of-requires-clause-sound
pieces_of-requires-clause-sound g c = record {
  body = c.args.unit.now;
  held = c.requires.held;
  short = subst (λ (n : NameParts). length n.segments ≤ 7) c.root-root.ensures c.root-bytes.ensures.name.depth;
  faultless = ap (fault_at (state_in c.args.checked.now)) (sym c.root-root.ensures) ∙ sym c.in_ok-fault.ensures.fault ∙ c.in-None.is;
  suited = c.requires.suited;
}

pub returns-in_ok-found-in-None-clause-outcome : goal.returns-in_ok-found-in-None-clause-outcome
returns-in_ok-found-in-None-clause-outcome g c =
    let state = state_in c.args.checked.now in
    report_of state c.args.checked.now.snapshot.now.root (fault_at state c.args.checked.now.snapshot.now.root) c.in_ok-pieces-in-None.pieces.all.items _
    (ap (fault_at state) (sym c.root-root.ensures) ∙ sym c.in_ok-fault.ensures.fault ∙ c.in-None.is)
    c.in_ok-pieces-in-None.ensures.pieces
    (c.from.ensures ∙ c.in_ok-found-in-None.ensures ∙ ap (map errors_in) c.deref.ensures.value)

pub returns-in-Some-clause-pieces : goal.returns-in-Some-clause-pieces
returns-in-Some-clause-pieces g c =
    let state = state_in c.args.checked.now in
    pieces_of_fault state c.args.checked.now.snapshot.now.root c.in-Some.fault _
    (ap (fault_at state) (sym c.root-root.ensures) ∙ sym c.in_ok-fault.ensures.fault ∙ c.in-Some.is)
    c.none.ensures.all

pub returns-in_ok-found-in-None-clause-pieces : goal.returns-in_ok-found-in-None-clause-pieces
returns-in_ok-found-in-None-clause-pieces g c = (c.in_ok-pieces-in-None.ensures.pieces, c.from.ensures ∙ c.in_ok-found-in-None.ensures ∙ ap (map errors_in) c.deref.ensures.value)
