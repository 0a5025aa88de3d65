use Rattle.std.proofs.Common.{◌≡◌, ◌++◌, ℕ, List, Option, Some, None, get_or, sym, ap, append-nil, ◌∙◌}
use Rattle.std.specs.List.{flat_map, enumerate_from}
use Rattle.bc_bodies.specs.declared.mir.Step.{Step}
use Rattle.bc_points.specs.declared.loan.Loan.{Loan}
use Rattle.bc_loans.specs.Loans.{with_point, loans_of_step}
use Rattle.bc_loans.proofs.Listing.{listed-turn, listed-all}
use Rattle.bc_loans.proofs.loan_list.loans_of_steps.Goals as goal
use Rattle.bc_loans.proofs.loan_list.loans_of_steps.Goals.{in-Some+in_ok-push-in-Some, in-None}

pub loop-point-preserved : goal.loop-point-preserved
loop-point-preserved c =
    let steps = c.args.steps.now in
    let i = c.loop-point.point in
    let items = c.loop-point.loans.items in
    let step = c.index-steps-point.result in
    let told : (o : Option Loan) → c.loan_of.result ≡ o → items ++ with_point i o ≡ items ++ loans_of_step (i, get_or steps i step) =
    λ o is. ap (λ (l : List (ℕ × Loan)). items ++ l) (ap (with_point i) (sym is ∙ c.loan_of.ensures) ∙ ap (λ (s : Step). loans_of_step (i, s)) c.index-steps-point.is) in
    let turn = listed-turn loans_of_step (flat_map loans_of_step (enumerate_from 0 steps)) items steps i step in
    elim c.match-loan_of.branch [
      | in-Some+in_ok-push-in-Some w ↦ rw w.loans-is (turn _ c.loop-point-test.true (w.in_ok-push-in-Some.ensures.items ∙ told (Some w.in-Some.loan) w.in-Some.is) c.loop-point.invariant)
      | in-None w ↦ rw w.loans-is (turn items c.loop-point-test.true (sym (append-nil items) ∙ told None w.in-None.is) c.loop-point.invariant)
    ]

pub returns : goal.returns
returns c =
    listed-all loans_of_step (flat_map loans_of_step (enumerate_from 0 c.args.steps.now)) c.loop-point.loans.items c.args.steps.now c.loop-point.point c.loop-point-test.false c.loop-point.invariant
