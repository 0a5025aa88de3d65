use Rattle.std.proofs.Common.{◌+◌, ◌*◌, ◌<◌, ℕ, [], length, refl, sym, subst, arith, ◌∙◌}
use Rattle.std.proofs.lemmas.Option.{slice_get_read}
use Rattle.std.specs.List.{All}
use Rattle.bc_points.specs.declared.loan.Loan.{Loan}
use Rattle.bc_judge.proofs.Locals.{local_within, candidates-more, candidates-all}
use Rattle.bc_judge.proofs.candidates.candidate_rows.Goals as goal

pub loop-number-init : goal.loop-number-init
loop-number-init c = record {
  rows = subst (λ (count : ℕ). All (λ (made : ℕ × Loan). 2 * made.1.path.local + 1 < count) c.args.loans.now) (sym c.in_ok-rows.ensures.rows) c.rows_bound.ensures;
  sizes = λ n below. c.in_ok-rows.ensures.size n [] (omega (arith, below, c.in_ok-rows.ensures.rows));
  added = λ kind l made below _ _. absurd (omega (arith, below));
}

pub add_loan-requires-clause-number : goal.add_loan-requires-clause-number
add_loan-requires-clause-number c = λ n below. omega (arith, c.loop-number.invariant.sizes n below, c.loop-number-test.true)

pub add_loan-requires-clause-local : goal.add_loan-requires-clause-local
add_loan-requires-clause-local c =
    let made = c.index-loans-number.result in
    let is = slice_get_read c.args.loans.now (length c.args.loans.now) c.loop-number.number made refl c.loop-number-test.true c.index-loans-number.is in
    local_within c.args.loans.now c.loop-number.number made (length c.loop-number.rows) is c.loop-number.invariant.rows

pub loop-number-preserved : goal.loop-number-preserved
loop-number-preserved c =
    let invariant = c.loop-number.invariant in
    let add = c.add_loan.ensures in
    let made = c.index-loans-number.result in
    let is = slice_get_read c.args.loans.now (length c.args.loans.now) c.loop-number.number made refl c.loop-number-test.true c.index-loans-number.is in
    record {
      rows = subst (λ (count : ℕ). All (λ (made : ℕ × Loan). 2 * made.1.path.local + 1 < count) c.args.loans.now) (sym add.rows) invariant.rows;
      sizes = λ n below. add.sizes n ∙ invariant.sizes n (omega (arith, below, add.rows));
      added = candidates-more c.args.loans.now c.loop-number.number made c.loop-number.rows c.add_loan.new.rows is add.kept add.added invariant.added;
    }

pub returns : goal.returns
returns c = candidates-all c.args.loans.now c.loop-number.number c.loop-number.rows (omega (arith, c.loop-number-test.false)) c.loop-number.invariant.added
