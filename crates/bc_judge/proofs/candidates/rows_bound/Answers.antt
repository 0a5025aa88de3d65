use Rattle.std.proofs.Common.{◌≡◌, ℕ, ◌+◌, ◌*◌, ◌<◌, ◌≤◌, take, nat_cmp, arith}
use Rattle.std.specs.Ordering.{ord_max}
use Rattle.std.proofs.lemmas.List.{take_all}
use Rattle.std.proofs.lemmas.List.Elements.{All-more, All-weaker}
use Rattle.std.proofs.lemmas.Grind.{common_steps}
use Rattle.bc_points.specs.declared.loan.Loan.{Loan}
use Rattle.bc_judge.proofs.candidates.rows_bound.Goals as goal

max_of : (a b most : ℕ) → most ≡ ord_max nat_cmp a b → (n : ℕ) → a ≤ n → b ≤ n → (a ≤ most) × (b ≤ most) × (most ≤ n)
max_of a b most is n low high = grind (arith, common_steps)

pub loop-made-preserved : goal.loop-made-preserved
loop-made-preserved c =
    let loans = c.args.loans.now in
    let i = c.loop-made.made-index in
    let bound = c.max-bound.result in
    let most = max_of c.loop-made.bound (2 * c.from.result + 2) bound c.max-bound.ensures 512 c.loop-made.invariant.small (omega arith) in
    let Below : ℕ → ℕ × Loan → Type 0 = λ n made. 2 * made.1.path.local + 1 < n in
    record {
      small = most.2;
      below = All-more (Below bound) loans i c.made-item.result c.loop-made-test.true
          (All-weaker (Below c.loop-made.bound) (Below bound) (λ made below. omega (arith, below, most.0)) (take i loans) c.loop-made.invariant.below)
          (rw (← c.made-item.is) (omega (arith, most.1)));
    }

pub returns : goal.returns
returns c = rw (take_all _ _ c.loop-made-test.false) at c.loop-made.invariant.below
