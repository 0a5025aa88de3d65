use Rattle.std.proofs.Common.{Bool, List, length, sym, ap, arith, ◌∙◌}
use Rattle.bc_flow.specs.BitSet.{has}
use Rattle.bc_loans.specs.Flows.{inside}
use Rattle.bc_loans.proofs.Overwriting.{member_within}
use Rattle.bc_loans.proofs.Sweeping.{IsSwept-none, IsSwept-skip, IsSwept-more, unreached}
use Rattle.bc_loans.proofs.sweeps.Sweep.sweep.Goals as goal

pub loop-point-init : goal.loop-point-init
loop-point-init c =
    let flow = c.args.flow.now in
    record {
      sweep = c.requires.sweep;
      swept = IsSwept-none flow.edges.now flow.steps.now flow.set.loans.now (inside flow) c.args.word c.args.self.now.rows;
    }

pub row-requires : goal.row-requires
row-requires c = c.loop-point.invariant.sweep.set.some

pub visit-again-requires : goal.visit-again-requires
visit-again-requires c =
    let sweep = c.loop-point.invariant.sweep in
    record {
      word = c.requires.word;
      point = omega (arith, member_within c.row.result c.in-Some.point c.in-Some.ensures.is_member, ap length c.row.ensures, sweep.set.size);
      sweep = sweep;
    }

pub loop-point-smaller : goal.loop-point-smaller
loop-point-smaller c =
    omega (arith, member_within c.row.result c.in-Some.point c.in-Some.ensures.is_member, ap length c.row.ensures, c.loop-point.invariant.sweep.set.size, c.in-Some.ensures.onward)

pub loop-point-preserved : goal.loop-point-preserved
loop-point-preserved c =
    let flow = c.args.flow.now in
    let invariant = c.loop-point.invariant in
    let point = c.in-Some.point in
    record {
      sweep = c.visit-again.ensures.sweep;
      swept = IsSwept-more flow.edges.now flow.steps.now flow.set.loans.now (inside flow) c.args.word point c.loop-point.again c.visit-again.result c.args.self.now.rows c.loop-point.self.rows c.visit-again.new.self.rows
          (IsSwept-skip flow.edges.now flow.steps.now flow.set.loans.now (inside flow) c.args.word c.loop-point.from point c.loop-point.again c.args.self.now.rows c.loop-point.self.rows invariant.swept
          (λ m low high. unreached c.args.word c.loop-point.self.rows c.loop-point.self.reached invariant.sweep.reached m (ap (λ (s : List Bool). has s m) (sym c.row.ensures) ∙ c.in-Some.ensures.least m low high)))
          c.visit-again.ensures.pushed;
    }

pub returns-clause-swept : goal.returns-clause-swept
returns-clause-swept c =
    let flow = c.args.flow.now in
    let invariant = c.loop-point.invariant in
    IsSwept-skip flow.edges.now flow.steps.now flow.set.loans.now (inside flow) c.args.word c.loop-point.from (length flow.steps.now) c.loop-point.again c.args.self.now.rows c.loop-point.self.rows invariant.swept
    (λ m low high. unreached c.args.word c.loop-point.self.rows c.loop-point.self.reached invariant.sweep.reached m (ap (λ (s : List Bool). has s m) (sym c.row.ensures) ∙ c.in_default.ensures m low))
