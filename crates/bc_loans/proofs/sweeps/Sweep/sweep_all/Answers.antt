use Rattle.std.proofs.Common.{refl, ◌∙◌}
use Rattle.bc_loans.specs.Flows.{inside}
use Rattle.bc_loans.proofs.Closing.{walks_in_rows}
use Rattle.bc_loans.proofs.sweeps.Sweep.sweep_all.Goals as goal

pub sweeps-init : goal.sweeps-init
sweeps-init c = record {
  sweep = c.requires.sweep;
  begun = c.requires.begun;
  others = λ n k _. refl;
}

pub sweeps-smaller : goal.sweeps-smaller
sweeps-smaller c = c.sweep.ensures.swept.grown c.sweeps-test.true

pub sweeps-preserved : goal.sweeps-preserved
sweeps-preserved c =
    let invariant = c.sweeps.invariant in
    let swept = c.sweep.ensures.swept in
    record {
      sweep = c.sweep.ensures.sweep;
      begun = record {
        seeds = λ n k at h. swept.kept n k (invariant.begun.seeds n k at h);
        sound = swept.sound invariant.begun.sound;
      };
      others = λ n k apart. swept.others n k apart ∙ invariant.others n k apart;
    }

pub returns-clause-walked : goal.returns-clause-walked
returns-clause-walked c =
    let begun = c.sweeps.invariant.begun in
    let swept = c.sweep.ensures.swept in
    let flow = c.args.flow.now in
    record {
      walks = λ n l at. (
        λ h. swept.sound begun.sound n l h,
        λ h. walks_in_rows flow.edges.now flow.steps.now flow.set.loans.now (inside flow) c.args.word c.sweep.new.self.rows flow.within
            (λ m k own s. swept.kept m k (begun.seeds m k own s)) (λ m low. swept.closed c.sweeps-test.false m low) n l at h,
      );
      others = λ n l apart. swept.others n l apart ∙ c.sweeps.invariant.others n l apart;
    }
