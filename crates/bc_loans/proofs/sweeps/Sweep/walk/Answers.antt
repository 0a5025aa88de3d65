use Rattle.std.proofs.Common.{arith}
use Rattle.bc_loans.specs.Flows.{inside}
use Rattle.bc_loans.proofs.Sweeping.{first_are_reached, AreWalked-sound, AreWalked-more}
use Rattle.bc_loans.proofs.sweeps.Sweep.walk.Goals as goal

pub sweep_all-requires : goal.sweep_all-requires
sweep_all-requires c =
    let flow = c.args.flow.now in
    let ready = c.requires.ready in
    let walked = c.requires.walked in
    record {
      word = c.requires.word;
      sweep = record {
        ready = record { points = ready.points; rows = ready.rows; long = rw c.in_ok-forget.ensures.words ready.long };
        told = c.in_ok-forget.ensures.told (inside flow) c.args.word;
        set = c.in_ok-self.ensures.set;
        reached = first_are_reached flow.edges.now flow.steps.now flow.set.loans.now (inside flow) c.args.word c.args.self.now.rows c.in_ok-self.field-0 c.in_ok-self.ensures.targets
            (λ n l at. walked.rest n l (omega (arith, at)));
      };
      begun = record {
        seeds = λ n l at h. (walked.rest n l (omega (arith, at))).1 h;
        sound = AreWalked-sound flow.edges.now flow.steps.now flow.set.loans.now (inside flow) c.args.word c.args.self.now.rows walked;
      };
    }

pub returns : goal.returns
returns c =
    let flow = c.args.flow.now in
    record {
      ready = c.sweep_all.ensures.sweep.ready;
      walked = AreWalked-more flow.edges.now flow.steps.now flow.set.loans.now (inside flow) c.args.word c.args.self.now.rows c.sweep_all.new.self.rows c.requires.walked c.sweep_all.ensures.walked.others c.sweep_all.ensures.walked.walks;
    }
