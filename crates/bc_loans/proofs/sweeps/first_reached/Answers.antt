use Rattle.std.proofs.Common.{◌<◌, ◌+◌, ◌*◌, [], length, arith}
use Rattle.std.proofs.lemmas.Option.{slice_get-get_or}
use Rattle.bc_loans.proofs.Sweeping.{targets_more, targets_all}
use Rattle.bc_loans.proofs.sweeps.first_reached.Goals as goal

pub loop-k-init : goal.loop-k-init
loop-k-init c = record {
  set = record { some = omega (arith, c.in_ok-reached.ensures.rows); size = c.in_ok-reached.ensures.size 0 [] (omega (arith, c.in_ok-reached.ensures.rows)) };
  targets = λ j low. absurd (omega (arith, low));
}

pub reach_from-requires : goal.reach_from-requires
reach_from-requires c =
    let within : 64 * c.args.word + c.loop-k.k < length c.args.flow.now.set.loans.now = omega (arith, c.loop-k-test.true, c.min-k-end.ensures) in
    record {
      set = c.loop-k.invariant.set;
      point = c.args.flow.now.makers (64 * c.args.word + c.loop-k.k) c.index-loans-first.result within;
    }

pub loop-k-preserved : goal.loop-k-preserved
loop-k-preserved c =
    let loans = c.args.flow.now.set.loans.now in
    let within : 64 * c.args.word + c.loop-k.k < length loans = omega (arith, c.loop-k-test.true, c.min-k-end.ensures) in
    record {
      set = c.reach_from.ensures.set;
      targets = targets_more c.args.flow.now.edges.now loans c.args.word c.loop-k.k _ c.loop-k.reached c.reach_from.new.reached (slice_get-get_or loans (64 * c.args.word + c.loop-k.k) _ within)
          c.reach_from.ensures.kept c.reach_from.ensures.reached c.loop-k.invariant.targets;
    }

pub returns-clause-targets : goal.returns-clause-targets
returns-clause-targets c =
    targets_all c.args.flow.now.edges.now c.args.flow.now.set.loans.now c.args.word c.loop-k.k c.loop-k.reached (λ more. omega (arith, more, c.loop-k-test.false, c.min-k-end.ensures)) c.loop-k.invariant.targets
