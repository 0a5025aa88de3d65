use Rattle.std.proofs.Common.{◌+◌, inl, inr, arith, ◌∙◌}
use Rattle.std.proofs.lemmas.Bool.{cases_lt, lt-ltb, le-ltb}
use Rattle.bc_flow.proofs.Rows.{row_filled, sizes_kept}
use Rattle.bc_cons.specs.Starts.{universal_start}
use Rattle.bc_cons.proofs.starts.universal_rows.Goals as goal

pub loop-region-preserved : goal.loop-region-preserved
loop-region-preserved c =
    let invariant = c.loop-region.invariant in
    let new = c.add_universal.new.rows in
    let filled = row_filled (universal_start c.args.universals c.args.points) c.loop-region.rows new c.loop-region.region c.add_universal.ensures.others c.add_universal.ensures.members invariant.starts invariant.rest in
    record {
      regions = c.add_universal.ensures.rows ∙ invariant.regions;
      elements = sizes_kept (c.args.points + c.args.universals) c.loop-region.rows new c.loop-region.region c.add_universal.ensures.rows c.add_universal.ensures.others c.add_universal.ensures.size invariant.elements;
      starts = filled.0;
      rest = filled.1;
    }

pub returns-clause-starts : goal.returns-clause-starts
returns-clause-starts c = λ r e. elim (cases_lt r c.args.universals) [
  | inl below ↦ rw (lt-ltb r c.args.universals below) (c.loop-region.invariant.starts r e (omega (arith, below, c.loop-region-test.false)))
  | inr past ↦ rw (le-ltb r c.args.universals past) (c.loop-region.invariant.rest r e (omega (arith, past, c.loop-region-test.false)))
]
