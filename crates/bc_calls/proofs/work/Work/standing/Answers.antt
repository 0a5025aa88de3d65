use Rattle.bc_prov.specs.Pieces.{rows_of}
use Rattle.bc_calls.proofs.Parts.{part_fitting}
use Rattle.bc_calls.proofs.work.Work.standing.Goals as goal

pub returns-then-holds-clause-fit : goal.returns-then-holds-clause-fit
returns-then-holds-clause-fit c =
    let w = c.self.inside in
    let held = c.holds.ensures.0 c.if-holds.true in
    part_fitting c.args.shelf.now.held w.snapshot.root w.snapshot.types w.snapshot.units (rows_of w.pieces) held.types held.units c.self.invariant.2
