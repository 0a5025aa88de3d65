use Rattle.std.proofs.Common.{sym, subst}
use Rattle.bc_names.specs.Names.{NameParts}
use Rattle.bc_prov.specs.Pieces.{PieceView, IsPieceFor}
use Rattle.bc_prov.specs.State.{at_name}
use Rattle.bc_prov.proofs.Sets.{by_index}
use Rattle.bc_outcomes.proofs.walk.piece_with.Goals as goal

pub returns-then-is_with-2-clause-over : goal.returns-then-is_with-2-clause-over
returns-then-is_with-2-clause-over c =
    let snapshot = c.args.checked.now.snapshot.now in
    let has = λ (entry : NameParts × PieceView). IsPieceFor snapshot.types (at_name snapshot.units c.args.name.now) entry.1 in
    subst has (sym c.entry-item.is) (by_index has c.carried_pieces-entry-items.result.now c.loop-entry.entry-index c.entry-item.result c.carried_pieces-entry-items.ensures c.loop-entry-test.true)
