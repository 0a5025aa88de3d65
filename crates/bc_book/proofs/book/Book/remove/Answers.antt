use Rattle.bc_book.proofs.Fitting.{none_fit}
use Rattle.bc_book.proofs.book.Book.remove.Goals as goal

pub append-requires-clause-fit : goal.append-requires-clause-fit
append-requires-clause-fit g c = none_fit _ c.none-effects.result.pieces c.none-effects.ensures.pieces

pub append-requires-clause-published : goal.append-requires-clause-published
append-requires-clause-published g c = none_fit _ c.none-effects.result.pieces c.none-effects.ensures.pieces
