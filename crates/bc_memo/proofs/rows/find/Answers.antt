use Rattle.std.proofs.Common.{rules}
use Rattle.std.proofs.lemmas.Fn.{always_returns_same}
use Rattle.bc_names.specs.Names.{name_order}
use Rattle.bc_memo.proofs.Places.{found_if, gap_if}
use Rattle.bc_memo.proofs.rows.find.Goals as goal

pub returns-clause-found : goal.returns-clause-found
returns-clause-found g c =
    found_if c.args.rows.now c.args.name.now c.binary_search_by.result c.requires c.binary_search_by.ensures.bound
    (c.binary_search_by.ensures.position (λ e. name_order e.0 c.args.name.now) (always_returns_same _ _ _ (λ a r f k. search rules)))

pub returns-clause-missed : goal.returns-clause-missed
returns-clause-missed g c =
    gap_if c.args.rows.now c.args.name.now c.binary_search_by.result c.requires c.binary_search_by.ensures.bound
    (c.binary_search_by.ensures.position (λ e. name_order e.0 c.args.name.now) (always_returns_same _ _ _ (λ a r f k. search rules)))
