use Rattle.std.proofs.Common.{reverse, ◌∙◌, rules, tests}
use Rattle.std.proofs.lemmas.Iterator.Adapters.{YieldsList-from_rev_slice}
use Rattle.std.proofs.lemmas.Iterator.Search.{any_from_yields_List}
use Rattle.bc_breaches.specs.Lookups.{is_extern}
use Rattle.bc_breaches.proofs.Looking.{found_extern}
use Rattle.bc_breaches.proofs.lookup.has_extern.Goals as goal

pub returns : goal.returns
returns c =
    let earlier = c.args.earlier.now in
    let name = c.args.name.now in
    any_from_yields_List (is_extern name) _ _ c.any.result c.any.ensures.ran (YieldsList-from_rev_slice earlier cc) (λ x b q k. search (rules, tests)) ∙ found_extern (reverse earlier) name
