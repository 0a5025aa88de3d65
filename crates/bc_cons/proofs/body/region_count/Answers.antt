use Rattle.std.proofs.Common.{◌≤◌, arith}
use Rattle.bc_cons.proofs.Bounding.{types_bound_least, types_are_below, tys_more, pairs_bound_least}
use Rattle.bc_cons.proofs.body.region_count.Goals as goal

pub returns-clause-count : goal.returns-clause-count
returns-clause-count c =
    rw (c.types_bound-declared.ensures.bound, c.from.ensures, c.universals-universals.ensures.value, c.locals.ensures.value) at c.pairs_bound.ensures.bound

pub returns-clause-few : goal.returns-clause-few
returns-clause-few c =
    omega (arith, c.pairs_bound.ensures.within, c.types_bound-declared.ensures.within, c.from.ensures, c.universals-universals.ensures.value)

pub returns-clause-universals : goal.returns-clause-universals
returns-clause-universals c =
    let types = types_bound_least c.universals-universals.result c.from.result c.locals.result.now in
    let pairs = pairs_bound_least c.universals-universals.result c.types_bound-declared.result c.args.pairs.now in
    omega (arith, c.universals-universals.ensures.value, c.from.ensures, c.types_bound-declared.ensures.bound, c.pairs_bound.ensures.bound, types, pairs)

pub returns-clause-types : goal.returns-clause-types
returns-clause-types c =
    let pairs = pairs_bound_least c.universals-universals.result c.types_bound-declared.result c.args.pairs.now in
    let le : c.types_bound-declared.result ≤ c.pairs_bound.result = rw c.pairs_bound.ensures.bound pairs in
    rw (← c.universals-universals.ensures.value, ← c.locals.ensures.value)
    (tys_more c.universals-universals.result c.types_bound-declared.result c.pairs_bound.result c.locals.result.now le
    (rw c.types_bound-declared.ensures.bound (types_are_below c.universals-universals.result c.from.result c.locals.result.now)))
