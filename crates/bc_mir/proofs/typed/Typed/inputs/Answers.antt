use Rattle.std.proofs.Common.{drop}
use Rattle.bc_syntax.specs.Fits.{let_fits}
use Rattle.bc_mir.proofs.Declared.{front-passes, rest-passes}
use Rattle.bc_mir.proofs.typed.Typed.inputs.Goals as goal

pub returns-clause-declared : goal.returns-clause-declared
returns-clause-declared c =
    let fits = let_fits c.args.self.now.universals in
    front-passes fits _ (drop 1 c.locals.result.now) (rest-passes fits 1 c.locals.result.now c.locals.ensures.declared)
