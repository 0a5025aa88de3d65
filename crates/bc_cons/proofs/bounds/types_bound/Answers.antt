use Rattle.std.proofs.Common.{◌∷◌, ◌+◌, drop, sym, ap, ◌∙◌, arith}
use Rattle.std.proofs.lemmas.List.{at_drop_more, at_drop_all}
use Rattle.bc_cons.specs.Bounds.{types_bound}
use Rattle.bc_cons.proofs.bounds.types_bound.Goals as goal

pub loop-ty-preserved : goal.loop-ty-preserved
loop-ty-preserved c =
    let here = c.loop-ty in
    let tys = c.args.locals.now in
    let bound = types_bound c.args.universals here.bound in
    let turn = at_drop_more bound tys here.ty-index c.ty-item.result c.loop-ty-test.true ∙ ap (λ ty. bound (ty ∷ drop (here.ty-index + 1) tys)) (sym c.ty-item.is) in
    record {
      bound = rw c.type_bound-bound.ensures.bound (sym turn ∙ here.invariant.bound);
      within = omega (arith, c.type_bound-bound.ensures.within, here.invariant.within);
    }

pub returns-clause-bound : goal.returns-clause-bound
returns-clause-bound c =
    let here = c.loop-ty in
    sym (at_drop_all (types_bound c.args.universals here.bound) c.args.locals.now here.ty-index c.loop-ty-test.false) ∙ here.invariant.bound
