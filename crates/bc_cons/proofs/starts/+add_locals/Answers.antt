use Rattle.std.proofs.Common.{length, sym, subst}
use Rattle.bc_cons.specs.Below.{TyIsBelow}
use Rattle.bc_cons.proofs.Growing.{grown-locals}
use Rattle.bc_cons.proofs.starts.+add_locals.Goals as goal

pub add_local-requires-clause-regions : goal.add_local-requires-clause-regions
add_local-requires-clause-regions t c =
    subst (TyIsBelow c.args.universals (length c.args.rows.now)) (sym c.ty-item.is) (c.requires.regions 0 c.ty-item.result c.in-len1-up.len_at_least)

pub returns-in-len1-up : goal.returns-in-len1-up
returns-in-len1-up t c =
    grown-locals c.args.universals c.args.points c.args.live.now c.args.local c.args.locals.now c.ty-item.result c.ty-item.result c.in-len1-up.len_at_least c.ty-item.is c.add_local.ensures c.add_locals.ensures
