use Rattle.std.proofs.Common.{◌∙◌}
use Rattle.bc_bodies.proofs.Replacing.{on_way_tells}
use Rattle.bc_bodies.proofs.place_types.goes_only_mutable.Goals as goal

pub returns : goal.returns
returns c = c.is_mutable_on_way.ensures ∙ on_way_tells c.args.draft.now c.args.place.now
