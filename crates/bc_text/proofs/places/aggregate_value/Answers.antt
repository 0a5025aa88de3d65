use Rattle.std.proofs.Common.{refl}
use Rattle.bc_text.proofs.places.aggregate_value.Goals as goal

pub returns : goal.returns
returns c = rw (c.in_ok-aggregate.ensures {u = tt}, c.in_ok-new.ensures {u = tt}) refl
