use Rattle.std.proofs.Common.{rules}
use Rattle.std.specs.Ordering.{is_eq, is_lt}
use Rattle.std.proofs.lemmas.Fn.{always_returns_same}
use Rattle.bc_names.specs.Names.{name_order}
use Rattle.bc_prov.proofs.Runs.{pieces_slice}
use Rattle.bc_prov.proofs.snapshot.pieces_of_name.Goals as goal

pub returns : goal.returns
returns c =
    pieces_slice c.args.name.now c.args.pieces.now c.partition_point-start.result c.partition_point-len.result c.requires c.partition_point-start.ensures.bound
    (c.partition_point-start.ensures.partitioned (λ p. is_lt (name_order p.0 c.args.name.now)) (always_returns_same _ _ _ (λ a r f k. search rules)))
    c.partition_point-len.ensures.bound
    (c.partition_point-len.ensures.partitioned (λ p. is_eq (name_order p.0 c.args.name.now)) (always_returns_same _ _ _ (λ a r f k. search rules)))
