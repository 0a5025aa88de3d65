use Rattle.std.proofs.Common.{rules}
use Rattle.std.proofs.lemmas.Fn.{always_returns_same}
use Rattle.bc_names.specs.Names.{is_within}
use Rattle.bc_memo.proofs.Parts.{part_slice}
use Rattle.bc_memo.proofs.rows.within.Goals as goal

pub returns : goal.returns
returns g c =
    part_slice c.args.root.now c.args.rows.now c.start.result c.partition_point-len.result c.requires c.start.ensures c.partition_point-len.ensures.bound
    (c.partition_point-len.ensures.partitioned (λ p. is_within c.args.root.now p.0) (always_returns_same _ _ _ (λ a r f k. search rules)))
