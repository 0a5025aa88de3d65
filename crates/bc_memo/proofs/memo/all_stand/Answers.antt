use Rattle.std.proofs.Common.{arith, refl}
use Rattle.bc_prov.proofs.Lookup.{all_by_index}
use Rattle.bc_memo.proofs.memo.all_stand.Goals as goal

pub returns : goal.returns
returns c =
    let done = c.loop-row-test.false in
    (λ _. all_by_index _ c.args.used.now (λ k d less. c.loop-row.invariant k d (omega (arith, done, less))), λ _. refl)
