use Rattle.std.proofs.Common.{◌≡◌, refl, ap}
use Rattle.std.specs.Bool.{Decides}
use Rattle.std.proofs.lemmas.Slice.Eq.{slice_eq-Decides}
use Rattle.bc_syntax.proofs.Equality.{outlives}
use Rattle.bc_prov.proofs.pieces.same_kid.Goals as goal

pub returns-then-one-other : goal.returns-then-one-other
returns-then-one-other c =
    let pairs : Decides c.eq.result (c.args.one.now.1.pairs ≡ c.args.other.now.1.pairs) = rw c.eq.ensures (slice_eq-Decides outlives c.args.one.now.1.pairs c.args.other.now.1.pairs _ refl) in
    (λ t. (let same = pairs.0 t in λ i. (c.if-one-other.true i, record { pairs = same i })), λ is. pairs.1 (ap (λ k. k.1.pairs) is))
