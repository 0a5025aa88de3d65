use Rattle.std.proofs.Common.{◌≡◌, ℕ, ◌+◌, ◌-◌, ◌^◌, refl, ap, ◌∙◌, arith}
use Rattle.std.proofs.lemmas.Nat.Bits.{ones_shr}
use Rattle.bc_flow.proofs.Members.{zeros}
use Rattle.bc_flow.proofs.Turned.{IsTurned, IsTurned-none, IsTurned-more}
use Rattle.bc_flow.proofs.block.turned_words.Goals as goal

pub loop-left-init : goal.loop-left-init
loop-left-init c = IsTurned-none c.args.words.now _ (zeros 64 refl)

pub loop-left-preserved : goal.loop-left-preserved
loop-left-preserved c =
    let low : ℕ = c.loop-left.left - 1 in
    let up : c.loop-left.left ≡ low + 1 = omega (arith, c.loop-left-test.true) in
    let p : IsTurned (low + 1) c.loop-left.behind c.args.words.now c.loop-left.block = rw up at c.loop-left.invariant in
    let width : 64 - (63 - low) ≡ low + 1 = omega (arith, p.few) in
    IsTurned-more low c.loop-left.behind _ _ c.args.words.now c.loop-left.block c.flip.new.block p
    (ones_shr 64 (63 - low) (omega arith) ∙ ap (λ e. 2 ^ e - 1) width) c.flip.ensures refl

pub returns : goal.returns
returns c =
    let end : c.loop-left.left ≡ 0 = omega (arith, c.loop-left-test.false) in
    λ n f. (rw end at c.loop-left.invariant).done n f (omega arith)
