use Rattle.std.proofs.Common.{◌%◌, ℕ, eqb, length, ap, sym, arith, ◌∙◌}
use Rattle.std.proofs.lemmas.Nat.Bits.{bit_at-zero}
use Rattle.bc_flow.specs.Packed.{is_set}
use Rattle.bc_flow.proofs.Joined.{is_set_and}
use Rattle.bc_loans.specs.Overwrites.{begins_with}
use Rattle.bc_loans.proofs.Overwriting.{no_row, cut_none, cut_step, cut_all}
use Rattle.bc_loans.proofs.loan_set.LoanSet.prefixed_word.Goals as goal

pub returns-then-local-len : goal.returns-then-local-len
returns-then-local-len c = λ l _.
    ap (λ (v : ℕ). eqb v 1) (bit_at-zero (l % 64))
    ∙ sym (no_row c.args.self.now.loans.now c.args.self.now.by_local c.args.place.now c.from-local.result (rw c.local.ensures at c.from-local.ensures) (omega (arith, c.len.ensures, c.if-local-len.true)) c.args.self.now.locals l)

pub loop-depth-init : goal.loop-depth-init
loop-depth-init c = λ k at.
    sym (c.word-found.ensures k at) ∙ c.args.self.now.locals c.from-local.result k
    ∙ ap (λ (local : ℕ). begins_with c.args.self.now.loans.now local k) (rw c.local.ensures at c.from-local.ensures) ∙ sym (cut_none c.args.self.now.loans.now c.args.place.now k)

pub loop-depth-preserved : goal.loop-depth-preserved
loop-depth-preserved c = λ k at.
    cut_step c.args.self.now.loans.now c.args.place.now c.loop-depth.depth c.projections-projection-items.result.now _ k (is_set c.loop-depth.found (k % 64)) (is_set _ (k % 64)) (is_set c.projecting_word-found.result (k % 64))
    c.projections-projection-items.ensures c.loop-depth-test.true (c.loop-depth.invariant k at) (c.projecting_word-found.ensures k at) (is_set_and c.loop-depth.found c.projecting_word-found.result (k % 64))

pub returns : goal.returns
returns c = λ k at.
    c.loop-depth.invariant k at ∙ cut_all c.args.self.now.loans.now c.args.place.now c.loop-depth.depth k (omega (arith, c.loop-depth-test.false, ap length c.projections-projection-items.ensures))
