use Rattle.std.proofs.Common.{◌≡◌, ◌++◌, [], ◌∷◌, length, sym, ap, ◌∙◌, arith}
use Rattle.std.proofs.lemmas.Result.{on_ok_weaker}
use Rattle.bc_bodies.specs.declared.mir.Instruction.TheVariants.{Terminator}
use Rattle.bc_bodies.specs.Mir.{step_of, block_steps}
use Rattle.bc_bodies.proofs.Mirs.{statement-more, terminator-last}
use Rattle.bc_bodies.proofs.mir.push_block.Goals as goal

pub loop-index-preserved : goal.loop-index-preserved
loop-index-preserved c =
    let here = c.loop-index in
    rw c.in_ok-push_statement.ensures
    (statement-more here.steps.items _ c.args.number here.index c.as_slice-statements.result.now c.args.block.now.terminator c.index-statements-index.result c.loop-index-test.true c.index-statements-index.is here.invariant)

pub returns : goal.returns
returns c =
    let here = c.loop-index in
    let number = c.args.number in
    let statements = c.as_slice-statements.result.now in
    let terminator = c.args.block.now.terminator in
    let last : here.index ≡ length statements = omega arith in
    let all = terminator-last here.steps.items _ number here.index statements terminator (omega arith) here.invariant in
    on_ok_weaker c.push_terminator.result
    (λ (e : c.push_terminator.new.steps.items ≡ here.steps.items ++ step_of number (length statements) (Terminator terminator) ∷ []). e ∙ ap (λ i. here.steps.items ++ step_of number i (Terminator terminator) ∷ []) (sym last) ∙ all ∙ ap (λ xs. c.args.steps.now.items ++ block_steps number 0 xs terminator) c.as_slice-statements.ensures)
    c.push_terminator.ensures
