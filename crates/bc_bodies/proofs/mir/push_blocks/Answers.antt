use Rattle.std.proofs.Common.{◌≡◌, ◌+◌, length, length-append, refl, ap, ◌∙◌, arith}
use Rattle.bc_types.proofs.Appending.{appended-all}
use Rattle.bc_bodies.specs.Mir.{block_steps, steps_from, entries_from}
use Rattle.bc_bodies.proofs.Mirs.{length-block_steps, steps-more, entries-more}
use Rattle.bc_bodies.proofs.mir.push_blocks.Goals as goal

pub loop-number-preserved : goal.loop-number-preserved
loop-number-preserved c =
    let blocks = c.args.blocks.now in
    let here = c.loop-number in
    let block = c.index-blocks-number.result in
    let below = c.loop-number-test.true in
    let is = c.index-blocks-number.is in
    let added = c.in_ok-push_block.ensures in
    let count : length c.push_block.new.steps.items ≡ length here.steps.items + length block.statements + 1 = ap length added ∙ length-append here.steps.items (block_steps here.number 0 block.statements block.terminator) ∙ omega (arith, length-block_steps here.number 0 block.statements block.terminator) in
    let counted : c.len.result ≡ length here.steps.items = omega arith in
    record {
      steps = rw added (steps-more here.steps.items _ here.number blocks block below is here.invariant.steps);
      entries = rw (count, c.in_ok-push.ensures.items) (entries-more here.entries.items _ c.len.result (length here.steps.items) here.number blocks block below is counted here.invariant.entries);
    }

pub returns : goal.returns
returns c =
    let blocks = c.args.blocks.now in
    let here = c.loop-number in
    let past = c.loop-number-test.false in
    record {
      steps = appended-all (steps_from here.number) _ _ blocks here.number past refl here.invariant.steps;
      entries = appended-all (entries_from (length here.steps.items)) _ _ blocks here.number past refl here.invariant.entries;
    }
