use Rattle.std.proofs.Common.{◌<◌, ◌/◌, length, arith, ap, sym}
use Rattle.std.proofs.lemmas.List.{get_or_past, get_or_default}
use Rattle.bc_flow.proofs.Members.{length-bits_of, word_within, test_bit}
use Rattle.bc_flow.proofs.bit_table.BitRow.has.Goals as goal

pub returns-then-element-self : goal.returns-then-element-self
returns-then-element-self c = sym (get_or_past c.args.self.now c.args.element _ (omega (arith, c.if-element-self.true, ap length c.self.view_is, length-bits_of c.self.inside.size c.self.inside.words.now)))

pub returns : goal.returns
returns c =
    let below : c.args.element < length c.args.self.now = omega (arith, c.if-element-self.false, ap length c.self.view_is, length-bits_of c.self.inside.size c.self.inside.words.now) in
    test_bit c.self.invariant c.self.view_is c.args.element _ below (get_or_default c.self.inside.words.now (c.args.element / 64) 0 _ (word_within c.self.invariant c.self.view_is c.args.element below))
