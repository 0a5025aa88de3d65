use Rattle.std.proofs.Common.{sym, ◌∙◌}
use Rattle.std.proofs.lemmas.Grind.{get_or_default_zero}
use Rattle.std.proofs.lemmas.List.{get_or_past}
use Rattle.bc_flow.proofs.Filled.{bit_is}
use Rattle.bc_flow.proofs.Parts.{member_is}
use Rattle.bc_flow.proofs.bit_table.BitRow.word.Goals as goal

pub returns-then-index-self : goal.returns-then-index-self
returns-then-index-self c = λ i at.
    sym (bit_is c.self.inside.words.now i c.args.index _ at (sym (get_or_default_zero c.self.inside.words.now c.args.index _ c.if-index-self.true))) ∙ member_is c.self.invariant c.self.view_is i

pub returns-else-index-self : goal.returns-else-index-self
returns-else-index-self c = λ i at.
    sym (bit_is c.self.inside.words.now i c.args.index 0 at (get_or_past c.self.inside.words.now c.args.index 0 c.if-index-self.false)) ∙ member_is c.self.invariant c.self.view_is i
