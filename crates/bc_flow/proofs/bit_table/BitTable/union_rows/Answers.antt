use Rattle.std.proofs.Common.{length, arith, ap, ◌∙◌}
use Rattle.bc_flow.proofs.Tabled.{row_in, apart_in, union_table}
use Rattle.bc_flow.proofs.bit_table.BitTable.union_rows.Goals as goal

pub overflow_mul-at : goal.overflow_mul-at
overflow_mul-at c = omega (arith, row_in c.self.invariant c.self.view_is c.args.to c.requires.to, c.self.inside.words.ok.0, c.self.inside.words.ok.1, c.self.inside.words.small)

pub overflow_mul-source : goal.overflow_mul-source
overflow_mul-source c = omega (arith, row_in c.self.invariant c.self.view_is c.args.from c.requires.from, c.self.inside.words.ok.0, c.self.inside.words.ok.1, c.self.inside.words.small)

pub union_within-requires-clause-to : goal.union_within-requires-clause-to
union_within-requires-clause-to c = omega (arith, row_in c.self.invariant c.self.view_is c.args.to c.requires.to, ap length c.deref_mut.ensures.value)

pub union_within-requires-clause-from : goal.union_within-requires-clause-from
union_within-requires-clause-from c = omega (arith, row_in c.self.invariant c.self.view_is c.args.from c.requires.from, ap length c.deref_mut.ensures.value)

pub union_within-requires-clause-apart : goal.union_within-requires-clause-apart
union_within-requires-clause-apart c = apart_in c.args.from c.args.to c.self.inside.width c.requires.apart

pub invariant_of-self : goal.invariant_of-self
invariant_of-self c = (union_table c.self.inside.words.len c.union_within.new.words c.args.to c.args.from c.self.invariant c.self.view_is c.requires.to c.requires.from c.self.inside.words.ok.0 (c.union_within.auto.words ∙ ap length c.deref_mut.ensures.value) (rw c.deref_mut.ensures.value at c.union_within.ensures.others) (rw c.deref_mut.ensures.value at c.union_within.ensures.words)).written.packed

pub returns-clause-rows : goal.returns-clause-rows
returns-clause-rows c = (union_table c.self.inside.words.len c.union_within.new.words c.args.to c.args.from c.self.invariant c.self.view_is c.requires.to c.requires.from c.self.inside.words.ok.0 (c.union_within.auto.words ∙ ap length c.deref_mut.ensures.value) (rw c.deref_mut.ensures.value at c.union_within.ensures.others) (rw c.deref_mut.ensures.value at c.union_within.ensures.words)).written.length_is

pub returns-clause-others : goal.returns-clause-others
returns-clause-others c = (union_table c.self.inside.words.len c.union_within.new.words c.args.to c.args.from c.self.invariant c.self.view_is c.requires.to c.requires.from c.self.inside.words.ok.0 (c.union_within.auto.words ∙ ap length c.deref_mut.ensures.value) (rw c.deref_mut.ensures.value at c.union_within.ensures.others) (rw c.deref_mut.ensures.value at c.union_within.ensures.words)).written.others

pub returns-clause-size : goal.returns-clause-size
returns-clause-size c = (union_table c.self.inside.words.len c.union_within.new.words c.args.to c.args.from c.self.invariant c.self.view_is c.requires.to c.requires.from c.self.inside.words.ok.0 (c.union_within.auto.words ∙ ap length c.deref_mut.ensures.value) (rw c.deref_mut.ensures.value at c.union_within.ensures.others) (rw c.deref_mut.ensures.value at c.union_within.ensures.words)).written.size_is

pub returns-clause-members : goal.returns-clause-members
returns-clause-members c = (union_table c.self.inside.words.len c.union_within.new.words c.args.to c.args.from c.self.invariant c.self.view_is c.requires.to c.requires.from c.self.inside.words.ok.0 (c.union_within.auto.words ∙ ap length c.deref_mut.ensures.value) (rw c.deref_mut.ensures.value at c.union_within.ensures.others) (rw c.deref_mut.ensures.value at c.union_within.ensures.words)).members

pub returns-clause-grown : goal.returns-clause-grown
returns-clause-grown c = λ e. let j = union_table c.self.inside.words.len c.union_within.new.words c.args.to c.args.from c.self.invariant c.self.view_is c.requires.to c.requires.from c.self.inside.words.ok.0 (c.union_within.auto.words ∙ ap length c.deref_mut.ensures.value) (rw c.deref_mut.ensures.value at c.union_within.ensures.others) (rw c.deref_mut.ensures.value at c.union_within.ensures.words) in let d = rw c.deref_mut.ensures.value at (c.union_within.ensures.changed e) in j.grown (d.0, d.2, d.3, d.4)
