use Rattle.std.proofs.Common.{◌/◌, ℕ, sym, arith, ◌∙◌}
use Rattle.std.proofs.lemmas.Bool.{not-false}
use Rattle.bc_flow.specs.Flow.{holds}
use Rattle.bc_flow.proofs.Members.{refilled}
use Rattle.bc_loans.specs.Flows.{inside}
use Rattle.bc_loans.proofs.Telling.{IsInserted, IsInserted-from, AreTold-again, AreTold-more}
use Rattle.bc_loans.proofs.insides.InsideWords.tell.Goals as goal

pub insert-requires-clause-node : goal.insert-requires-clause-node
insert-requires-clause-node c = c.requires.told.some

pub insert-requires-clause-element : goal.insert-requires-clause-element
insert-requires-clause-element c = omega (arith, c.requires.point, c.requires.told.long)

pub write_words-requires : goal.write_words-requires
write_words-requires c = omega (arith, c.requires.point, c.requires.told.long)

pub returns-then-insert : goal.returns-then-insert
returns-then-insert c =
    let run : ℕ = c.args.point / 64 in
    let words = c.args.self.now.words in
    let inserted : IsInserted c.args.self.now.runs c.insert.new.self 0 run =
    IsInserted-from c.args.self.now.runs c.insert.new.self 0 run (omega (arith, c.requires.point, c.requires.told.long)) c.insert.ensures.rows c.insert.ensures.others c.insert.ensures.size c.insert.ensures.set in
    let written = rw c.deref_mut.ensures.value at c.write_words.ensures in
    let told = AreTold-more (inside c.args.flow.now) c.args.word run words.items c.write_words.new.words c.inside_block-block.result c.args.self.now.runs c.insert.new.self c.requires.told inserted written c.inside_block-block.ensures in
    rw (refilled words.len c.write_words.new.words words.items written.size words.ok.0)
    record { size = written.size; told = told; here = λ l at. told.are c.args.point l inserted.there at }

pub returns-else-insert-clause-told : goal.returns-else-insert-clause-told
returns-else-insert-clause-told c =
    let run : ℕ = c.args.point / 64 in
    let inserted : IsInserted c.args.self.now.runs c.insert.new.self 0 run =
    IsInserted-from c.args.self.now.runs c.insert.new.self 0 run (omega (arith, c.requires.point, c.requires.told.long)) c.insert.ensures.rows c.insert.ensures.others c.insert.ensures.size c.insert.ensures.set in
    AreTold-again (inside c.args.flow.now) c.args.word c.args.self.now.words.items c.args.self.now.runs c.insert.new.self run c.requires.told inserted (not-false (holds c.args.self.now.runs 0 run) (sym c.insert.ensures.added ∙ c.if-insert.false))

pub returns-else-insert-clause-here : goal.returns-else-insert-clause-here
returns-else-insert-clause-here c = λ l at.
    c.requires.told.are c.args.point l (not-false (holds c.args.self.now.runs 0 (c.args.point / 64)) (sym c.insert.ensures.added ∙ c.if-insert.false)) at
