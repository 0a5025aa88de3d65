use Rattle.std.proofs.Common.{rules, ◌^◌, ◌<◌, refl, sym}
use Rattle.std.specs.Prelude.{bit_or}
use Rattle.std.proofs.lemmas.Nat.{or_lt}
use Rattle.bc_flow.specs.Packed.{word_has}
use Rattle.bc_flow.specs.Flow.{row, holds}
use Rattle.bc_flow.proofs.Joined.{joined_clean, joined_members, joined_grown, joined_more}
use Rattle.bc_flow.proofs.Rows.{others_kept}
use Rattle.bc_flow.proofs.bit_table.BitTable.join_word.Goals as goal

pub returns-then-after-before-clause-added : goal.returns-then-after-before-clause-added
returns-then-after-before-clause-added c = record {
  rows = refl;
  others = λ n _. refl;
  size = refl;
  members = joined_members c.args.index c.word-before.result c.args.word c.word-before.result (holds c.args.self.now c.args.node) (holds c.args.self.now c.args.node) (sym c.if-after-before.true) c.word-before.ensures c.word-before.ensures (λ i _. refl);
}

pub set_word-requires-clause-clean : goal.set_word-requires-clause-clean
set_word-requires-clause-clean c = joined_clean c.args.index c.word-before.result c.args.word (row c.args.self.now c.args.node) c.word-before.ensures c.requires.clean

pub returns-clause-added : goal.returns-clause-added
returns-clause-added c = record {
  rows = c.set_word.ensures.rows;
  others = others_kept c.args.self.now c.set_word.new.self c.args.node c.set_word.ensures.others;
  size = c.set_word.ensures.size;
  members = joined_members c.args.index c.word-before.result c.args.word _ (holds c.args.self.now c.args.node) (holds c.set_word.new.self c.args.node) refl c.word-before.ensures c.set_word.ensures.word c.set_word.ensures.rest;
}

pub returns-clause-grown : goal.returns-clause-grown
returns-clause-grown c = λ _.
    let small : c.word-before.result < 2 ^ 64 = search rules in
    let fits : c.args.word < 2 ^ 64 = search rules in
    let members = joined_members c.args.index c.word-before.result c.args.word _ (holds c.args.self.now c.args.node) (holds c.set_word.new.self c.args.node) refl c.word-before.ensures c.set_word.ensures.word c.set_word.ensures.rest in
    joined_grown c.args.index c.word-before.result (bit_or c.word-before.result c.args.word) (row c.args.self.now c.args.node) (row c.set_word.new.self c.args.node) small (or_lt 64 _ _ small fits) c.set_word.ensures.size
    (joined_more (holds c.args.self.now c.args.node) (holds c.set_word.new.self c.args.node) (word_has c.args.index c.args.word) members) c.word-before.ensures c.set_word.ensures.word c.if-after-before.false
