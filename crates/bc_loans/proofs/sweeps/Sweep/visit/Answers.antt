use Rattle.std.proofs.Common.{◌<◌, ◌^◌, ◌&&◌, ◌%◌, rules, Bool, false, not, [], length, get_or, ap, sym, arith, ◌∙◌}
use Rattle.std.proofs.lemmas.Bool.{and_left}
use Rattle.std.proofs.lemmas.List.{get_or_past}
use Rattle.std.proofs.lemmas.Option.{slice_get-get_or}
use Rattle.bc_flow.specs.Packed.{is_set, word_has}
use Rattle.bc_flow.specs.Flow.{row, holds}
use Rattle.bc_flow.proofs.Joined.{is_set_without}
use Rattle.bc_loans.specs.Overwrites.{is_overwritten}
use Rattle.bc_loans.specs.Flows.{inside, goes_on}
use Rattle.bc_loans.proofs.Sweeping.{ArePushed-here, here_is}
use Rattle.bc_loans.proofs.Telling.{word_same}
use Rattle.bc_loans.proofs.sweeps.Sweep.visit.Goals as goal

pub word-requires-clause-within : goal.word-requires-clause-within
word-requires-clause-within c = omega (arith, c.requires.word, c.requires.sweep.ready.rows c.args.point [] (omega (arith, c.requires.point, c.requires.sweep.ready.points)))

pub push_on-requires-clause-clean : goal.push_on-requires-clause-clean
push_on-requires-clause-clean c = λ l at past.
    let fits : c.overwritten_word-ended.result < 2 ^ 64 = search rules in
    let here : c.args.point < length c.args.self.now.rows = omega (arith, c.requires.point, c.requires.sweep.ready.points) in
    is_set_without c.word.result c.overwritten_word-ended.result (l % 64) fits (omega arith)
    ∙ and_left (is_set c.word.result (l % 64)) (not (is_set c.overwritten_word-ended.result (l % 64)))
    (sym (c.word.ensures l at) ∙ get_or_past (row c.args.self.now.rows c.args.point) l false (omega (arith, past, c.requires.sweep.ready.rows c.args.point [] here)))

pub returns-clause-pushed : goal.returns-clause-pushed
returns-clause-pushed c =
    let flow = c.args.flow.now in
    let loans = flow.set.loans.now in
    let rows = c.args.self.now.rows in
    let step = get_or flow.steps.now c.args.point c.index-flow-point.result in
    let fits : c.overwritten_word-ended.result < 2 ^ 64 = search rules in
    ArePushed-here flow.edges.now c.args.point (word_has c.args.word _) (goes_on flow c.args.word rows c.args.point) (inside flow) c.push_on.result rows c.push_on.new.self.rows
    (λ l. word_same c.args.word _ (λ k. holds rows c.args.point k && not (is_overwritten loans step.instruction k))
    (λ k at. is_set_without c.word.result c.overwritten_word-ended.result (k % 64) fits (omega arith)
    ∙ ap (λ (b : Bool). b && not (is_set c.overwritten_word-ended.result (k % 64))) (sym (c.word.ensures k at))
    ∙ ap (λ (b : Bool). holds rows c.args.point k && not b) (c.overwritten_word-ended.ensures k at)) l
    ∙ here_is c.args.word loans flow.steps.now rows c.args.point step (slice_get-get_or flow.steps.now c.args.point _ c.requires.point) l)
    c.push_on.ensures.pushed
