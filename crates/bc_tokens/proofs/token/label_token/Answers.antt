use Rattle.std.proofs.Common.{◌∙◌, sym}
use Rattle.bc_tokens.proofs.Runs.{label_number, label_word}
use Rattle.bc_tokens.proofs.token.label_token.Goals as goal

pub returns-then-is_number-clause-token : goal.returns-then-is_number-clause-token
returns-then-is_number-clause-token c =
    label_number c.args.bytes.now c.behind.result.now c.number_run-number.result.0.now c.requires.first c.requires.second c.behind.ensures c.number_run-number.ensures.run
    (sym c.number_run-number.ensures.number ∙ c.if-is_number.true)

pub returns-clause-token : goal.returns-clause-token
returns-clause-token c =
    c.word_token.ensures.token
    ∙ label_word c.args.bytes.now c.behind.result.now c.number_run-number.result.0.now c.requires.first c.requires.second c.behind.ensures c.number_run-number.ensures.run
    (sym c.number_run-number.ensures.number ∙ c.if-is_number.false)
