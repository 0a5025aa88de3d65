use Rattle.std.proofs.Common.{◌≤◌, arith}
use Rattle.std.proofs.lemmas.Bool.Decides.{nat_tests}
use Rattle.std.specs.Prelude.{slice_index}
use Rattle.bc_tokens.specs.Token.{shown}
use Rattle.bc_tokens.proofs.Runs.{lexeme_digit}
use Rattle.bc_tokens.proofs.token.number_lexeme.Goals as goal

pub returns-clause-token : goal.returns-clause-token
returns-clause-token c =
    let low : 48 ≤ slice_index c.args.bytes.now 0 = grind (arith, nat_tests, c.requires) in
    let high : slice_index c.args.bytes.now 0 ≤ 57 = grind (arith, nat_tests, c.requires) in
    let token = c.number_token.result.0 in
    lexeme_digit c.args.bytes.now (shown token.kind token.text.now) c.number_token.result.1 low high c.number_token.ensures.token c.number_token.ensures.len
