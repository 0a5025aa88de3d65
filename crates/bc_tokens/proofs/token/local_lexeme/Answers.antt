use Rattle.bc_tokens.specs.Token.{shown}
use Rattle.bc_tokens.proofs.Runs.{lexeme_local}
use Rattle.bc_tokens.proofs.token.local_lexeme.Goals as goal

pub returns-clause-token : goal.returns-clause-token
returns-clause-token c =
    let token = c.number_token-len.result.0 in
    lexeme_local c.args.bytes.now c.behind.result.now (shown token.kind token.text.now) c.number_token-len.result.1 c.requires c.behind.ensures c.number_token-len.ensures.token c.number_token-len.ensures.len
