use Rattle.bc_tokens.specs.Token.{shown}
use Rattle.bc_tokens.proofs.Runs.{lexeme_letter}
use Rattle.bc_tokens.proofs.token.letter_lexeme.Goals as goal

pub returns-clause-token : goal.returns-clause-token
returns-clause-token c =
    let token = c.letter_token.result.0 in
    lexeme_letter c.args.bytes.now (shown token.kind token.text.now) c.letter_token.result.1 c.requires c.letter_token.ensures.token c.letter_token.ensures.len
