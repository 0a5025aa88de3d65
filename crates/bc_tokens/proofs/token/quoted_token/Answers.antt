use Rattle.std.proofs.Common.{◌≡◌, ◌≢◌, arith}
use Rattle.std.specs.Prelude.{slice_index}
use Rattle.bc_tokens.specs.Token.{shown}
use Rattle.bc_tokens.proofs.Runs.{lexeme_variable, lexeme_region}
use Rattle.bc_tokens.proofs.token.quoted_token.Goals as goal

pub returns-then-byte_at-eq63-clause-token : goal.returns-then-byte_at-eq63-clause-token
returns-then-byte_at-eq63-clause-token c =
    let first : slice_index c.args.bytes.now 0 ≡ 63 = omega (arith, c.byte_at.ensures, c.if-byte_at-eq63.true) in
    let token = c.number_token-len.result.0 in
    lexeme_variable c.args.bytes.now c.behind.result.now (shown token.kind token.text.now) c.number_token-len.result.1 first c.behind.ensures c.number_token-len.ensures.token c.number_token-len.ensures.len

pub returns-clause-token : goal.returns-clause-token
returns-clause-token c =
    let first : slice_index c.args.bytes.now 0 ≢ 63 = λ e. omega (arith, e, c.byte_at.ensures, c.if-byte_at-eq63.false) in
    let token = c.region_token.result.0 in
    lexeme_region c.args.bytes.now (shown token.kind token.text.now) c.region_token.result.1 first c.region_token.ensures.token c.region_token.ensures.len
