use Rattle.std.proofs.Common.{◌≡◌, ◌≢◌, ◌<◌, ◌≤◌, ◌∙◌, ap, arith}
use Rattle.std.specs.Prelude.{slice_index}
use Rattle.bc_tokens.specs.Token.{shown}
use Rattle.bc_tokens.specs.declared.token.Kind.{Kind}
use Rattle.bc_tokens.proofs.Runs.{lexeme_arrow, lexeme_high, lexeme_sign}
use Rattle.bc_tokens.proofs.token.sign_lexeme.Goals as goal
use Rattle.bc_tokens.proofs.token.sign_lexeme.Goals.{else-first-eq45-via-then-first-eq45+else-byte_at-eq62, else-first-eq45-via-else-first-eq45}

pub returns-then-byte_at-eq62-clause-token : goal.returns-then-byte_at-eq62-clause-token
returns-then-byte_at-eq62-clause-token c =
    let first : slice_index c.args.bytes.now 0 ≡ 45 = omega (arith, c.if-first-eq45.true) in
    let second : slice_index c.args.bytes.now 1 ≡ 62 = omega (arith, c.byte_at.ensures, c.if-byte_at-eq62.true) in
    ap (λ (k : Kind). (shown k c.bare.result.text.now, 2)) c.bare.ensures.kind ∙ lexeme_arrow c.args.bytes.now first second

pub returns-then-first-ge128-clause-token : goal.returns-then-first-ge128-clause-token
returns-then-first-ge128-clause-token c =
    let high : 128 ≤ slice_index c.args.bytes.now 0 = omega (arith, c.if-first-ge128.true) in
    ap (λ (k : Kind). (shown k c.bare-then-first-ge128.result.text.now, 1)) c.bare-then-first-ge128.ensures.kind ∙ lexeme_high c.args.bytes.now high

pub returns-clause-token : goal.returns-clause-token
returns-clause-token c =
    let low : slice_index c.args.bytes.now 0 < 128 = omega (arith, c.if-first-ge128.false) in
    let arrow : slice_index c.args.bytes.now 0 ≡ 45 → slice_index c.args.bytes.now 1 ≢ 62 =
    elim c.else-first-eq45.branch [
      | else-first-eq45-via-then-first-eq45+else-byte_at-eq62 w ↦ λ e f. omega (arith, f, w.byte_at.ensures, w.if-byte_at-eq62.false)
      | else-first-eq45-via-else-first-eq45 w ↦ λ e f. omega (arith, e, w.if-first-eq45.false)
    ]
    in
    lexeme_sign c.args.bytes.now (shown c.sign_token.result.kind c.sign_token.result.text.now) c.requires.other c.requires.unquoted arrow low c.sign_token.ensures.token
