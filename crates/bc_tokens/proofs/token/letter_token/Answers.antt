use Rattle.std.proofs.Common.{◌≡◌, ◌∙◌, ap, arith}
use Rattle.std.specs.Prelude.{slice_index}
use Rattle.bc_syntax.specs.Token.{Word}
use Rattle.bc_tokens.specs.Token.{shown}
use Rattle.bc_tokens.specs.declared.token.Kind.{Kind}
use Rattle.bc_tokens.proofs.Runs.{letter_keyword, letter_word}
use Rattle.bc_tokens.proofs.token.letter_token.Goals as goal
use Rattle.bc_tokens.proofs.token.letter_token.Goals.{else-byte_at-eq98-via-then-byte_at-eq98+else-byte_at-eq98-2, else-byte_at-eq98-via-else-byte_at-eq98}

pub returns-in-Some-clause-token : goal.returns-in-Some-clause-token
returns-in-Some-clause-token c =
    let not_label : (slice_index c.args.bytes.now 0 ≡ 98) × (slice_index c.args.bytes.now 1 ≡ 98) → ⊥ =
    elim c.else-byte_at-eq98.branch [
      | else-byte_at-eq98-via-then-byte_at-eq98+else-byte_at-eq98-2 w ↦ λ p. omega (arith, p.1, w.byte_at-then-byte_at-eq98.ensures, w.if-byte_at-eq98-2.false)
      | else-byte_at-eq98-via-else-byte_at-eq98 w ↦ λ p. omega (arith, p.0, c.byte_at.ensures, w.if-byte_at-eq98.false)
    ]
    in
    ap (λ (k : Kind). shown k c.bare-token.result.text.now) c.bare-token.ensures.kind
    ∙ letter_keyword c.args.bytes.now c.in-Some.keyword c.requires not_label ((c.in-Some.ensures {u = tt}).value)

pub returns-clause-token : goal.returns-clause-token
returns-clause-token c =
    let not_label : (slice_index c.args.bytes.now 0 ≡ 98) × (slice_index c.args.bytes.now 1 ≡ 98) → ⊥ =
    elim c.else-byte_at-eq98.branch [
      | else-byte_at-eq98-via-then-byte_at-eq98+else-byte_at-eq98-2 w ↦ λ p. omega (arith, p.1, w.byte_at-then-byte_at-eq98.ensures, w.if-byte_at-eq98-2.false)
      | else-byte_at-eq98-via-else-byte_at-eq98 w ↦ λ p. omega (arith, p.0, c.byte_at.ensures, w.if-byte_at-eq98.false)
    ]
    in
    ap Word c.run-word.ensures.run ∙ letter_word c.args.bytes.now c.requires not_label ((c.in_default.ensures {u = tt}).value)
