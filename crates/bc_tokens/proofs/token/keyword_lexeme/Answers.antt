use Rattle.std.proofs.Common.{◌≡◌, ◌∙◌, ap, sym, length, arith}
use Rattle.std.specs.Prelude.{slice_index}
use Rattle.bc_syntax.specs.Bytes.{run}
use Rattle.bc_tokens.specs.Token.{shown, run_token}
use Rattle.bc_tokens.specs.declared.token.Kind.{Kind}
use Rattle.bc_tokens.proofs.Runs.{letter_keyword, lexeme_letter}
use Rattle.bc_tokens.proofs.token.keyword_lexeme.Goals as goal

pub returns-in-Some-clause-token : goal.returns-in-Some-clause-token
returns-in-Some-clause-token c =
    let bytes = c.args.bytes.now in
    let not_label : (slice_index bytes 0 ≡ 98) × (slice_index bytes 1 ≡ 98) → ⊥ = λ p. omega (arith, p.0, c.byte_at.ensures, c.if-byte_at-eq98.false) in
    let token : shown c.bare.result.kind c.bare.result.text.now ≡ run_token (run bytes) =
    ap (λ (k : Kind). shown k c.bare.result.text.now) c.bare.ensures.kind ∙ letter_keyword bytes c.in-Some.keyword c.requires not_label ((c.in-Some.ensures {u = tt}).value)
    in
    let len : length c.text.result.now ≡ length (run bytes) = ap length (c.text.ensures ∙ sym ((c.in-Some.ensures {u = tt}).spelled)) in
    lexeme_letter bytes (shown c.bare.result.kind c.bare.result.text.now) (length c.text.result.now) c.requires token len
