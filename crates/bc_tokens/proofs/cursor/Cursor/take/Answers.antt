use Rattle.std.proofs.Common.{◌≡◌, ◌<◌, ◌+◌, ◌∷◌, ◌∙◌, length, sym, ap, arith}
use Rattle.std.proofs.lemmas.Grind.{common_steps}
use Rattle.std.proofs.lemmas.List.Folds.{length-prefix_len}
use Rattle.std.proofs.lemmas.List.{length-drop}
use Rattle.bc_tokens.specs.Token.{is_blank, placed, shown}
use Rattle.bc_tokens.specs.Cursor.{following}
use Rattle.bc_tokens.specs.declared.token.Kind.{Kind}
use Rattle.bc_tokens.proofs.Cuts.{ends, begins_here, cuts, goes_past}
use Rattle.bc_tokens.proofs.cursor.Cursor.take.Goals as goal

pub returns-then-is_empty : goal.returns-then-is_empty
returns-then-is_empty c =
    let none : length c.behind-text.result.now ≡ 0 = grind (arith, common_steps) in
    ap (λ (k : Kind). placed (shown k c.bare-self-inside.result.text.now) (c.self.inside.end + c.blanks-blanks.result) ∷ following k (c.self.inside.end + c.blanks-blanks.result) c.behind-text.result.now) c.bare-self-inside.ensures.kind
    ∙ ends c.self.inside.end c.blanks-blanks.result c.self.inside.rest.now c.behind-text.result.now (c.blanks-blanks.ensures.count ∙ length-prefix_len is_blank c.self.inside.rest.now) c.behind-text.ensures none
    ∙ goes_past c.args.self.now c.self.inside.token.kind c.self.inside.token.text.now c.self.inside.at c.self.inside.end c.self.inside.rest.now (sym c.self.view_is) c.requires

pub cut-requires-clause-ink : goal.cut-requires-clause-ink
cut-requires-clause-ink c =
    let some : 0 < length c.behind-text.result.now = grind (arith, common_steps) in
    begins_here c.blanks-blanks.result c.self.inside.rest.now c.behind-text.result.now (c.blanks-blanks.ensures.count ∙ length-prefix_len is_blank c.self.inside.rest.now) c.behind-text.ensures some

pub returns : goal.returns
returns c =
    c.cut.ensures
    ∙ cuts c.self.inside.end c.blanks-blanks.result c.self.inside.rest.now c.behind-text.result.now (c.blanks-blanks.ensures.count ∙ length-prefix_len is_blank c.self.inside.rest.now) c.behind-text.ensures
    ∙ goes_past c.args.self.now c.self.inside.token.kind c.self.inside.token.text.now c.self.inside.at c.self.inside.end c.self.inside.rest.now (sym c.self.view_is) c.requires

pub cut-requires-clause-fits : goal.cut-requires-clause-fits
cut-requires-clause-fits c =
    let text = ap length c.behind-text.ensures ∙ length-drop c.blanks-blanks.result c.self.inside.rest.now in
    omega (arith, text, c.self.invariant.0, c.blanks-blanks.ensures.within)

pub invariant_of-self : goal.invariant_of-self
invariant_of-self c =
    let text = ap length c.behind-text.ensures ∙ length-drop c.blanks-blanks.result c.self.inside.rest.now in
    (omega (arith, text, c.self.invariant.0, c.blanks-blanks.ensures.within), c.bare-self-inside.ensures.keeps)
