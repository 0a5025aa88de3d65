use Rattle.std.proofs.Common.{◌<◌, ◌≤◌, ◌+◌, [], ◌∷◌, ◌∙◌, List, ℕ, length, ap, arith}
use Rattle.bc_syntax.specs.Token.{Fixed}
use Rattle.bc_tokens.specs.Token.{placed, tokens}
use Rattle.bc_tokens.specs.Parser.{position}
use Rattle.bc_tokens.specs.declared.token.Kind.TheVariants as kinds
use Rattle.bc_tokens.proofs.Cuts.{begins}
use Rattle.bc_tokens.proofs.cursor.Cursor.put_sign.Goals as goal

pub returns : goal.returns
returns c =
    let at = c.self.inside.at in
    let one : 0 < 1 = omega arith in
    let within : 1 ≤ length c.args.text.now = omega (arith, c.requires.some) in
    ap (λ (l : List ℕ). placed (Fixed c.args.sign) at ∷ tokens 0 (at + 1) l) c.behind-self-inside.ensures
    ∙ begins at c.args.text.now (kinds.Fixed c.args.sign) [] 1 c.requires.ink c.requires.some c.requires.token one within (λ e. absurd cc)
    ∙ ap (λ k. tokens 0 k c.args.text.now) (ap position c.self.view_is)
