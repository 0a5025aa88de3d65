use Rattle.std.proofs.Common.{◌<◌, ◌+◌, ◌∷◌, ◌∙◌, List, ℕ, length, ap, arith}
use Rattle.bc_tokens.specs.Token.{placed, shown, tokens}
use Rattle.bc_tokens.specs.Cursor.{following}
use Rattle.bc_tokens.specs.Parser.{position}
use Rattle.bc_tokens.proofs.Cuts.{begins}
use Rattle.bc_tokens.proofs.cursor.Cursor.put.Goals as goal

pub returns : goal.returns
returns c =
    let token = c.args.token in
    let at = c.self.inside.at in
    let some : 0 < length c.args.text.now = omega (arith, c.requires.some, c.requires.within) in
    ap (λ (l : List ℕ). placed (shown token.kind token.text.now) at ∷ following token.kind (at + c.args.len) l) c.behind-self-inside.ensures
    ∙ begins at c.args.text.now token.kind token.text.now c.args.len c.requires.ink some c.requires.token c.requires.some c.requires.within c.requires.not_end
    ∙ ap (λ k. tokens 0 k c.args.text.now) (ap position c.self.view_is)
