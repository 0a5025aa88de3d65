use Rattle.std.proofs.Common.{◌∙◌, sym, ap, Bool, List, ℕ}
use Rattle.std.specs.Bool.{then_some}
use Rattle.std.specs.Str.{bytes_eq}
use Rattle.bc_syntax.proofs.Keywords.{none_likely, one_likely}
use Rattle.bc_syntax.proofs.symbol.Symbol.of_word.Goals as goal

pub returns-in_err-keyword : goal.returns-in_err-keyword
returns-in_err-keyword c = let h = none_likely c.args.word.now (sym c.likely_keyword.ensures ∙ c.in_err-keyword.was {u = tt}) in c.from_residual.ensures ∙ h

pub returns : goal.returns
returns c =
    let h = one_likely c.args.word.now c.in_ok-keyword.keyword (sym c.likely_keyword.ensures ∙ c.in_ok-keyword.was {u = tt}) in
    c.then_some.ensures ∙ ap (λ (b : Bool). then_some b c.in_ok-keyword.keyword) (c.eq.ensures ∙ ap (λ (t : List ℕ). bytes_eq t c.args.word.now) c.text.ensures) ∙ h
