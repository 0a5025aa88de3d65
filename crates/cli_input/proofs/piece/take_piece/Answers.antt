use Rattle.std.proofs.Common.{◌≡◌, ℕ, List, [], length, sym, subst, rules, arith, IfSome, Some, None, Option}
use Rattle.std.specs.Io.BufRead.{FillKeeps}
use Rattle.std.specs.Io.KnownBytes.{IsAtEnd}
use Rattle.std.proofs.BufReadLemmas.{Consumes_shown}
use Rattle.cli_input.specs.Pieces.{TakesPiece}
use Rattle.cli_input.proofs.Pieces.{takes_nothing, takes_end, takes_piece}
use Rattle.cli_input.proofs.piece.take_piece.Goals as goal

ends : (known : Option (List ℕ)) (n : ℕ) → n ≡ 0 → IfSome known (λ xs. n ≡ 0 → xs ≡ []) → IsAtEnd known
ends None n none end = tt
ends (Some xs) n none end = end none

pub returns-in-Interrupted : goal.returns-in-Interrupted
returns-in-Interrupted g c =
    takes_nothing c.args.most _ _ c.args.line.now.items (omega arith) c.fill_buf.follows.holds-at-none.0

pub returns-then-is_empty : goal.returns-then-is_empty
returns-then-is_empty g c =
    let rested = c.fill_buf.follows.lender-at-none in
    let filled = subst (FillKeeps _ (g.I.Read.remaining rested) (g.I.BufRead.consumable_len rested)) c.in-Ok.is c.fill_buf.follows.holds-at-none in
    let none : length c.in-Ok.shown.now ≡ 0 = search rules in
    takes_end c.args.most _ _ c.args.line.now.items (omega arith) filled.0 (ends _ (length c.in-Ok.shown.now) none c.in-Ok.ensures.end)

pub returns : goal.returns
returns g c =
    let cut = c.find_cut-cut in
    let shown = c.in-Ok.shown.now in
    let rested = c.fill_buf.follows.lender-at-none in
    let filled = subst (FillKeeps _ (g.I.Read.remaining rested) (g.I.BufRead.consumable_len rested)) c.in-Ok.is c.fill_buf.follows.holds-at-none in
    let moved = Consumes_shown _ _ _ _ shown cut.result.through cut.ensures.within c.in-Ok.ensures.front c.in-Ok.ensures.end filled.0 filled.1 c.consume.ensures.bytes in
    subst (λ (t : List ℕ). TakesPiece c.args.most (g.I.Read.remaining c.args.input.now) (g.I.Read.remaining c.consume.new.self) c.args.line.now.items t cut.result.met) (sym c.in_ok-extend_from_slice.ensures.items)
    (takes_piece c.args.most (g.I.Read.remaining c.args.input.now) (g.I.Read.remaining c.consume.new.self) c.args.line.now.items shown cut.result.piece cut.result.through c.min-kept.result cut.result.met (omega arith) (omega (arith, c.min-kept.ensures, c.len.ensures, c.args.line.now.ok.0)) cut.ensures moved.0)
