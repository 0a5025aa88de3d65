use Rattle.std.proofs.Common.{◌∙◌, sym}
use Rattle.bc_book.proofs.book.Book.new.Goals as goal

pub returns : goal.returns
returns g c =
    let same = c.in_ok-ledger.ensures.same in
    λ k. record { capacity = same.0 k; entries = same.1 k; shelf = same.2 k; answers = same.3 k; pieces = same.4 k }

pub invariant_of-result : goal.invariant_of-result
invariant_of-result g c =
    let same = c.in_ok-ledger.ensures.same in
    c.in_ok-open.ensures ∙ (λ k. record { entries = sym same.1 k; shelf = sym same.2 k })
