-- Tables whose rows have one size.
use Rattle.std.proofs.Common.{◌≡◌, ℕ, Bool, List, [], length, sym, ◌∙◌, arith}
use Rattle.bc_flow.specs.Flow.{row, HaveSize}

-- all rows have the size of the first
pub sized_by_first : (elements : ℕ) (rows : List (List Bool)) → HaveSize elements rows → HaveSize (length (row rows 0)) rows
sized_by_first elements rows sized = λ k d inside. sized k d inside ∙ sym (sized 0 [] (omega (arith, inside)))

-- as many rows as in another table, each of the size of its first row
pub sized_alike : (elements : ℕ) (starts rows : List (List Bool)) → HaveSize elements starts → HaveSize (length (row starts 0)) rows → length rows ≡ length starts → HaveSize elements rows
sized_alike elements starts rows sized alike count = λ k d inside. alike k d inside ∙ sized 0 [] (omega (arith, inside, count))
