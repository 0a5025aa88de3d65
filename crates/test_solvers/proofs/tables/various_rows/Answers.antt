use Rattle.std.proofs.Common.{◌≡◌, ℕ, Bool, List, [], length, set, arith, ◌∙◌}
use Rattle.bc_flow.specs.Flow.{row, HaveSize, AreAdded}
use Rattle.bc_flow.proofs.Rows.{others_kept, sizes_kept}
use Rattle.test_solvers.proofs.tables.various_rows.Goals as goal

abbrev AreFive : ℕ → List (List Bool) → Type 0
AreFive size rows = (length rows ≡ 5) × HaveSize size rows

step : (size n : ℕ) (rows new : List (List Bool)) (added : ℕ → Bool) → AreFive size rows → AreAdded rows new n added → AreFive size new
step size n rows new added were is = (is.rows ∙ were.0, sizes_kept size rows new n is.rows is.others is.size were.1)

inserted : (size n : ℕ) (rows new : List (List Bool)) → AreFive size rows → length new ≡ length rows → new ≡ set rows n (row new n) → length (row new n) ≡ length (row rows n) → AreFive size new
inserted size n rows new were count others kept = (count ∙ were.0, sizes_kept size rows new n count (others_kept rows new n others) kept were.1)

pub union_row_below-requires-clause-count : goal.union_row_below-requires-clause-count
union_row_below-requires-clause-count c =
    let size : ℕ = c.args.size in
    let a : AreFive size c.in_ok-rows.rows = (c.in_ok-rows.ensures.rows, c.in_ok-rows.ensures.size) in
    let b = step size 0 c.in_ok-rows.rows c.insert_below.new.self _ a c.insert_below.ensures in
    let d = step size 1 c.insert_below.new.self c.union_row.new.self _ b c.union_row.ensures in
    let e = inserted size 1 c.union_row.new.self c.insert-added-2.new.self d c.insert-added-2.ensures.rows c.insert-added-2.ensures.others c.insert-added-2.ensures.size in
    let f = inserted size 1 c.insert-added-2.new.self c.insert-added-3.new.self e c.insert-added-3.ensures.rows c.insert-added-3.ensures.others c.insert-added-3.ensures.size in
    let g = step size 3 c.insert-added-3.new.self c.insert_below-2.new.self _ f c.insert_below-2.ensures in
    omega (arith, g.1 4 [] (omega (arith, g.0)))

pub returns-clause-size : goal.returns-clause-size
returns-clause-size c =
    let size : ℕ = c.args.size in
    let a : AreFive size c.in_ok-rows.rows = (c.in_ok-rows.ensures.rows, c.in_ok-rows.ensures.size) in
    let b = step size 0 c.in_ok-rows.rows c.insert_below.new.self _ a c.insert_below.ensures in
    let d = step size 1 c.insert_below.new.self c.union_row.new.self _ b c.union_row.ensures in
    let e = inserted size 1 c.union_row.new.self c.insert-added-2.new.self d c.insert-added-2.ensures.rows c.insert-added-2.ensures.others c.insert-added-2.ensures.size in
    let f = inserted size 1 c.insert-added-2.new.self c.insert-added-3.new.self e c.insert-added-3.ensures.rows c.insert-added-3.ensures.others c.insert-added-3.ensures.size in
    let g = step size 3 c.insert-added-3.new.self c.insert_below-2.new.self _ f c.insert_below-2.ensures in
    let last = step size 4 c.insert_below-2.new.self c.union_row_below.new.self _ g c.union_row_below.ensures in
    last.1
