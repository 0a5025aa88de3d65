use Rattle.std.proofs.Common.{◌≡◌, ℕ, true, false, cond, List, [], ◌∷◌, ◌++◌, get_or, arith, sym, ap, ◌∙◌, subst}
use Rattle.std.specs.Prelude.{nat_le}
use Rattle.std.specs.List.{list_all, filter, range_with_len}
use Rattle.bc_syntax.specs.Children.{children_of, closures_of, is_among}
use Rattle.bc_syntax.proofs.Marks.{next_number, next_small}
use Rattle.bc_syntax.proofs.syntax.Body.children.Goals as goal

pub loop-number-preserved : goal.loop-number-preserved
loop-number-preserved c =
    let n = c.loop-number.number in
    let passes = get_or c.marked_closures-marks.result n false in
    let grown : c.push_marked.new.children.items ≡ c.loop-number.children.items ++ cond passes (n ∷ []) [] = rw c.from.ensures at c.in_ok-push_marked.ensures in (
      grown ∙ next_number (is_among (closures_of c.args.self.now)) n c.loop-number.children.items passes c.loop-number.invariant.0 (c.marked_closures-marks.ensures n c.loop-number-test.true),
      subst (λ (l : List ℕ). list_all (λ number. nat_le number 63) l ≡ true) (sym grown) (next_small n passes c.loop-number.children.items c.loop-number-test.true c.loop-number.invariant.1),
    )

pub returns-clause-value : goal.returns-clause-value
unfolding children_of
returns-clause-value c =
    let last : c.loop-number.number ≡ 64 = omega (arith, c.loop-number-test.false, c.loop-number.auto.number-end) in
    c.loop-number.invariant.0 ∙ ap (λ n. filter (is_among (closures_of c.args.self.now)) (range_with_len 0 n)) last
