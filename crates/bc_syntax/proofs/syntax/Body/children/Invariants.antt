use Rattle.std.proofs.Common.{◌≡◌, true}
use Rattle.std.specs.Prelude.{nat_le}
use Rattle.std.specs.List.{filter, list_all, range_with_len}
use Rattle.bc_syntax.specs.Children.{closures_of, is_among}
use Rattle.bc_syntax.proofs.syntax.Body.children.Given as goal

abbrev pub invariant-loop-number : goal.invariant-loop-number
invariant-loop-number l =
    (l.children.items ≡ filter (is_among (closures_of l.self)) (range_with_len 0 l.number)) × (list_all (λ number. nat_le number 63) l.children.items ≡ true)
