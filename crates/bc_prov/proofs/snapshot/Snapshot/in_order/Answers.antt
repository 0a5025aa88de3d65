use Rattle.std.proofs.Common.{rules}
use Rattle.std.proofs.lemmas.List.Elements.{All-from_recursion, recursion_from_All}
use Rattle.std.proofs.lemmas.List.Sorted.{All-permutation, answers_always}
use Rattle.bc_prov.specs.Pieces.{IsPieceFor}
use Rattle.bc_prov.specs.State.{at_name}
use Rattle.bc_prov.proofs.snapshot.Snapshot.in_order.Goals as goal

pub returns-clause-pieces : goal.returns-clause-pieces
returns-clause-pieces c =
    recursion_from_All _ _
    (All-permutation (λ p. IsPieceFor c.args.self.now.types (at_name c.args.self.now.units p.0) p.1) _ _ c.sort_unstable_by_key.ensures.permutation (All-from_recursion _ _ c.requires))

pub returns-clause-ascending : goal.returns-clause-ascending
returns-clause-ascending c = c.sort_unstable_by_key.ensures.sorted (λ p. p.0) (answers_always _ _ _ (λ f a r g h. search rules))
