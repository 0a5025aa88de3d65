use Rattle.std.proofs.Common.{◌≡◌, ◌++◌, drop, reverse}
use Rattle.bc_types.specs.Declarations.{first_bad_behind, first_bad}
use Rattle.bc_types.proofs.good_types.fill.Given as goal

abbrev pub invariant-loop-index : goal.invariant-loop-index
invariant-loop-index l = record {
  filled : l.table ++ drop l.index l.declarations ≡ l.declarations;
  first : first_bad_behind (reverse l.table) l.index (drop l.index l.declarations) ≡ first_bad l.declarations;
}
