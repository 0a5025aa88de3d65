use Rattle.std.specs.Io.KnownBytes.{Appends}
use Rattle.bc_syntax.specs.Universals.{universal_names}
use Rattle.bc_source.specs.Regions.{all_named}
use Rattle.bc_source.proofs.regions.write_all_named.Given as goal

abbrev pub invariant-loop-number : goal.invariant-loop-number
invariant-loop-number g l = Appends (g.W.Write.contents l.fn.out) (g.W.Write.contents l.out) (all_named l.error (universal_names l.regions) l.number)
