use Rattle.std.proofs.Common.{List, take}
use Rattle.std.specs.List.{AllZip}
use Rattle.bc_calls.specs.declared.call.Entry.{Entry}
use Rattle.bc_calls.specs.Answers.{IsShelfOf}
use Rattle.bc_calls.specs.Beginnings.{IsBegun}
use Rattle.bc_versions.proofs.roots.begin_roots.Given as goal

abbrev pub invariant-loop-root : goal.invariant-loop-root
invariant-loop-root l = (h : List Entry) → IsShelfOf l.held.held h → AllZip (IsBegun h) (take l.root-index l.root-items) l.begun.items
