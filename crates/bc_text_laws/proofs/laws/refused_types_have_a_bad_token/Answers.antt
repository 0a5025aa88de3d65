use Rattle.std.proofs.Common.{◌∙◌, [], ◌∷◌, ◌++◌, sym}
use Rattle.bc_syntax.specs.Token.{End}
use Rattle.bc_syntax.specs.Spelling as spell
use Rattle.bc_text.specs.Reading as read
use Rattle.bc_text.proofs.Ends.{begins_whole}
use Rattle.bc_text.proofs.DeclarationLaws.{types_again}
use Rattle.bc_text_laws.proofs.LocalDeclarations.{types}
use Rattle.bc_text_laws.proofs.Faults.{stopped, tells_bad, going_on, go_on, still_refused, faults_are_local}
use Rattle.bc_text_laws.proofs.laws.refused_types_have_a_bad_token.Goals as goal

pub returns-clause-bad : goal.returns-clause-bad
unfolding read.read_types
returns-clause-bad c = λ bytes fault e short.
    let s = stopped read.types spell.types types bytes fault e short in (
      s.before,
      s.bad,
      s.later,
      s.is,
      tells_bad s,
      (s.begun.0, s.begun.1, s.begun.2, s.begun.3),
      λ ds fits later h.
          let text = begins_whole (going_on s.before s.bad later) (spell.types ds ++ End ∷ []) (go_on s.before s.bad later ∙ sym h) in
          let reads = types_again (going_on s.before s.bad later) ds [] text fits in
          still_refused s later (ds, reads.0) reads.1,
    )

pub returns-clause-local : goal.returns-clause-local
unfolding read.read_types
returns-clause-local c = faults_are_local read.types spell.types types
