use Rattle.std.proofs.Common.{◌≡◌, ℕ, List, refl, sym, subst}
use Rattle.bc_syntax.specs.declared.syntax.Declaration.{Declaration}
use Rattle.bc_syntax.specs.declared.syntax.Body.{Body}
use Rattle.bc_bodies.specs.Mir.{Mir}
use Rattle.bc_cons.specs.declared.requirements.Requirements.{Requirements}
use Rattle.bc_cons.specs.Requirements.{MayGoUp}
use Rattle.bc_judge.specs.declared.error.BorrowError.{BorrowError}
use Rattle.bc_judge.specs.declared.verdict.Verdict.{Verdict}
use Rattle.bc_prov.specs.Verdicts.{IsVerdictOf}
use Rattle.bc_prov.specs.Pieces.{IsFitted, IsPiece}
use Rattle.bc_prov.proofs.pieces.piece_of.Goals as goal

-- a verdict stays right when its errors are shared
with_shared : (types : List Declaration) (unit : Body) (mir : Mir) (kids : List (ℕ × Requirements)) (verdict : Verdict) (errors : List BorrowError) → errors ≡ verdict.errors →
    IsFitted types unit mir → IsVerdictOf mir kids verdict → MayGoUp mir.externals verdict.requirements →
    IsPiece (record { types = types; unit = unit; mir = mir; kids = kids; verdict = record { errors = errors; requirements = verdict.requirements } })
with_shared types unit mir kids verdict errors same fitted judged up = record {
  fitted = fitted;
  judged = subst (λ (es : List BorrowError). IsVerdictOf mir kids (record { errors = es; requirements = verdict.requirements })) (sym same) judged;
  goes_up = up;
}

pub invariant_of-result : goal.invariant_of-result
invariant_of-result g c =
    let judged : IsVerdictOf c.args.typed c.args.kids.items c.in_ok-errors.field-0 = rw (c.get.ensures, c.deref.ensures.value) at c.in_ok-errors.ensures.verdict in
    let up : MayGoUp c.args.typed.externals c.in_ok-errors.field-0.requirements = rw c.get.ensures at c.in_ok-errors.ensures.external in
    with_shared c.args.types c.args.unit c.args.typed c.args.kids.items c.in_ok-errors.field-0 c.in_ok-errors-2.errors c.in_ok-errors-2.ensures c.requires.fitted judged up

pub returns : goal.returns
returns g c = record { types = refl; unit = refl; mir = refl; kids = refl; right = invariant_of-result g c }
