use Rattle.std.proofs.Common.{◌≤◌, None, length, ap, sym, refl, arith}
use Rattle.std.proofs.lemmas.Option.{slice_get_read, slice_get_past}
use Rattle.bc_reasons.specs.Parts.{access_reasons}
use Rattle.bc_reasons.proofs.Parting.{as_many, as_many_parts, at_both, has_access}
use Rattle.bc_reasons.proofs.access.access_reason.Goals as goal

pub returns-then-number-len-clause-reason : goal.returns-then-number-len-clause-reason
returns-then-number-len-clause-reason c =
    let mir = c.args.typed.now in
    let here = c.args.instruction.now in
    let past : length (access_reasons mir here) ≤ c.args.number = omega (arith, ap length c.in_ok-accesses.ensures, c.len.ensures, c.if-number-len.true, as_many mir here) in
    sym (slice_get_past (access_reasons mir here) c.args.number past)

pub returns-then-number-len-clause-access : goal.returns-then-number-len-clause-access
returns-then-number-len-clause-access c = has_access c.args.typed.now c.args.instruction.now c.args.number None (returns-then-number-len-clause-reason c)

pub returns-in-Some-clause-reason : goal.returns-in-Some-clause-reason
returns-in-Some-clause-reason c =
    let mir = c.args.typed.now in
    let here = c.args.instruction.now in
    let found = c.in-Some.ensures.lookup in
    let part = slice_get_read c.deref.result.now _ c.args.number c.in-Some.part.now refl found.3.0 found.1 in
    let access = slice_get_read c.in_ok-accesses.accesses.items _ c.args.number c.swap_remove.result refl (omega (arith, c.len.ensures, c.if-number-len.false)) c.swap_remove.ensures.value in
    sym (at_both mir here c.args.number c.swap_remove.result c.in-Some.part.now (rw c.in_ok-accesses.ensures at access) (rw (c.deref.ensures.value, c.in_ok-parts.ensures) at part))

pub returns-in-Some-clause-access : goal.returns-in-Some-clause-access
returns-in-Some-clause-access c = has_access c.args.typed.now c.args.instruction.now c.args.number _ (returns-in-Some-clause-reason c)

pub returns-clause-reason : goal.returns-clause-reason
returns-clause-reason c =
    let mir = c.args.typed.now in
    let here = c.args.instruction.now in
    let past : length (access_reasons mir here) ≤ c.args.number = omega (arith, ap length c.deref.ensures.value, ap length c.in_ok-parts.ensures, c.in-None.ensures.lookup.3, as_many mir here, as_many_parts mir here) in
    sym (slice_get_past (access_reasons mir here) c.args.number past)

pub returns-clause-access : goal.returns-clause-access
returns-clause-access c = has_access c.args.typed.now c.args.instruction.now c.args.number None (returns-clause-reason c)
