use Rattle.std.proofs.Common.{ℕ, Option, Some, ap, ◌∙◌}
use Rattle.bc_calls.specs.declared.call.Entry.{Entry}
use Rattle.bc_share.proofs.Noting.{noted_more, answered_more}
use Rattle.bc_share.proofs.notes.Notes.note.Goals as goal

pub invariant_of-self : goal.invariant_of-self
invariant_of-self g c =
    let last : ℕ → Option Entry = λ n. Some (record { session = c.self.inside.number; number = n; event = c.args.event }) in
    noted_more _ _ _ _ _ c.args.event c.self.invariant c.push_reserved.ensures.items c.reach.ensures.later c.reach.ensures.legal (c.reach.ensures.last ∙ ap last (c.len.ensures ∙ c.self.inside.own.ok.0))

pub returns : goal.returns
returns g c =
    let last : ℕ → Option Entry = λ n. Some (record { session = c.self.inside.number; number = n; event = c.args.event }) in
    rw (← c.self.view_is) (answered_more _ _ _ _ _ _ c.args.event c.self.invariant c.push_reserved.ensures.items c.reach.ensures.later c.reach.ensures.legal (c.reach.ensures.last ∙ ap last (c.len.ensures ∙ c.self.inside.own.ok.0)))
