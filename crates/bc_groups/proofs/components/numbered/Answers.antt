use Rattle.std.proofs.Common.{◌≡◌, ℕ, ◌+◌, ◌-◌, ◌<◌, length, drop, get_or, inl, inr, sym, ap, ◌∙◌, arith}
use Rattle.std.proofs.lemmas.Bool.{cases_eq}
use Rattle.std.proofs.lemmas.List.{length-set, get_or-set_same, get_or-set_other, get_or_default, drop_more}
use Rattle.bc_flow.proofs.Membership.{Contains-cons}
use Rattle.bc_groups.proofs.components.numbered.Goals as goal

pub loop-left-preserved : goal.loop-left-preserved
loop-left-preserved c =
    let old = c.loop-left.invariant in
    let low : ℕ = c.loop-left.left - 1 in
    let order = c.args.order.now in
    let node : ℕ = get_or order low 0 in
    let groups = c.loop-left.group_of.items in
    let number = c.in_ok-group_of-2.field-0 in
    let below : low < length order = omega (arith, old.left) in
    let up : low + 1 ≡ c.loop-left.left = omega arith in
    let within : node < length groups = omega (arith, c.requires.order low 0 below, old.nodes) in
    record {
      left = omega (arith, old.left);
      labels = c.in_ok-group_of-2.ensures.count ∙ old.labels;
      nodes = length-set groups node number ∙ old.nodes;
      naming = c.in_ok-group_of-2.ensures.naming;
      grouped = λ n h. elim (cases_eq n node) [
        | inl same ↦ rw (same, get_or-set_same groups node number 0 within) c.in_ok-group_of-2.ensures.named
        | inr other ↦ rw (get_or-set_other groups node n number 0 other) (elim (Contains-cons node (drop (low + 1) order) n (rw (drop_more order low 0 below) at h)) [
          | inl here ↦ absurd (other (sym here))
          | inr later ↦ c.in_ok-group_of-2.ensures.kept _ _ (old.grouped n (rw up at later))
        ])
      ];
    }

pub returns-clause-within : goal.returns-clause-within
returns-clause-within c = λ k d h.
    let end : c.loop-left.left ≡ 0 = omega arith in
    let all = rw end at c.loop-left.invariant.grouped in
    let named = all k (c.requires.all k (omega (arith, h, c.loop-left.invariant.nodes))) in
    let below = named.0 in
    rw (get_or_default c.loop-left.group_of.items k d 0 h) (omega (arith, below, c.len.ensures))

pub returns-clause-same : goal.returns-clause-same
returns-clause-same c = λ a b inside within same.
    let end : c.loop-left.left ≡ 0 = omega arith in
    let all = rw end at c.loop-left.invariant.grouped in
    let first = all a (c.requires.all a inside) in
    let second = all b (c.requires.all b within) in
    sym first.1 ∙ (ap (λ k. get_or c.loop-left.naming.names.items k 0) same ∙ second.1)
