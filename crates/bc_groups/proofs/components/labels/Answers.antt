use Rattle.std.proofs.Common.{◌≡◌, length, ap, ◌∙◌}
use Rattle.bc_groups.proofs.Grouped.{mutual_with_label, labels_within}
use Rattle.bc_groups.proofs.components.labels.Goals as goal

pub returns-clause-within : goal.returns-clause-within
returns-clause-within c =
    let before : length c.in_ok-before.before.items ≡ c.args.nodes = c.in_ok-before.ensures.count ∙ (ap length c.deref.ensures.value ∙ c.in_ok-behind.ensures.count) in
    let labels : length c.in_ok-labels.labels.items ≡ c.args.nodes = c.in_ok-labels.ensures.count ∙ (ap length c.deref-2.ensures.value ∙ before) in
    labels_within c.args.nodes c.in_ok-before.before.items c.in_ok-behind.behind.items c.in_ok-labels.labels.items labels before
    (rw (c.deref.ensures.value, c.in_ok-behind.ensures.count) at c.in_ok-before.ensures.within)
    (rw (c.deref-2.ensures.value, c.deref-3.ensures.value, before) at c.in_ok-labels.ensures.agreed)

pub returns-clause-paired : goal.returns-clause-paired
returns-clause-paired c = λ n h.
    let before : length c.in_ok-before.before.items ≡ c.args.nodes = c.in_ok-before.ensures.count ∙ (ap length c.deref.ensures.value ∙ c.in_ok-behind.ensures.count) in
    let ahead = rw (c.deref.ensures.value, c.in_ok-behind.ensures.count) at c.in_ok-before.ensures.led in
    let agreed = rw (c.deref-2.ensures.value, c.deref-3.ensures.value, before) at c.in_ok-labels.ensures.agreed in
    mutual_with_label c.args.edges.now c.in_ok-before.before.items c.in_ok-behind.behind.items c.in_ok-labels.labels.items n (ahead n h) (c.in_ok-behind.ensures.led n h) (agreed n h)
