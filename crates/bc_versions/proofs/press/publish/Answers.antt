use Rattle.std.proofs.Common.{refl, sym, ◌∙◌, true≢false}
use Rattle.bc_versions.proofs.Publishing.{due_again, seen_again, fold_again, on_ok, on_err}
use Rattle.bc_versions.proofs.press.publish.Goals as goal
use Rattle.bc_versions.proofs.press.publish.Goals.{in-None, in-Some+then-is_ok}

pub loop-init : goal.loop-init
loop-init g c = (refl, refl, refl)

pub publish_as-next-requires : goal.publish_as-next-requires
publish_as-next-requires g c next is =
    let i = c.loop.invariant in
    due_again _ _ _ _ _ next _ _ i.0 i.1 i.2 c.requires.last c.requires.due is

pub loop-preserved : goal.loop-preserved
loop-preserved g c =
    let i = c.loop.invariant in
    let p = c.publish_as-next.ensures in
    let refused = sym c.is_ok.ensures.value ∙ c.if-is_ok.false in
    let same = on_err c.publish_as-next.result.1 _ _ refused p.values in
    (on_err c.publish_as-next.result.1 _ _ refused p.rule ∙ i.0, same.0 ∙ i.1, same.1 ∙ i.2)

pub returns : goal.returns
returns g c =
    elim c.match-next.branch [
      | in-None w ↦ absurd (true≢false (sym (rw w.in-None.is at c.next.ensures.steps)))
      | in-Some+then-is_ok w ↦
          let i = c.loop.invariant in
          let p = w.publish_as-next.ensures in
          let done = sym w.is_ok.ensures.value ∙ w.if-is_ok.true in
          let values = on_ok w.publish_as-next.result.1 _ _ done p.values in
          let told = seen_again _ _ _ _ _ _ _ _ i.0 i.1 i.2 c.requires.due values.0 (on_ok w.publish_as-next.result.1 _ _ done p.rule) in
          let shown = fold_again _ _ _ _ _ i.1 i.2 values.0 in
          rw w.writer-is (record { seen = told.0; last = told.1; shown = shown; rest = values.1 })
    ]
