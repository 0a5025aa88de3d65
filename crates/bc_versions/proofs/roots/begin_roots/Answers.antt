use Rattle.std.proofs.Common.{◌≡◌, ◌+◌, ◌++◌, ◌∷◌, ◌∙◌, [], List, take, ap, sym, subst}
use Rattle.std.specs.List.{AllZip}
use Rattle.std.proofs.lemmas.List.{take_more, take_all}
use Rattle.bc_names.specs.Names.{NameParts}
use Rattle.bc_prov.specs.Snapshots.{SnapshotView}
use Rattle.bc_memo.specs.Places.{roots_in}
use Rattle.bc_calls.specs.Calls.{after}
use Rattle.bc_calls.specs.Beginnings.{AreRoots, IsBegun}
use Rattle.bc_calls.proofs.Roots.{roots_held}
use Rattle.bc_versions.proofs.Tables.{zip_more}
use Rattle.bc_versions.proofs.roots.begin_roots.Goals as goal

pub loop-root-init : goal.loop-root-init
loop-root-init c = λ h of. subst (λ (bs : List SnapshotView). AllZip (IsBegun h) [] bs) (sym c.in_ok-begun.ensures.items) tt

pub loop-root-preserved : goal.loop-root-preserved
loop-root-preserved c = λ h of.
    let i = c.loop-root.root-index in
    let names = c.deref-root-items.result.now in
    let n : NameParts = c.root-item.result in
    let more : take (i + 1) names ≡ take i names ++ n ∷ [] = take_more names i n c.loop-root-test.true ∙ ap (λ (x : NameParts). take i names ++ x ∷ []) (sym c.root-item.is) in
    let longer : c.push.new.self.items ≡ c.loop-root.begun.items ++ c.in_ok-begin_root.field-0 ∷ [] = c.in_ok-push.ensures.items in
    subst (λ (p : List NameParts × List SnapshotView). AllZip (IsBegun h) p.0 p.1) (λ k. (sym more k, sym longer k))
    (zip_more (IsBegun h) (take i names) c.loop-root.begun.items n c.in_ok-begin_root.field-0 (c.loop-root.invariant h of) (c.in_ok-begin_root.ensures h of))

pub returns : goal.returns
returns c = λ h of.
    let names = c.deref-root-items.result.now in
    let s = c.args.held.now.held in
    let roots : names ≡ roots_in s.places = c.deref-root-items.ensures.value ∙ c.in_ok-roots.ensures in
    record {
      roots = names;
      are_roots = subst (λ (ns : List NameParts). AreRoots (after h) ns) (sym roots) (roots_held s h of);
      parts = subst (λ (ns : List NameParts). AllZip (IsBegun h) ns c.loop-root.begun.items) (take_all c.loop-root.root-index names c.loop-root-test.false) (c.loop-root.invariant h of);
    }
