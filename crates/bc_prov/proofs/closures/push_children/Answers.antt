use Rattle.std.proofs.Common.{◌≡◌, get_or, map, refl}
use Rattle.std.proofs.lemmas.List.{at_drop_more}
use Rattle.bc_types.proofs.Appending.{appended-turn, appended-all}
use Rattle.bc_prov.specs.State.{child}
use Rattle.bc_prov.proofs.Numbers.{child_made}
use Rattle.bc_prov.proofs.closures.push_children.Goals as goal

pub unwrap-child-requires : goal.unwrap-child-requires
unwrap-child-requires c =
    rw (child_made c.args.name c.args.numbers.now c.loop-number.number-index c.child.result c.loop-number-test.true c.requires.few c.requires.low c.child.ensures) refl

pub loop-number-preserved : goal.loop-number-preserved
loop-number-preserved c =
    let each = map (child c.args.name) in
    let numbers = c.args.numbers.now in
    let i = c.loop-number.number-index in
    let made = child_made c.args.name numbers i c.child.result c.loop-number-test.true c.requires.few c.requires.low c.child.ensures in
    let same : c.unwrap-child.result ≡ child c.args.name (get_or numbers i 0) = cc in
    appended-turn each _ _ numbers i _ _ (rw same at c.in_ok-push.ensures.items) (at_drop_more each numbers i 0 c.loop-number-test.true) c.loop-number.invariant

pub returns : goal.returns
returns c = appended-all (map (child c.args.name)) _ _ c.args.numbers.now c.loop-number.number-index c.loop-number-test.false refl c.loop-number.invariant
