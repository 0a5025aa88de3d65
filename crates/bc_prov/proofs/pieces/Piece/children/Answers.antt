use Rattle.std.proofs.Common.{◌∷◌, ◌+◌, ◌≡◌, ◌≤◌, ◌++◌, ℕ, true, List, length, drop, sym, ap, ◌∙◌, subst, append-nil}
use Rattle.std.specs.Prelude.{map, nat_le}
use Rattle.std.specs.List.{list_all}
use Rattle.std.proofs.lemmas.List.{drop_all}
use Rattle.bc_syntax.specs.Children.{children_of}
use Rattle.bc_bodies.specs.Mir.{Mir}
use Rattle.bc_bodies.specs.declared.children.Child.{Child}
use Rattle.bc_prov.specs.Pieces.{PieceView}
use Rattle.bc_prov.specs.State.{number_of_child}
use Rattle.bc_prov.proofs.Numbers.{children_low}
use Rattle.std.proofs.lemmas.List.{at_drop_more}
use Rattle.bc_types.proofs.Appending.{appended-turn}
use Rattle.bc_prov.proofs.pieces.Piece.children.Goals as goal

-- after the last child all numbers are there
done : (numbers : List ℕ) (children : List Child) (i : ℕ) → length children ≤ i → numbers ++ map number_of_child (drop i children) ≡ map number_of_child children → numbers ≡ map number_of_child children
done numbers children i past are = sym (append-nil numbers) ∙ ap (λ (cs : List Child). numbers ++ map number_of_child cs) (sym (drop_all i children past)) ∙ are

pub returns-clause-value : goal.returns-clause-value
returns-clause-value c =
    done c.loop-child.numbers.items c.children-children.result.now c.loop-child.child-index c.loop-child-test.false c.loop-child.invariant
    ∙ ap (map number_of_child) (c.children-children.ensures ∙ ap (λ (m : Mir). m.children) c.get.ensures)
    ∙ c.self.invariant.fitted.numbered
    ∙ ap (λ (p : PieceView). children_of p.unit) c.self.view_is

pub returns-clause-low : goal.returns-clause-low
returns-clause-low c =
    subst (λ (ns : List ℕ). list_all (λ number. nat_le number 63) ns ≡ true)
    (sym (done c.loop-child.numbers.items c.children-children.result.now c.loop-child.child-index c.loop-child-test.false c.loop-child.invariant
    ∙ ap (map number_of_child) (c.children-children.ensures ∙ ap (λ (m : Mir). m.children) c.get.ensures) ∙ c.self.invariant.fitted.numbered))
    (children_low c.self.inside.unit)

pub loop-child-preserved : goal.loop-child-preserved
loop-child-preserved c =
    let each = map number_of_child in
    let children = c.children-children.result.now in
    appended-turn each _ _ children c.loop-child.child-index _ _ c.in_ok-push.ensures.items
    (at_drop_more each children c.loop-child.child-index c.child-item.result c.loop-child-test.true ∙ ap (λ (child : Child). each (child ∷ drop (c.loop-child.child-index + 1) children)) (sym c.child-item.is)) c.loop-child.invariant
