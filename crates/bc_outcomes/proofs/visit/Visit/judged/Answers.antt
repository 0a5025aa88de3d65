use Rattle.std.proofs.Common.{◌≡◌, List, sym, ap, ◌∙◌, subst}
use Rattle.std.specs.Prelude.{Some}
use Rattle.bc_syntax.specs.declared.syntax.Body.{Body}
use Rattle.bc_syntax.specs.declared.syntax.Declaration.{Declaration}
use Rattle.bc_names.specs.Names.{NameParts}
use Rattle.bc_cons.specs.Requirements.{AreOfChildren}
use Rattle.bc_bodies.specs.Mir.{mir_of}
use Rattle.bc_prov.specs.Pieces.{PieceView, IsFitted, IsFoundFrom}
use Rattle.bc_prov.specs.State.{at_name}
use Rattle.bc_outcomes.specs.Visited.{VisitView}
use Rattle.bc_outcomes.proofs.visit.Visit.judged.Goals as goal

some_same : (a b : Body) → Some a ≡ Some b → a ≡ b
some_same a b e = cc

pub returns-in-Some-clause-found : goal.returns-in-Some-clause-found
returns-in-Some-clause-found g c =
    let piece : PieceView = c.in-Some.had.piece.now in
    let visit : VisitView = c.args.self in
    let own = subst (λ (v : VisitView). IsFitted v.typed.types v.unit v.typed) c.self.view_is c.self.invariant in
    let named = ap (λ (v : VisitView). at_name c.args.snapshot.now.units v.name) c.self.view_is in
    let unit : piece.unit ≡ visit.unit = some_same piece.unit visit.unit (sym c.in-Some.ensures.over.unit ∙ named ∙ c.requires.held) in
    let types : piece.types ≡ visit.typed.types = c.in-Some.ensures.over.types ∙ c.requires.types in
    let children : piece.mir.children ≡ visit.typed.children = c.in-Some.ensures.from.0 ∙ c.children.ensures ∙ ap (λ m. m.children) c.get.ensures ∙ ap (λ (v : VisitView). v.typed.children) c.self.view_is in
    let mir : piece.mir ≡ visit.typed = c.in-Some.ensures.right.fitted.over ∙ (λ i. mir_of (types i) (children i) (unit i)) ∙ sym own.over in
    subst (IsFoundFrom c.args.snapshot.now.types visit.unit visit.typed c.args.kids.items) (sym c.in_ok-clone.ensures.cases) (record {
      types = c.in-Some.ensures.over.types;
      unit = unit;
      mir = mir;
      kids = c.in-Some.ensures.from.1 ∙ c.deref.ensures.value;
      right = c.in-Some.ensures.right;
    })

pub returns-clause-found : goal.returns-clause-found
returns-clause-found g c =
    let types = c.in_ok-types.ensures.cases ∙ c.types.ensures in
    subst (λ (x : List Declaration × (VisitView × PieceView)). IsFoundFrom x.0 x.1.0.unit x.1.0.typed c.args.kids.items x.1.1) (λ i. (types i, (c.self.view_is i, sym c.in_ok-share.ensures i))) c.in_ok-piece.ensures

pub returns-in-Some-clause-named : goal.returns-in-Some-clause-named
returns-in-Some-clause-named g c = ap (λ (v : VisitView). v.name) c.self.view_is

pub returns-clause-named : goal.returns-clause-named
returns-clause-named g c = ap (λ (v : VisitView). v.name) c.self.view_is

pub piece_of-requires-clause-fitted : goal.piece_of-requires-clause-fitted
piece_of-requires-clause-fitted g c =
    rw (c.in_ok-types.ensures.cases ∙ c.types.ensures ∙ c.requires.types ∙ sym (ap (λ (v : VisitView). v.typed.types) c.self.view_is)) c.self.invariant

pub piece_of-requires-clause-kids : goal.piece_of-requires-clause-kids
piece_of-requires-clause-kids g c = subst (λ (v : VisitView). AreOfChildren v.typed.children c.args.kids.items) (sym c.self.view_is) c.requires.kids
