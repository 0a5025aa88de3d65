use Rattle.std.proofs.Common.{◌≡◌, ◌∙◌, sym, subst}
use Rattle.std.specs.Prelude.{MatchResult}
use Rattle.bc_prov.specs.Pieces.{rows_of}
use Rattle.bc_memo.specs.Places.{AreFitting, changed}
use Rattle.bc_calls.specs.Calls.{MayComeNext, after}
use Rattle.bc_calls.specs.Changes.{change_of}
use Rattle.bc_calls.proofs.Changing.{may_change}
use Rattle.bc_versions.specs.Tables.{UpdateView, pressed}
use Rattle.bc_book.proofs.book.publish.Goals as goal

pub new-requires : goal.new-requires
new-requires g c =
    let next = subst (MayComeNext c.args.press.now.entries) (sym c.in_ok-copy.ensures) c.requires.next in
    may_change (after c.args.press.now.entries) _ next.0

pub add-requires-clause-next : goal.add-requires-clause-next
add-requires-clause-next g c =
    let is : c.new.result ≡ record { entry = c.args.entry.now; revision = c.args.revision; pieces = rows_of c.args.pieces.now } =
    c.new.ensures ∙ (λ i. record { entry = c.in_ok-copy.ensures i; revision = c.args.revision; pieces = rows_of (c.in_ok-owned.ensures i) }) in
    subst (λ (u : UpdateView). MayComeNext c.args.press.now.entries u.entry) (sym is) c.requires.next

pub add-requires-clause-pieces : goal.add-requires-clause-pieces
add-requires-clause-pieces g c =
    let is : c.new.result ≡ record { entry = c.args.entry.now; revision = c.args.revision; pieces = rows_of c.args.pieces.now } =
    c.new.ensures ∙ (λ i. record { entry = c.in_ok-copy.ensures i; revision = c.args.revision; pieces = rows_of (c.in_ok-owned.ensures i) }) in
    subst (λ (u : UpdateView). AreFitting (changed c.args.press.now.shelf (change_of u.entry.event) u.revision) u.pieces) (sym is) c.requires.pieces

pub returns : goal.returns
returns g c =
    let is : c.new.result ≡ record { entry = c.args.entry.now; revision = c.args.revision; pieces = rows_of c.args.pieces.now } =
    c.new.ensures ∙ (λ i. record { entry = c.in_ok-copy.ensures i; revision = c.args.revision; pieces = rows_of (c.in_ok-owned.ensures i) }) in
    subst (λ (u : UpdateView). MatchResult c.add.result (λ _. c.add.new.self ≡ pressed c.args.press.now (record { entry = u.entry; revision = u.revision })) (λ _. c.add.new.self ≡ c.args.press.now)) is c.add.ensures
