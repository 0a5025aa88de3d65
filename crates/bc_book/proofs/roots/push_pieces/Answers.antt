use Rattle.std.proofs.Common.{◌≡◌, ◌++◌, ◌∙◌, Option, Some, Result, Ok, Err, ap, sym}
use Rattle.std.specs.Prelude.{OnOk}
use Rattle.std.proofs.lemmas.List.{append-nil}
use Rattle.bc_prov.specs.Pieces.{PieceSetView, rows_of}
use Rattle.bc_book.proofs.roots.push_pieces.Goals as goal

pushed : {A E : Type 0} (r : Result A E) (new old set : PieceSetView) (more : Option PieceSetView) → OnOk r (new ≡ record { types = old.types; rows = old.rows ++ set.rows }) → more ≡ Some set
    → OnOk r (new.rows ≡ old.rows ++ rows_of more)
pushed (Err e) new old set more is some = tt
pushed (Ok a) new old set more is some = ap (λ (p : PieceSetView). p.rows) is ∙ sym (ap (λ (o : Option PieceSetView). old.rows ++ rows_of o) some)

pub returns-in-Some-clause-rows : goal.returns-in-Some-clause-rows
returns-in-Some-clause-rows c = pushed c.append.result c.append.new.self c.args.pieces.now c.in-Some.set c.args.more c.append.ensures.taken c.in-Some.is

pub returns-in-None-clause-rows : goal.returns-in-None-clause-rows
returns-in-None-clause-rows c =
    let before = c.args.pieces.now.rows in
    sym (ap (λ (o : Option PieceSetView). before ++ rows_of o) c.in-None.is ∙ append-nil before)
