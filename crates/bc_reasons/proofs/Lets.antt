-- How many locals come before the `let` locals.
use Rattle.std.proofs.Common.{◌≡◌, ◌+◌, ◌-◌, ◌≤◌, length, drop, arith, length-drop}
use Rattle.std.proofs.lemmas.List.{length-take}
use Rattle.bc_bodies.specs.Mir.{Mir}
use Rattle.bc_mir.specs.WellFormed.{input_types, let_types}
use Rattle.bc_mir.specs.Typed.{IsTyped}

pub before_lets : (mir : Mir) → IsTyped mir → 1 + length (input_types mir) ≡ mir.first_let
before_lets mir typed =
    let dropped = length-drop 1 mir.locals in
    let taken = length-take (mir.first_let - 1) (drop 1 mir.locals) in
    omega (arith, dropped, taken, typed.some_declared, typed.lets)

pub with_lets : (mir : Mir) → IsTyped mir → mir.first_let + length (let_types mir) ≤ 256
with_lets mir typed = let dropped = length-drop mir.first_let mir.locals in omega (arith, dropped, typed.lets, typed.locals)
