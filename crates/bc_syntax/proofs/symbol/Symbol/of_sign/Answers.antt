use Rattle.std.proofs.Common.{◌≡◌, ◌≢◌, ◌≤◌, ℕ, Bool, true, false, ltb, cond, refl, ◌∙◌, arith}
use Rattle.std.specs.Prelude.{None}
use Rattle.std.proofs.lemmas.Bool.{ltb-false, ne_eqb}
use Rattle.bc_syntax.specs.Symbol.{sign_of, text}
use Rattle.bc_syntax.proofs.symbol.Symbol.of_sign.Goals as goal

-- only four signs are above `?`: the brackets and the braces
others_low : (byte : ℕ) → byte ≢ 91 → byte ≢ 93 → byte ≢ 123 → byte ≢ 125 → (low : Bool) → ltb byte 63 ≡ low → cond low (sign_of byte) None ≡ sign_of byte
unfolding sign_of text
others_low byte a b c d true is = refl
others_low byte a b c d false is =
    let high : 63 ≤ byte = ltb-false byte 63 is in
    let not = λ (sign : ℕ) (other : sign ≢ byte). ne_eqb sign byte other in
    rw (
      not 40 (omega arith),
      not 41 (omega arith),
      not 123 (omega arith),
      not 125 (omega arith),
      not 91 (omega arith),
      not 93 (omega arith),
      not 60 (omega arith),
      not 62 (omega arith),
      not 44 (omega arith),
      not 59 (omega arith),
      not 58 (omega arith),
      not 61 (omega arith),
      not 43 (omega arith),
      not 38 (omega arith),
      not 46 (omega arith),
      not 42 (omega arith),
    ) refl

pub returns-in_default : goal.returns-in_default
returns-in_default c = c.of_low_sign.ensures ∙ others_low c.args.byte (omega arith) (omega arith) (omega arith) (omega arith) _ refl
