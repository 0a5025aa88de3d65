use Rattle.std.proofs.Common.{◌≡◌, map, ℕ, Bool, true, false, List, [], ◌∷◌, refl, sym, ◌∙◌}
use Rattle.std.specs.Prelude.{◌||◌, if◌then◌else◌}
use Rattle.std.specs.Char.{is_ascii_control}
use Rattle.std.specs.List.{list_any}
use Rattle.cli_file.specs.OneLine.{in_one_line}
use Rattle.cli_file.proofs.one_line.write_in_one_line.Goals as goal

by : (c d : Bool) (b : ℕ) → c || d ≡ false → (if c then 63 else b) ≡ b
by true d b none = absurd cc
by false d b none = refl

rest : (c d : Bool) → c || d ≡ false → d ≡ false
rest true d none = absurd cc
rest false d none = none

-- bytes without a control character are printed as they are
stay : (bytes : List ℕ) → list_any is_ascii_control bytes ≡ false → map in_one_line bytes ≡ bytes
stay [] none = refl
stay (b ∷ bytes) none =
    rw (by (is_ascii_control b) (list_any is_ascii_control bytes) b none, stay bytes (rest (is_ascii_control b) (list_any is_ascii_control bytes) none)) refl

pub returns-then-not-have_control : goal.returns-then-not-have_control
returns-then-not-have_control g c =
    let told = rw c.as_bytes-bytes.ensures.value at c.write_all.ensures.bytes in
    rw (stay c.args.name.now (rw c.as_bytes-bytes.ensures.value at (sym c.have_control.ensures ∙ c.if-not-have_control.true))) told
