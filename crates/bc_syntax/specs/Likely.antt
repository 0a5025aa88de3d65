-- The only keyword that a word may be, by its first four bytes.
use Rattle.std.specs.Prelude.{ℕ, List, if◌then◌else◌, ◌==◌, slice_index, Option, Some, None}
use Rattle.bc_syntax.specs.declared.symbol.Symbol.{Symbol}
use Rattle.bc_syntax.specs.declared.symbol.Symbol.TheVariants as symbols

-- the only keyword in `c`, by its second and fourth byte
abbrev pub likely_c : ℕ → ℕ → Option Symbol
likely_c second fourth =
    if second == 108 then Some symbols.Closure
    else (if second == 111 then Some symbols.Copy
    else (if fourth == 99 then Some symbols.Calc
    else Some symbols.Call))

-- the only keyword in `i`, by its second and third byte
abbrev pub likely_i : ℕ → ℕ → Option Symbol
likely_i second third =
    if second == 102 then Some symbols.If
    else (if third == 116 then Some symbols.Int
    else Some symbols.Invoke)

-- the only keyword that may begin with these bytes
abbrev pub likely_by : (first second third fourth : ℕ) → Option Symbol
likely_by first second third fourth =
    if first == 99 then likely_c second fourth
    else (if first == 100 then (if second == 101 then Some symbols.Dead else Some symbols.Drop)
    else (if first == 101 then Some symbols.Extern
    else (if first == 102 then Some symbols.Fn
    else (if first == 103 then Some symbols.Goto
    else (if first == 105 then likely_i second third
    else (if first == 108 then Some symbols.Let
    else (if first == 109 then (if second == 117 then Some symbols.Mut else Some symbols.Move)
    else (if first == 110 then Some symbols.Nop
    else (if first == 114 then Some symbols.Return
    else (if first == 115 then (if third == 111 then Some symbols.Stop else Some symbols.Struct)
    else (if first == 119 then Some symbols.Where
    else None)))))))))))

-- the only keyword that the word may be, by its first four bytes
unfoldable pub likely_keyword : List ℕ → Option Symbol
likely_keyword word = likely_by (slice_index word 0) (slice_index word 1) (slice_index word 2) (slice_index word 3)
