use Rattle.std.proofs.Common.{◌≡◌, ◌-◌, [], length}
use Rattle.bc_tokens.specs.Parser.{declared_from, sees_region}
use Rattle.bc_text.specs.Reading.{new_region}
use Rattle.bc_text.proofs.regions.some_new_regions.Given as goal

abbrev pub invariant-loop-turn : goal.invariant-loop-turn
invariant-loop-turn l = (declared_from sees_region new_region l.limit [] l.initial.cursor ≡ declared_from sees_region new_region (l.limit - l._turn) l.found l.cursor) × (length l.found ≡ l._turn)
