use Rattle.std.proofs.Common.{◌≡◌, ◌-◌, []}
use Rattle.bc_tokens.specs.Parser.{separated_from}
use Rattle.bc_text.specs.Reading.{region, begins_region}
use Rattle.bc_text.proofs.regions.some_regions.Given as goal

abbrev pub invariant-loop-turn : goal.invariant-loop-turn
invariant-loop-turn l = separated_from (begins_region l.variables) (region l.variables l.regions) 15 [] l.initial.cursor ≡ separated_from (begins_region l.variables) (region l.variables l.regions) (15 - l._turn) l.found l.cursor
