use Rattle.bc_places.specs.Places.{places_of}
use Rattle.bc_source.proofs.Behind.{found_position}
use Rattle.bc_source.proofs.unit.SourceUnit.start_of.Goals as goal

pub returns-clause-position : goal.returns-clause-position
returns-clause-position c =
    let inside = c.self.inside in
    rw (← c.self.view_is) (found_position inside.text.now (places_of inside.text.now inside.unit) inside.starts.items _ _ _ c.self.invariant (rw c.deref.ensures.value at c.start_behind.ensures))
