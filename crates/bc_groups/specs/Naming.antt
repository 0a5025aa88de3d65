-- Labels and their numbers.
use Rattle.std.specs.Prelude.{◌≡◌, ℕ, ◌<◌, ◌⊎◌, List, length, slice_index}
use Rattle.bc_groups.specs.declared.components.Naming.{Naming}

-- the label has this number
abbrev pub IsNamed : List ℕ → ℕ → ℕ → Type 0
IsNamed names number label = (number < length names) × (slice_index names number ≡ label)

-- each label has no number, or its own
abbrev pub IsNaming : Naming → Type 0
IsNaming naming =
    (label : ℕ) → label < length naming.numbers.items
    → (slice_index naming.numbers.items label ≡ length naming.numbers.items) ⊎ IsNamed naming.names.items (slice_index naming.numbers.items label) label
