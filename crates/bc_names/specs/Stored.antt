-- How a name is stored in memory.
use Rattle.std.specs.Prelude.{◌≡◌, ℕ, ◌-◌, List, ◌++◌, length, take, replicate}
use Rattle.std.proofs.Common.{ap, ◌∙◌}
use Rattle.bc_names.specs.declared.name.Name.TheInside.{Inside}
use Rattle.bc_names.specs.Names.{NameParts, IsName}

-- this number of cells: the items, then zeros
abbrev pub padded : ℕ → List ℕ → List ℕ
padded cells items = items ++ replicate (cells - length items) 0

-- the cells with these contents
abbrev pub cells : List ℕ → ℕ → List ℕ → ℕ → Inside
cells root root_len segments depth = record { root = root; root_len = root_len; segments = segments; depth = depth }

-- the name that these cells store
abbrev pub parts_of : Inside → NameParts
parts_of a = record { root = take a.root_len a.root; segments = take a.depth a.segments }

-- the cells that store a name
abbrev pub cells_of : NameParts → Inside
cells_of name = cells (padded 32 name.root) (length name.root) (padded 7 name.segments) (length name.segments)

-- the used cells store a name, and the others are zeros
pub record IsStored (a : Inside) : Type 0 where
  pub root : padded 32 (take a.root_len a.root) ≡ a.root
  pub root_len : length (take a.root_len a.root) ≡ a.root_len
  pub segments : padded 7 (take a.depth a.segments) ≡ a.segments
  pub depth : length (take a.depth a.segments) ≡ a.depth
  pub name : IsName (parts_of a)

-- a stored name gives its cells back
pub gives_back : (a : Inside) → IsStored a → cells_of (parts_of a) ≡ a
gives_back a h =
    ap (λ (r : List ℕ). cells r (length (take a.root_len a.root)) (padded 7 (take a.depth a.segments)) (length (take a.depth a.segments))) h.root
    ∙ ap (λ (n : ℕ). cells a.root n (padded 7 (take a.depth a.segments)) (length (take a.depth a.segments))) h.root_len
    ∙ ap (λ (s : List ℕ). cells a.root a.root_len s (length (take a.depth a.segments))) h.segments
    ∙ ap (λ (n : ℕ). cells a.root a.root_len a.segments n) h.depth
