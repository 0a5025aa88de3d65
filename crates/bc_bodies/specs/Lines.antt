-- How points are printed.
use Rattle.std.specs.Prelude.{ℕ, List, ◌++◌, decimal, codes}
use Rattle.bc_bodies.specs.declared.mir.Point.{Point}

-- the text of the point of block B and index I: `bbB[I]`
abbrev pub point_text : Point → List ℕ
point_text point = codes "bb" ++ decimal point.block ++ codes "[" ++ decimal point.index ++ codes "]"
