-- What an author printed.
use Rattle.std.specs.Prelude.{◌≡◌, ℕ, List, [], true, false}
use Rattle.atomic_table.specs.Seated.{TableId}
use Rattle.atomic_table.specs.Table.{Me}
use Rattle.cli_output.specs.Logs.{texts_of}
use Rattle.cli_output.specs.declared.token.Known.{Known}

-- the number of an author, and the texts that it printed, in order
pub record PenView : Type 0 where
  pub number : ℕ
  pub texts : List (List ℕ)

-- the token belongs to the author of this number, and to this table
pub record IsPenOf (table : TableId) (number : ℕ) (named : TableId) (me : Me ℕ Known) : Type 0 where
  pub table_is : named ≡ table
  pub holds : me.1 ≡ []
  pub writes : me.0.writes ≡ true
  pub keeps : me.0.keeps ≡ false
  pub makes : me.0.makes ≡ false
  pub author : me.0.author ≡ number

-- the log has exactly these texts of this author
abbrev pub IsLogged : List (ℕ × List ℕ) → PenView → Type 0
IsLogged log pen = pen.texts ≡ texts_of pen.number log
