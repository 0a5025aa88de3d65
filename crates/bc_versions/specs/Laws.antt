-- A law of the rule of the published table.
use Rattle.std.specs.Prelude.{◌≡◌, ℕ, List}
use mathlib.Core.Option.{some}
use lib.ListN.{get_elem?}
use Rattle.bc_calls.specs.declared.call.Entry.{Entry}
use Rattle.bc_calls.specs.Calls.{last_of}
use Rattle.bc_versions.specs.Tables.{TableView}
use Rattle.bc_versions.specs.Rules.{IsPublished}

-- a thread has seen the whole list that was published, if the last entry that it has seen is the table's
abbrev pub WritersHaveSeenAll : Type 0
WritersHaveSeenAll = (table : TableView) (views : List (List Entry)) (seat : ℕ) (seen : List Entry) (rule : IsPublished table views)
    → get_elem? views seat ≡ some seen → table.last ≡ last_of seen → rule.0 ≡ seen
