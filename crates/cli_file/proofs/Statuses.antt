-- The greatest status of the outcomes of some names, name by name.
use Rattle.std.proofs.Common.{◌≡◌, ◌<◌, ℕ, ◌+◌, max, List, [], ◌∷◌, ◌++◌, length, take, get_or, ap, sym, ◌∙◌, arith}
use Rattle.std.proofs.lemmas.List.{take_more}
use Rattle.bc_names.specs.Names.{NameParts}
use Rattle.bc_prov.specs.declared.outcome.Outcome.{Outcome}
use Rattle.cli_file.specs.Statuses.{outcome_status, rows_status}

rows_status-snoc : (rows : List (NameParts × Outcome)) (row : NameParts × Outcome) → rows_status (rows ++ row ∷ []) ≡ max (rows_status rows) (outcome_status row.1)
rows_status-snoc [] row = omega arith
rows_status-snoc (r ∷ rows) row = let more = rows_status-snoc rows row in omega (arith, more)

-- one more row
pub rows_status-more : (rows : List (NameParts × Outcome)) (i : ℕ) (row : NameParts × Outcome) → i < length rows → row ≡ get_or rows i row
    → rows_status (take (i + 1) rows) ≡ max (rows_status (take i rows)) (outcome_status row.1)
rows_status-more rows i row below at =
    ap rows_status (take_more rows i row below ∙ ap (λ (r : NameParts × Outcome). take i rows ++ r ∷ []) (sym at)) ∙ rows_status-snoc (take i rows) row
