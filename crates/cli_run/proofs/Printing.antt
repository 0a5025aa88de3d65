-- A printed beginning of a history.
use Rattle.std.proofs.Common.{◌≡◌, ◌<◌, ◌+◌, ℕ, zero, suc, Bool, true, Option, Some, None, List, [], ◌∷◌, ◌++◌, length, take, drop, get_or, Result, Ok, Err, sym, ap, ◌∙◌, subst, append-nil, append_assoc, arith}
use Rattle.std.specs.Prelude.{IsErrAnd, IsErrOf}
use Rattle.std.specs.List.{flat_map}
use Rattle.std.specs.Io.KnownBytes.{Appends, Keeps}
use Rattle.std.proofs.KnownBytes.{Appends-trans}
use Rattle.std.proofs.lemmas.List.{drop_more, take-append-drop}
use Rattle.bc_calls.specs.declared.call.Entry.{Entry}
use Rattle.cli_file.specs.declared.stop.Stop.{Stop}
use Rattle.cli_run.specs.Print.{entry_lines, PrintsPart}

added_kept : (u v w : Option (List ℕ)) (a : List ℕ) → Appends u v a → Keeps v w → Appends u w a
added_kept None v w a x y = tt
added_kept (Some xs) None w a x y = absurd x
added_kept (Some xs) (Some ys) None a x y = y
added_kept (Some xs) (Some ys) (Some zs) a x y = y ∙ x

-- why printing stops is what is reported
pub passed_on : {T : Type 0} (r : Result T Stop) (stop wanted : Stop) → IsErrAnd r (λ told. told ≡ stop) → IsErrOf r wanted → IsErrOf {T = T} (Err stop) wanted
passed_on (Ok made) stop wanted is same = absurd is
passed_on (Err told) stop wanted is same = ap Err (sym is) ∙ same

-- the entries before one of them are printed
pub part_printed : (json : Bool) (entries : List Entry) (i : ℕ) (u v w : Option (List ℕ)) → i < length entries → json ≡ true
    → Appends u v (flat_map (entry_lines json) (take i entries)) → Keeps v w → PrintsPart entries u w
part_printed json [] i u v w below is printed kept = absurd (omega (arith, below))
part_printed json (entry ∷ entries) i u v w below is printed kept = record {
  front = take i (entry ∷ entries);
  next = get_or (entry ∷ entries) i entry;
  ahead = drop (i + 1) (entry ∷ entries);
  cut = ap (λ (l : List Entry). take i (entry ∷ entries) ++ l) (sym (drop_more (entry ∷ entries) i entry below)) ∙ take-append-drop i (entry ∷ entries);
  printed = subst (λ (j : Bool). Appends u w (flat_map (entry_lines j) (take i (entry ∷ entries)))) is (added_kept u v w _ printed kept);
}

one_more_entry : (lines : Entry → List ℕ) (entries : List Entry) (i : ℕ) (d : Entry) → i < length entries → flat_map lines (take (i + 1) entries) ≡ flat_map lines (take i entries) ++ lines (get_or entries i d)
one_more_entry lines [] i d below = absurd (omega arith)
one_more_entry lines (entry ∷ entries) zero d below = append-nil (lines entry)
one_more_entry lines (entry ∷ entries) (suc i) d below =
    let turn : suc i + 1 ≡ suc (i + 1) = omega arith in
    let less : i < length entries = omega (arith, below) in
    ap (λ k. flat_map lines (take k (entry ∷ entries))) turn ∙ ap (λ l. lines entry ++ l) (one_more_entry lines entries i d less)
    ∙ sym (append_assoc (lines entry) (flat_map lines (take i entries)) (lines (get_or entries i d)))

-- one more entry is printed
pub more_printed : (json : Bool) (u v w : Option (List ℕ)) (entries : List Entry) (i : ℕ) (entry : Entry) → i < length entries → entry ≡ get_or entries i entry
    → Appends u v (flat_map (entry_lines json) (take i entries)) → Appends v w (entry_lines json entry) → Appends u w (flat_map (entry_lines json) (take (i + 1) entries))
more_printed json u v w entries i entry below is before last =
    subst (λ (l : List ℕ). Appends u w l) (sym (one_more_entry (entry_lines json) entries i entry below))
    (Appends-trans u v w (flat_map (entry_lines json) (take i entries)) (entry_lines json (get_or entries i entry)) before
    (subst (λ (e : Entry). Appends v w (entry_lines json e)) is last))
