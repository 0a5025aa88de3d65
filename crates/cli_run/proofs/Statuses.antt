-- The greatest status, call by call and session by session.
use Rattle.std.proofs.Common.{◌≡◌, ◌<◌, ◌≤◌, ℕ, zero, suc, max, List, [], ◌∷◌, ◌++◌, ◌+◌, length, take, get_or, ap, sym, ◌∙◌, append_assoc, append-nil, arith}
use Rattle.std.proofs.lemmas.List.{take_more}
use Rattle.bc_calls.specs.declared.call.Entry.{Entry}
use Rattle.bc_scripts.specs.declared.run.End.{End}
use Rattle.bc_scripts.specs.declared.run.End.TheVariants.{Done, Stopped}
use Rattle.cli_file.specs.Statuses.{event_status, greatest}
use Rattle.cli_run.specs.Print.{stopped_line, stopped_lines}
use Rattle.cli_run.specs.Runs.{events_of, end_status, greatest_end}

pub greatest-snoc : (entries : List Entry) (entry : Entry) → greatest (events_of (entries ++ entry ∷ [])) ≡ max (greatest (events_of entries)) (event_status entry.event)
greatest-snoc [] entry = omega arith
greatest-snoc (e ∷ entries) entry = let more = greatest-snoc entries entry in omega (arith, more)

pub greatest_end-snoc : (ends : List End) (end : End) → greatest_end (ends ++ end ∷ []) ≡ max (greatest_end ends) (end_status end)
greatest_end-snoc [] end = omega arith
greatest_end-snoc (e ∷ ends) end = let more = greatest_end-snoc ends end in omega (arith, more)

end_at_most : (end : End) → end_status end ≤ 3
end_at_most Done = omega arith
end_at_most (Stopped number refusal) = omega arith

ends_at_most : (ends : List End) → greatest_end ends ≤ 3
ends_at_most [] = omega arith
ends_at_most (end ∷ ends) = let one = end_at_most end in let rest = ends_at_most ends in omega (arith, one, rest)

-- a session that stopped early decides
pub one_stopped : (ends : List End) (i : ℕ) (d : End) → i < length ends → end_status (get_or ends i d) ≡ 3 → greatest_end ends ≡ 3
one_stopped [] i d below h = absurd (omega (arith, below))
one_stopped (end ∷ ends) zero d below h = let rest = ends_at_most ends in omega (arith, h, rest)
one_stopped (end ∷ ends) (suc i) d below h = let one = end_at_most end in let rest = one_stopped ends i d (omega (arith, below)) h in omega (arith, one, rest)

pub stopped-snoc : (session : ℕ) (ends : List End) (end : End) → stopped_lines session (ends ++ end ∷ []) ≡ stopped_lines session ends ++ stopped_line (session + length ends) end
stopped-snoc session [] end = append-nil (stopped_line session end) ∙ ap (λ (n : ℕ). stopped_line n end) (let same : session ≡ session + 0 = omega arith in same)
stopped-snoc session (e ∷ ends) end =
    ap (λ (text : List ℕ). stopped_line session e ++ text) (stopped-snoc (session + 1) ends end ∙ ap (λ (n : ℕ). stopped_lines (session + 1) ends ++ stopped_line n end) (let same : session + 1 + length ends ≡ session + suc (length ends) = omega arith in same))
    ∙ sym (append_assoc (stopped_line session e) (stopped_lines (session + 1) ends) _)

-- one more item of a list
pub taken_more : {X : Type 0} (xs : List X) (i : ℕ) (x : X) → i < length xs → x ≡ get_or xs i x → take (i + 1) xs ≡ take i xs ++ x ∷ []
taken_more {X} xs i x below at = take_more xs i x below ∙ ap (λ (y : X). take i xs ++ y ∷ []) (sym at)
