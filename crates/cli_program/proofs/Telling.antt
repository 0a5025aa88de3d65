-- What standard error has is unchanged by its flush.
use Rattle.std.proofs.Common.{◌≡◌, ℕ, Bool, List, [], Option, Some, None, Result, Ok, Err, inl, inr, subst, sym}
use Rattle.std.proofs.KnownBytes.{Appends-kept, Keeps-trans}
use Rattle.std.specs.Prelude.{IfOk, MatchResult}
use Rattle.std.specs.Io.KnownBytes.{Keeps}
use Rattle.cli_line.specs.Parts.{CheckParts, RunParts, PrintParts}
use Rattle.cli_line.specs.declared.line.Line.{Line}
use Rattle.cli_line.specs.declared.line.Line.TheVariants.{Check, Run, Serve, Print}
use Rattle.cli_line.specs.declared.fault.LineFault.{LineFault}
use Rattle.cli_line.specs.declared.fault.LineFault.TheVariants as faults
use Rattle.cli_file.specs.declared.stop.Stop.{Stop}
use Rattle.cli_file.specs.Ends.{StopsWith}
use Rattle.cli_file.specs.Words.{AnswersWords, Shows}
use Rattle.cli_check.specs.Ends.{Checked, IsEnd as IsEndOfCheck}
use Rattle.cli_run.specs.Ends.{Ran, IsEnd as IsEndOfRun}
use Rattle.cli_print.specs.Ends.{IsEnd as IsEndOfPrint}
use Rattle.cli_serve.specs.Served.{IsEnd as IsEndOfServe}
use Rattle.cli_program.specs.Ends.{IsEndOfLine, IsEndOfWords}

-- the line of a stop
stop_kept : (Left : Stop → Option (List ℕ) → Type 0) (name : List ℕ) (exit : ℕ) (e e' : Option (List ℕ)) → StopsWith Left name exit e → Keeps e e' → StopsWith Left name exit e'
stop_kept Left name exit e e' s k = record { stop = s.stop; before = s.before; left = s.left; said = Appends-kept _ _ _ _ s.said k; status = s.status }

checked_kept : (line : CheckParts) (file : List ℕ) (exit : ℕ) (o o' b e e' : Option (List ℕ)) → Checked line file exit o o' b e → Keeps e e' → Checked line file exit o o' b e'
checked_kept line file exit o o' b e e' c k =
    let runs = c.runs in
    record {
      made = c.made;
      names = c.names;
      good = c.good;
      asked = c.asked;
      runs = record { events = runs.events; made = runs.made; few = runs.few; legal = runs.legal; output = runs.output; errors = Appends-kept _ _ _ _ runs.errors k; status = runs.status };
    }

ran_kept : (json : Bool) (sessions : ℕ) (file : List ℕ) (exit : ℕ) (o o' b e e' : Option (List ℕ)) → Ran json sessions file exit o o' b e → Keeps e e' → Ran json sessions file exit o o' b e'
ran_kept json sessions file exit o o' b e e' r k =
    record { given = r.given; history = r.history; ends = r.ends; good = r.good; few = r.few; made = r.made; output = r.output; errors = Appends-kept _ _ _ _ r.errors k; status = r.status }

check_kept : (line : CheckParts) (known : Option (List ℕ)) (exit : ℕ) (o o' b e e' : Option (List ℕ)) → IsEndOfCheck line known exit o o' b e → Keeps e e' → IsEndOfCheck line known exit o o' b e'
check_kept line None exit o o' b e e' (inl done) k = inl tt
check_kept line (Some file) exit o o' b e e' (inl done) k = inl (done.0, checked_kept line file exit o o' b e e' done.1 k)
check_kept line known exit o o' b e e' (inr stopped) k = inr (stop_kept _ line.file exit e e' stopped k)

run_kept : (line : RunParts) (known : Option (List ℕ)) (exit : ℕ) (o o' b e e' : Option (List ℕ)) → IsEndOfRun line known exit o o' b e → Keeps e e' → IsEndOfRun line known exit o o' b e'
run_kept line None exit o o' b e e' (inl done) k = inl tt
run_kept line (Some file) exit o o' b e e' (inl done) k = inl (done.0, ran_kept line.json line.sessions file exit o o' b e e' done.1 k)
run_kept line known exit o o' b e e' (inr stopped) k = inr (stop_kept _ line.file exit e e' stopped k)

serve_kept : (sessions : ℕ) (known : Option (List (List ℕ))) (exit : ℕ) (b e e' : Option (List ℕ)) → IsEndOfServe sessions known exit b e → Keeps e e' → IsEndOfServe sessions known exit b e'
serve_kept sessions known exit b e e' (inl (is, kept, served)) k = inl (is, Keeps-trans b e e' kept k, served)
serve_kept sessions known exit b e e' (inr stopped) k = inr (stopped.0, stopped.1, Appends-kept _ _ _ _ stopped.2 k)

print_kept : (line : PrintParts) (known : Option (List ℕ)) (exit : ℕ) (o o' b e e' : Option (List ℕ)) → IsEndOfPrint line known exit o o' b e → Keeps e e' → IsEndOfPrint line known exit o o' b e'
print_kept line known exit o o' b e e' (inl done) k = inl (done.0, done.1, Keeps-trans b e e' done.2 k)
print_kept line known exit o o' b e e' (inr stopped) k = inr (stop_kept _ line.file exit e e' stopped k)

shows_kept : (text : List ℕ) (exit : ℕ) (o o' b e e' : Option (List ℕ)) → Shows text exit o o' b e → Keeps e e' → Shows text exit o o' b e'
shows_kept text exit o o' b e e' (inl shown) k = inl (shown.0, shown.1, Keeps-trans b e e' shown.2 k)
shows_kept text exit o o' b e e' (inr said) k = inr (said.0, Appends-kept _ _ _ _ said.1 k)

answers_kept : (fault : LineFault) (exit : ℕ) (o o' b e e' : Option (List ℕ)) → AnswersWords fault exit o o' b e → Keeps e e' → AnswersWords fault exit o o' b e'
answers_kept (faults.Help topic) exit o o' b e e' said k = shows_kept _ exit o o' b e e' said k
answers_kept faults.Version exit o o' b e e' said k = shows_kept _ exit o o' b e e' said k
answers_kept faults.WrongUse exit o o' b e e' said k = (said.0, (said.1.0, Appends-kept _ _ _ _ said.1.1 k))
answers_kept faults.NoMemory exit o o' b e e' said k = (said.0, (said.1.0, Appends-kept _ _ _ _ said.1.1 k))

end_kept : (files : List ℕ → Option (List ℕ)) (standard : Option (List ℕ)) (line : Line) (exit : ℕ) (o o' b e e' : Option (List ℕ)) → IsEndOfLine files standard line exit o o' b e → Keeps e e' → IsEndOfLine files standard line exit o o' b e'
end_kept files standard (Check line) exit o o' b e e' end k = check_kept line _ exit o o' b e e' end k
end_kept files standard (Run line) exit o o' b e e' end k = run_kept line _ exit o o' b e e' end k
end_kept files standard (Serve line) exit o o' b e e' end k = serve_kept line.sessions _ exit b e e' end k
end_kept files standard (Print line) exit o o' b e e' end k = print_kept line _ exit o o' b e e' end k

-- the end of a line, whose status is returned after standard error is flushed
pub line_kept : {E : Type 0} (files : List ℕ → Option (List ℕ)) (standard : Option (List ℕ)) (line : Line) (status : ℕ) (o o' b e e' : Option (List ℕ)) (r : Result ℕ E)
    → IfOk r (λ exit. exit ≡ status) → Keeps e e' → IsEndOfLine files standard line status o o' b e → IfOk r (λ exit. IsEndOfLine files standard line exit o o' b e')
line_kept files standard line status o o' b e e' (Ok exit) same k end = end_kept files standard line exit o o' b e e' (subst (λ (n : ℕ). IsEndOfLine files standard line n o o' b e) (sym same) end) k
line_kept files standard line status o o' b e e' (Err fault) same k end = tt

words_end_kept : (files : List ℕ → Option (List ℕ)) (standard : Option (List ℕ)) (words : List (List ℕ)) (exit : ℕ) (o o' b e e' : Option (List ℕ)) → IsEndOfWords files standard words exit o o' b e → Keeps e e' → IsEndOfWords files standard words exit o o' b e'
words_end_kept files standard words exit o o' b e e' end k = record { read = end.read; given = end.given; ended = kept end.read end.ended }
  where
    kept : (read : Result Line LineFault) → MatchResult read (λ line. IsEndOfLine files standard line exit o o' b e) (λ fault. AnswersWords fault exit o o' b e)
        → MatchResult read (λ line. IsEndOfLine files standard line exit o o' b e') (λ fault. AnswersWords fault exit o o' b e')
    kept (Ok line) end = end_kept files standard line exit o o' b e e' end k
    kept (Err fault) end = answers_kept fault exit o o' b e e' end k

-- the end of words, whose status is returned after standard error is flushed
pub words_kept : {E : Type 0} (files : List ℕ → Option (List ℕ)) (standard : Option (List ℕ)) (words : List (List ℕ)) (status : ℕ) (o o' b e e' : Option (List ℕ)) (r : Result ℕ E)
    → IfOk r (λ exit. exit ≡ status) → Keeps e e' → IsEndOfWords files standard words status o o' b e → IfOk r (λ exit. IsEndOfWords files standard words exit o o' b e')
words_kept files standard words status o o' b e e' (Ok exit) same k end = words_end_kept files standard words exit o o' b e e' (subst (λ (n : ℕ). IsEndOfWords files standard words n o o' b e) (sym same) end) k
words_kept files standard words status o o' b e e' (Err fault) same k end = tt
