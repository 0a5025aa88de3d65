-- Where a whole text is refused, and on which bytes the fault depends.
use Rattle.std.proofs.Common.{◌≡◌, ◌≢◌, ℕ, suc, ◌+◌, false, List, [], ◌∷◌, ◌++◌, length, map, Some, Result, Ok, Err, refl, sym, ap, ◌∙◌, subst, inl, inr, ltb, arith}
use Rattle.std.specs.List.{All}
use Rattle.std.proofs.lemmas.Bool.{le-ltb}
use Rattle.bc_syntax.specs.Token.{Token, Fixed, Numbered, Word, Region, NotAscii, Stray, End}
use Rattle.bc_tokens.specs.declared.refusal.Refusal.{Refusal}
use Rattle.bc_tokens.specs.declared.refusal.Refusal.TheVariants as refusals
use Rattle.bc_tokens.specs.Token.{Placed, placed, Tokens, tokens}
use Rattle.bc_tokens.specs.Parser.{Parser, first, fault_at}
use Rattle.bc_text.specs.declared.fault.ReadFault.{ReadFault}
use Rattle.bc_text.specs.declared.fault.ReadFault.TheVariants as faults
use Rattle.bc_text.specs.Fault.{read_fault}
use Rattle.bc_text.specs.Reading.{answer_of, read_whole}
use Rattle.bc_text_laws.specs.Laws.{TellsToken, place_of, reach, FaultsAreLocal}
use Rattle.bc_text.proofs.Begins.{chosen}
use Rattle.bc_text.proofs.Ends.{IsText, tokens_are_text}
use Rattle.bc_text_laws.proofs.Local.{Parses, Filled, Begun, Stands, is_taken, IsTaken, IsFaultOf, with_rest, kinds}
use Rattle.bc_text_laws.proofs.Agree.{agree_from_take, tokens_agree}

-- the token at which a text is refused, whatever follows it
pub record Stopped {A : Type 0} (P : A → Type 0) (p : Parser A) (spell : A → List Token) (bytes : List ℕ) (fault : ReadFault) : Type 0 where
  pub before : Tokens
  pub bad : Placed
  pub later : Tokens
  pub is : tokens 0 0 bytes ≡ before ++ bad ∷ later
  pub refusal : Refusal
  pub told : fault ≡ read_fault refusal
  pub stands : IsFaultOf refusal bad
  pub begun : Filled P spell (kinds before)
  pub same : (other : Tokens) → p (before ++ bad ∷ other) ≡ Err refusal

no_end : (t : Placed) (ts : Tokens) → IsTaken t → IsText (t ∷ ts) → IsText ts
no_end t [] e h = let bad : is_taken t.token ≡ false = ap is_taken h in absurd cc
no_end t (u ∷ ts) e h = h.1

-- the end still follows tokens that are not the end
behind_text : (taken rest : Tokens) → All IsTaken taken → IsText (taken ++ rest) → IsText rest
behind_text [] rest good text = text
behind_text (t ∷ taken) rest good text = behind_text taken rest (λ k d h. good (suc k) d (omega (arith, h))) (no_end t (taken ++ rest) (good 0 t (omega arith)) text)

stopped_at : {A : Type 0} {P : A → Type 0} (p : Parser A) (spell : A → List Token) (bytes : List ℕ) (fault : ReadFault) (taken rest : Tokens) → tokens 0 0 bytes ≡ taken ++ rest → IsText rest → (answer : Result A Refusal)
    → ((other : Tokens) → first other ≡ first rest → p (taken ++ other) ≡ with_rest answer other) → Stands answer (first rest) → Begun P spell (kinds taken) answer → answer_of (p (tokens 0 0 bytes)) ≡ Err fault → Stopped P p spell bytes fault
stopped_at p spell bytes fault taken [] is text answer same stands begun e = absurd text
stopped_at p spell bytes fault taken (t ∷ rest) is text (Ok x) same stands begun e = let reads : answer_of (p (tokens 0 0 bytes)) ≡ Ok x = ap (λ (l : Tokens). answer_of (p l)) is ∙ ap answer_of (same (t ∷ rest) refl) in absurd cc
stopped_at p spell bytes fault taken (t ∷ rest) is text (Err d) same stands begun e =
    let stops : answer_of (p (tokens 0 0 bytes)) ≡ Err (read_fault d) = ap (λ (l : Tokens). answer_of (p l)) is ∙ ap answer_of (same (t ∷ rest) refl) in
    let told : fault ≡ read_fault d = cc in
    record { before = taken; bad = t; later = rest; is = is; refusal = d; told = told; stands = stands; begun = begun; same = λ other. same (t ∷ other) refl }

pub stopped : {A : Type 0} {P : A → Type 0} (p : Parser A) (spell : A → List Token) → Parses P p [] spell → (bytes : List ℕ) (fault : ReadFault) → read_whole p bytes ≡ Err fault → fault ≢ faults.TooLong → Stopped P p spell bytes fault
unfolding read_whole
stopped p spell law bytes fault e short =
    elim (chosen (ltb 1048576 (length bytes)) (Err faults.TooLong) (answer_of (p (tokens 0 0 bytes))) (Err fault) e) [
      | inl long ↦ let same : Err faults.TooLong ≡ Err fault = long.1 in let is : fault ≡ faults.TooLong = cc in absurd (short is)
      | inr q ↦ let s = law.steps (tokens 0 0 bytes) in stopped_at p spell bytes fault s.taken s.rest s.is (behind_text s.taken s.rest s.good (subst IsText s.is (tokens_are_text 0 0 bytes))) s.answer s.same s.stands s.begun q.1
    ]

-- ---- what a fault reports

own_fault : (token : Token) (at : ℕ) → TellsToken (read_fault (fault_at token at)) (placed token at)
own_fault (Fixed symbol) at = (refl, ((λ e. cc), (λ e. cc)))
own_fault (Numbered k n) at = (refl, ((λ e. cc), (λ e. cc)))
own_fault (Word name) at = (refl, ((λ e. cc), (λ e. cc)))
own_fault (Region name) at = (refl, ((λ e. cc), (λ e. cc)))
own_fault NotAscii at = (refl, refl)
own_fault Stray at = (refl, refl)
own_fault End at = (refl, ((λ e. cc), (λ e. cc)))

limit_fault : (token : Token) (at : ℕ) → fault_at token at ≡ refusals.Grammar at → TellsToken (faults.Limit at) (placed token at)
limit_fault token at e =
    (refl, ((λ h. let bad : refusals.NotAscii at ≡ refusals.Grammar at = ap (λ k. fault_at k at) (sym h) ∙ e in cc), (λ h. let bad : refusals.Token at ≡ refusals.Grammar at = ap (λ k. fault_at k at) (sym h) ∙ e in cc)))

tells : (refusal : Refusal) (bad : Placed) → IsFaultOf refusal bad → TellsToken (read_fault refusal) bad
tells refusal bad (inl e) = subst (λ (d : Refusal). TellsToken (read_fault d) bad) (sym e) (own_fault bad.token bad.at)
tells refusal bad (inr e) = subst (λ (d : Refusal). TellsToken (read_fault d) bad) (sym e.0) (limit_fault bad.token bad.at e.1)

pub tells_bad : {A : Type 0} {P : A → Type 0} {p : Parser A} {spell : A → List Token} {bytes : List ℕ} {fault : ReadFault} (s : Stopped P p spell bytes fault) → TellsToken fault s.bad
tells_bad s = subst (λ (f : ReadFault). TellsToken f s.bad) (sym s.told) (tells s.refusal s.bad s.stands)

place_is : (fault : ReadFault) (bad : Placed) (at : ℕ) → TellsToken fault bad → place_of fault ≡ Some at → bad.at ≡ at
place_is (faults.NotAscii k) bad at h e = let is : k ≡ at = cc in h.0 ∙ is
place_is (faults.Token k) bad at h e = let is : k ≡ at = cc in h.0 ∙ is
place_is (faults.Grammar k) bad at h e = let is : k ≡ at = cc in h.0 ∙ is
place_is (faults.Limit k) bad at h e = let is : k ≡ at = cc in h.0 ∙ is
place_is faults.TooLong bad at h e = absurd h
place_is faults.NoMemory bad at h e = absurd h

-- ---- what follows the bad token

unplaced : (later : List Token) → map (λ (t : Placed). t.token) (map (λ k. placed k 0) later) ≡ later
unplaced [] = refl
unplaced (k ∷ later) = ap (λ (l : List Token). k ∷ l) (unplaced later)

-- the tokens up to the bad one, then others
abbrev pub going_on : Tokens → Placed → List Token → Tokens
going_on before bad later = before ++ bad ∷ map (λ k. placed k 0) later

pub go_on : (before : Tokens) (bad : Placed) (later : List Token) → map (λ (t : Placed). t.token) (going_on before bad later) ≡ map (λ (t : Placed). t.token) (before ++ bad ∷ []) ++ later
go_on [] bad later = ap (λ (l : List Token). bad.token ∷ l) (unplaced later)
go_on (t ∷ before) bad later = ap (λ (l : List Token). t.token ∷ l) (go_on before bad later)

pub still_refused : {A : Type 0} {P : A → Type 0} {p : Parser A} {spell : A → List Token} {bytes : List ℕ} {fault : ReadFault} (s : Stopped P p spell bytes fault) (later : List Token) (y : A × Tokens) → p (going_on s.before s.bad later) ≡ Ok y → ⊥
still_refused s later y e = let bad = s.same (map (λ k. placed k 0) later) in cc

-- ---- the bytes of other texts

has_place : (fault : ReadFault) (at : ℕ) → place_of fault ≡ Some at → fault ≢ faults.TooLong
has_place fault at e h = let none = ap place_of (sym h) ∙ e in cc

pub faults_are_local : {A : Type 0} {P : A → Type 0} (p : Parser A) (spell : A → List Token) → Parses P p [] spell → FaultsAreLocal (read_whole p)
unfolding read_whole
faults_are_local p spell law bytes other fault at e place short agree =
    let s = stopped p spell law bytes fault e (has_place fault at place) in
    let at_is : s.bad.at ≡ at = place_is fault s.bad at (tells_bad s) place in
    let here : s.bad.at ≡ 0 + at = omega (arith, at_is) in
    let there = tokens_agree 0 0 at bytes other s.before s.bad s.later s.is here (agree_from_take (reach bytes at) bytes other agree) in
    let stops : p (tokens 0 0 other) ≡ Err s.refusal = ap p there.1 ∙ s.same there.0 in
    rw (le-ltb 1048576 (length other) short, stops) (ap Err (sym s.told))
