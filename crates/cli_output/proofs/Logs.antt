-- Logs that grow.
use Rattle.std.proofs.Common.{◌≡◌, ◌≢◌, ℕ, ◌+◌, ◌<◌, List, [], ◌∷◌, ◌++◌, map, refl, sym, ap, ◌∙◌, subst, arith, eqb, eq-eqb, ne_eqb, append-nil, Option, Some, None}
use Rattle.std.specs.Prelude.{if◌then◌else◌}
use Rattle.std.specs.List.{filter}
use Rattle.std.specs.Option.{ForSome}
use Rattle.std.specs.Io.KnownBytes.{Appends}
use Rattle.std.proofs.lemmas.List.{map-append}
use Rattle.std.proofs.lemmas.Grind.{flat_map-append}
use Rattle.std.proofs.lemmas.List.Elements.{filter-append, All-push, All-head, All-tail}
use Rattle.cli_output.specs.Logs.{texts_of, bytes_of, AreBelow}

-- if a log is one text longer, the author of this has one more text
pub texts_of-own : (author : ℕ) (log : List (ℕ × List ℕ)) (text : List ℕ) → texts_of author (log ++ (author, text) ∷ []) ≡ texts_of author log ++ text ∷ []
texts_of-own author log text =
    ap (map (λ (e : ℕ × List ℕ). e.1)) (filter-append (λ (e : ℕ × List ℕ). eqb e.0 author) log ((author, text) ∷ []))
    ∙ map-append (λ (e : ℕ × List ℕ). e.1) (filter (λ (e : ℕ × List ℕ). eqb e.0 author) log) (filter (λ (e : ℕ × List ℕ). eqb e.0 author) ((author, text) ∷ []))
    ∙ ap (λ b. texts_of author log ++ map (λ (e : ℕ × List ℕ). e.1) (if b then (author, text) ∷ [] else [])) (eq-eqb author author refl)

-- any other author has what it had
pub texts_of-other : (author other : ℕ) (log : List (ℕ × List ℕ)) (text : List ℕ) → other ≢ author → texts_of author (log ++ (other, text) ∷ []) ≡ texts_of author log
texts_of-other author other log text apart =
    ap (map (λ (e : ℕ × List ℕ). e.1)) (filter-append (λ (e : ℕ × List ℕ). eqb e.0 author) log ((other, text) ∷ []))
    ∙ map-append (λ (e : ℕ × List ℕ). e.1) (filter (λ (e : ℕ × List ℕ). eqb e.0 author) log) (filter (λ (e : ℕ × List ℕ). eqb e.0 author) ((other, text) ∷ []))
    ∙ ap (λ b. texts_of author log ++ map (λ (e : ℕ × List ℕ). e.1) (if b then (other, text) ∷ [] else [])) (ne_eqb other author apart)
    ∙ append-nil (texts_of author log)

pub bytes_of-more : (log : List (ℕ × List ℕ)) (author : ℕ) (text : List ℕ) → bytes_of (log ++ (author, text) ∷ []) ≡ bytes_of log ++ text
bytes_of-more log author text = flat_map-append (λ (e : ℕ × List ℕ). e.1) log ((author, text) ∷ []) ∙ ap (λ (l : List ℕ). bytes_of log ++ l) (append-nil text)

-- an author who wrote nothing has no text
pub texts_of-none : (count : ℕ) (log : List (ℕ × List ℕ)) → AreBelow count log → texts_of count log ≡ []
texts_of-none count [] below = refl
texts_of-none count (e ∷ log) below =
    let low : e.0 < count = All-head (λ (x : ℕ × List ℕ). x.0 < count) e log below in
    let apart : e.0 ≢ count = λ same. omega (arith, low, same) in
    ap (λ b. map (λ (x : ℕ × List ℕ). x.1) (if b then e ∷ filter (λ (x : ℕ × List ℕ). eqb x.0 count) log else filter (λ (x : ℕ × List ℕ). eqb x.0 count) log)) (ne_eqb e.0 count apart)
    ∙ texts_of-none count log (All-tail (λ (x : ℕ × List ℕ). x.0 < count) e log below)

pub below_more : (count : ℕ) (log : List (ℕ × List ℕ)) → AreBelow count log → AreBelow (count + 1) log
below_more count log below k d low = let h = below k d low in omega (arith, h)

pub below_push : (count : ℕ) (log : List (ℕ × List ℕ)) (author : ℕ) (text : List ℕ) → AreBelow count log → author < count → AreBelow count (log ++ (author, text) ∷ [])
below_push count log author text below low = All-push (λ (e : ℕ × List ℕ). e.0 < count) log (author, text) below low

-- what was written, in the form of a writer's clauses
pub appends : (before after : Option (List ℕ)) (bytes : List ℕ) → ForSome before (λ b. after ≡ Some (b ++ bytes)) → Appends before after bytes
appends None after bytes h = tt
appends (Some b) after bytes h = subst (λ (a : Option (List ℕ)). Appends (Some b) a bytes) (sym (h b refl)) refl
