-- Letters, digits and `_` are text.
use Rattle.std.proofs.Common.{◌≡◌, ℕ, zero, suc, ◌<◌, true, List, [], ◌∷◌, arith, lit<}
use Rattle.std.specs.Prelude.{slice_index, Result, Ok, Err, MatchResult, IsOk, refl}
use Rattle.std.specs.List.{list_all}
use Rattle.std.specs.Str.{IsUtf8}
use Rattle.std.proofs.lemmas.Str.{IsUtf8-from_ascii}
use Rattle.std.proofs.lemmas.Bool.{and_parts}
use Rattle.std.proofs.lemmas.Bool.Decides.{nat_tests}
use Rattle.bc_syntax.specs.Bytes.{is_run_byte}
use Rattle.bc_names.specs.Names.{NameParts, IsName}

run_byte_is_ascii : (b : ℕ) → is_run_byte b ≡ true → b < 128
run_byte_is_ascii b h = grind (arith, nat_tests)

are_ascii : (bs : List ℕ) → list_all is_run_byte bs ≡ true → (i : ℕ) → slice_index bs i < 128
are_ascii [] h i = lit< tt
are_ascii (b ∷ bs) h zero = run_byte_is_ascii b (and_parts _ _ h).0
are_ascii (b ∷ bs) h (suc i) = are_ascii bs (and_parts (is_run_byte b) (list_all is_run_byte bs) h).1 i

pub root_is_text : (name : NameParts) → IsName name → IsUtf8 name.root
root_is_text name h = IsUtf8-from_ascii name.root (are_ascii name.root (and_parts _ _ h.root).1)

pub no_fault : {A E : Type 0} (r : Result A E) (P : A → Type 0) (U : Type 0) (Q : E → Type 0) → MatchResult r P (λ e. ¬ U × Q e) → U → IsOk r
no_fault (Ok x) P U Q h u = refl
no_fault (Err e) P U Q h u = absurd (h.0 u)
