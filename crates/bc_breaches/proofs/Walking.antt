-- The walk over declarations to the first bad one.
use Rattle.std.proofs.Common.{◌≡◌, ℕ, ◌+◌, ◌<◌, ◌≤◌, true, false, not, cond, Option, Some, None, List, [], ◌∷◌, ◌++◌, length, get_or, take, drop, reverse, refl, sym, ap, ◌∙◌}
use Rattle.std.specs.Prelude.{is_some}
use Rattle.std.proofs.lemmas.List.{at_drop_more, at_drop_all, take_more}
use Rattle.std.proofs.lemmas.Option.{slice_get_read}
use Rattle.bc_syntax.specs.declared.syntax.Declaration.{Declaration}
use Rattle.bc_types.specs.Declarations.{is_good, first_bad_behind}
use Rattle.bc_types.proofs.Growing.{turned}
use Rattle.bc_breaches.specs.declared.declaration.DeclarationBreach.{DeclarationBreach}
use Rattle.bc_breaches.specs.Declarations.{declaration_breach, IsBadDeclaration}
use Rattle.bc_breaches.proofs.Breaking.{clear_declaration, breaks}

module _ (ds : List Declaration) (i : ℕ) (d : Declaration) (below : i < length ds) (is : d ≡ get_or ds i d) where
  here : {X : Type 0} (f : List Declaration → X) → f (drop i ds) ≡ f (d ∷ drop (i + 1) ds)
  here f = at_drop_more f ds i d below ∙ ap (λ x. f (x ∷ drop (i + 1) ds)) (sym is)

  -- a declaration without a breach is passed
  pub good-turn : (whole : Option ℕ) → declaration_breach (reverse (take i ds)) d ≡ None → first_bad_behind (reverse (take i ds)) i (drop i ds) ≡ whole
      → first_bad_behind (reverse (take (i + 1) ds)) (i + 1) (drop (i + 1) ds) ≡ whole
  good-turn whole none before =
      let grown : take (i + 1) ds ≡ take i ds ++ d ∷ [] = take_more ds i d below ∙ ap (λ x. take i ds ++ x ∷ []) (sym is) in
      let good : true ≡ is_good (reverse (take i ds)) d = sym (ap (λ found. not (is_some found)) none) ∙ clear_declaration (reverse (take i ds)) d in
      ap (λ e. first_bad_behind e (i + 1) (drop (i + 1) ds)) (turned (take i ds) (take (i + 1) ds) d grown)
      ∙ ap (λ b. cond b (first_bad_behind (d ∷ reverse (take i ds)) (i + 1) (drop (i + 1) ds)) (Some i)) good
      ∙ sym (here (first_bad_behind (reverse (take i ds)) i))
      ∙ before

  -- one with a breach is the first bad one
  pub bad-here : (whole : Option ℕ) (breach : DeclarationBreach) → declaration_breach (reverse (take i ds)) d ≡ Some breach → first_bad_behind (reverse (take i ds)) i (drop i ds) ≡ whole → whole ≡ Some i
  bad-here whole breach found before =
      let bad : false ≡ is_good (reverse (take i ds)) d = sym (ap (λ found. not (is_some found)) found) ∙ clear_declaration (reverse (take i ds)) d in
      sym before
      ∙ here (first_bad_behind (reverse (take i ds)) i)
      ∙ ap (λ b. cond b (first_bad_behind (d ∷ reverse (take i ds)) (i + 1) (drop (i + 1) ds)) (Some i)) (sym bad)

  pub bad-is : (breach : DeclarationBreach) → declaration_breach (reverse (take i ds)) d ≡ Some breach → IsBadDeclaration ds (record { number = i; breach = breach })
  bad-is breach found = record {
    declaration = d;
    is_declaration = slice_get_read ds (length ds) i d refl below is;
    first = found;
    breaks = breaks (reverse (take i ds)) d breach found;
  }

-- after the last declaration
pub all-good : (ds : List Declaration) (i : ℕ) (whole : Option ℕ) → length ds ≤ i → first_bad_behind (reverse (take i ds)) i (drop i ds) ≡ whole → whole ≡ None
all-good ds i whole past before = sym before ∙ at_drop_all (first_bad_behind (reverse (take i ds)) i) ds i past
