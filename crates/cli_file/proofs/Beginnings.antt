-- Texts that begin with others.
use Rattle.std.proofs.Common.{◌≡◌, ◌==◌, ℕ, ◌+◌, true, false, true≢false, List, ◌++◌, Option, Some, None, take, drop, length, refl, sym, ap, ◌∙◌}
use Rattle.std.specs.Prelude.{MatchOption, IfSome, IfNone}
use Rattle.std.specs.Cmp.Lexicographic.{pointwise}
use Rattle.std.proofs.Math.Seq.{take-append_seam}
use Rattle.std.proofs.lemmas.Bool.Decides.{Decides-eqb}
use Rattle.std.proofs.lemmas.List.{take-append-drop, append_cancel_left}
use Rattle.bc_names.specs.Names.{NameParts, IsName, name_text}
use Rattle.std.proofs.lemmas.Slice.Eq.{slice_eq-Decides}

begins_so : (text beginning rest : List ℕ) → pointwise ◌==◌ (take (length beginning) text) beginning ≡ true → rest ≡ drop (length beginning) text → text ≡ beginning ++ rest
begins_so text beginning rest same is =
    sym (take-append-drop (length beginning) text)
    ∙ ap (λ (front : List ℕ). front ++ drop (length beginning) text) ((slice_eq-Decides Decides-eqb (take (length beginning) text) beginning _ refl).0 same)
    ∙ ap (λ (back : List ℕ). beginning ++ back) (sym is)

begins_otherwise : (text beginning rest : List ℕ) → pointwise ◌==◌ (take (length beginning) text) beginning ≡ false → text ≡ beginning ++ rest → ⊥
begins_otherwise text beginning rest other is =
    let front : take (length beginning) text ≡ beginning = ap (take (length beginning)) is ∙ take-append_seam beginning rest in
    absurd (true≢false (sym ((slice_eq-Decides Decides-eqb (take (length beginning) text) beginning _ refl).1 front) ∙ other))

-- what `strip_prefix` finds, and when it finds nothing
pub found_behind : {S : Type 0} (r : Option S) (now : S → List ℕ) (text beginning : List ℕ) → MatchOption r (pointwise ◌==◌ (take (length beginning) text) beginning ≡ false) (λ x. (pointwise ◌==◌ (take (length beginning) text) beginning ≡ true) × (now x ≡ drop (length beginning) text) × (length (now x) + length beginning ≡ length text)) → IfSome r (λ x. text ≡ beginning ++ now x)
found_behind None now text beginning h = tt
found_behind (Some x) now text beginning h = begins_so text beginning (now x) h.0 h.1

pub none_behind : {S : Type 0} (r : Option S) (now : S → List ℕ) (text beginning : List ℕ) → MatchOption r (pointwise ◌==◌ (take (length beginning) text) beginning ≡ false) (λ x. (pointwise ◌==◌ (take (length beginning) text) beginning ≡ true) × (now x ≡ drop (length beginning) text) × (length (now x) + length beginning ≡ length text)) → IfNone r ((rest : List ℕ) → text ≡ beginning ++ rest → ⊥)
none_behind None now text beginning h = λ rest is. begins_otherwise text beginning rest h is
none_behind (Some x) now text beginning h = tt

-- what follows a beginning is no name
pub none_named : (text beginning rest : List ℕ) (r : Option NameParts) → text ≡ beginning ++ rest → ((name : NameParts) → IsName name → rest ≡ name_text name → r ≡ Some name) → IfNone r ((name : NameParts) → IsName name → text ≡ beginning ++ name_text name → ⊥)
none_named text beginning rest None is only = λ name well same. (let found : None ≡ Some name = only name well (append_cancel_left beginning rest (name_text name) (sym is ∙ same)) in absurd cc)
none_named text beginning rest (Some x) is only = tt
