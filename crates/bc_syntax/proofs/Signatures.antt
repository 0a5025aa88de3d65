-- If a signature or a header fits, so do its parts.
use Rattle.std.proofs.Common.{◌≡◌, ◌≤◌, ℕ, true, false, length, List, [], ◌∷◌, refl}
use Rattle.std.proofs.lemmas.Bool.{leb-true, and_parts}
use Rattle.bc_syntax.specs.declared.syntax.Ty.{Ty}
use Rattle.bc_syntax.specs.declared.syntax.UnitKind.{UnitKind}
use Rattle.bc_syntax.specs.declared.syntax.UnitKind.TheVariants.{Function, Closure}
use Rattle.bc_syntax.specs.declared.syntax.Signature.{Signature}
use Rattle.bc_syntax.specs.declared.syntax.Header.{Header}
use Rattle.bc_syntax.specs.Fits.{are_new, clauses_fit, parameters_fit, ty_fits, universal_count, signature_fits, kind_fits, header_fits}

pub record SignatureParts (limit : ℕ) (s : Signature) : Type 0 where
  pub regions : are_new [] s.regions ≡ true
  pub few : length s.regions ≤ limit
  pub clauses : clauses_fit (universal_count s) s.clauses ≡ true
  pub parameters : parameters_fit (universal_count s) s.parameters ≡ true
  pub result : ty_fits false (universal_count s) s.result ≡ true

pub signature_parts : (limit : ℕ) (s : Signature) → signature_fits limit s ≡ true → SignatureParts limit s
signature_parts limit s fits =
    let a = and_parts _ (ty_fits false (universal_count s) s.result) fits in
    let b = and_parts _ (parameters_fit (universal_count s) s.parameters) a.0 in
    let c = and_parts _ (clauses_fit (universal_count s) s.clauses) b.0 in
    let d = and_parts (are_new [] s.regions) _ c.0 in
    record { regions = d.0; few = leb-true (length s.regions) limit d.1; clauses = c.1; parameters = b.1; result = a.1 }

-- captures that fit also fit as parameters
captures_fit : (universals : ℕ) (kind : UnitKind) (captures : List Ty) → kind_fits universals kind captures ≡ true → parameters_fit universals captures ≡ true
captures_fit universals Function [] fits = refl
captures_fit universals Function (capture ∷ captures) fits = absurd cc
captures_fit universals Closure captures fits = fits

pub record HeaderParts (h : Header) : Type 0 where
  pub kind : kind_fits (universal_count h.signature) h.kind h.captures ≡ true
  pub captures : parameters_fit (universal_count h.signature) h.captures ≡ true
  pub signature_fits : signature_fits 15 h.signature ≡ true
  pub signature : SignatureParts 15 h.signature

pub header_parts : (h : Header) → header_fits h ≡ true → HeaderParts h
header_parts h fits =
    let both = and_parts (kind_fits (universal_count h.signature) h.kind h.captures) (signature_fits 15 h.signature) fits in
    record { kind = both.0; captures = captures_fit (universal_count h.signature) h.kind h.captures both.0; signature_fits = both.1; signature = signature_parts 15 h.signature both.1 }
