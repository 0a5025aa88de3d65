-- `==` on names decides `≡`, and only equal names compare as equal.
use Rattle.std.proofs.Common.{◌≡◌, refl, ap}
use Rattle.std.specs.Bool.{Decides}
use Rattle.std.proofs.lemmas.Bool.Decides.{Decides-and, Decides-like, Decides-eqb}
use Rattle.std.proofs.lemmas.Slice.Eq.{slice_eq-Decides}
use Rattle.std.specs.declared.cmp.Ordering.{Ordering}
use Rattle.std.specs.declared.cmp.Ordering.TheVariants.{Less, Equal, Greater}
use Rattle.std.specs.Ordering.{ordering_then, nat_cmp}
use Rattle.std.specs.Cmp.{IsTotalOrder}
use Rattle.std.specs.Cmp.Lexicographic.{slice_cmp}
use Rattle.std.proofs.lemmas.Cmp.{then_total, on_total, nat_list_cmp_total}
use Rattle.std.proofs.lemmas.Map.Lookups.{exact_bytes}
use Rattle.bc_names.specs.Names.{NameParts, name_order, is_same_name}

pub name : (a b : NameParts) → Decides (is_same_name a b) (a ≡ b)
name a b =
    Decides-like _ (λ p i. record { root = p.0 i; segments = p.1 i }) (λ e. (ap (λ (r : NameParts). r.root) e, ap (λ (r : NameParts). r.segments) e))
    (Decides-and _ _ (slice_eq-Decides Decides-eqb a.root b.root _ refl) (slice_eq-Decides Decides-eqb a.segments b.segments _ refl))

both_equal : (x y : Ordering) → ordering_then x y ≡ Equal → (x ≡ Equal) × (y ≡ Equal)
both_equal Less y e = absurd (cc)
both_equal Equal y e = (refl, e)
both_equal Greater y e = absurd (cc)

-- names that compare as equal are one name
pub exact_names : (a b : NameParts) → name_order a b ≡ Equal → a ≡ b
exact_names a b e =
    let p = both_equal (slice_cmp nat_cmp a.root b.root) (slice_cmp nat_cmp a.segments b.segments) e in
    λ i. record { root = exact_bytes a.root b.root p.0 i; segments = exact_bytes a.segments b.segments p.1 i }

pub names_total : IsTotalOrder name_order
names_total = then_total (on_total (λ (name : NameParts). name.root) nat_list_cmp_total) (on_total (λ (name : NameParts). name.segments) nat_list_cmp_total)
