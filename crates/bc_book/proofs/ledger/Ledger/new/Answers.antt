use Rattle.std.proofs.Common.{◌≡◌, ℕ, zero, suc, replicate, get_or, ap, refl, arith, ◌∙◌, rules}
use Rattle.bc_book.proofs.Keeping.{kept_none}
use Rattle.bc_memo.specs.Places.{ShelfView}
use Rattle.bc_book.proofs.ledger.Ledger.new.Goals as goal

zeros : (n k : ℕ) → ◌≡◌ {A = ℕ} (get_or (replicate n 0) k 0) 0
zeros zero k = refl
zeros (suc n) zero = refl
zeros (suc n) (suc k) = zeros n k

pub invariant_of-result : goal.invariant_of-result
invariant_of-result c =
    let held = c.in_ok-new.ensures.held in
    let shelf = c.in_ok-new.field-0.held in
    let none = ap (λ (s : ShelfView). s.types) held ∙ c.in_ok-types.ensures in
    let room = c.in_ok-new-2.ensures.room in (
      rw (c.new.ensures.items, c.new-4.ensures) (kept_none _ _ shelf (omega (arith, c.ranges.capacity.fits)) refl (λ k less. zeros 16 k) none (ap (λ (s : ShelfView). s.types_revision) held) (ap (λ (s : ShelfView). s.places) held)),
      search rules,
      omega (arith, room),
    )
