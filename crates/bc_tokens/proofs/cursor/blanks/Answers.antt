use Rattle.std.proofs.Common.{◌≡◌, ◌≤◌, ℕ, true, false, List, [], ◌∷◌, length, slice_index, take_while, refl, sym, ap, ◌∙◌, arith}
use Rattle.bc_tokens.specs.Token.{is_blank}
use Rattle.bc_tokens.proofs.cursor.blanks.Goals as goal

one_blank : (text : List ℕ) → is_blank (slice_index text 0) ≡ true → is_blank (slice_index text 1) ≡ false → (1 ≡ length (take_while is_blank text)) × (1 ≤ length text)
one_blank [] first second = absurd cc
one_blank (b ∷ []) first second = (rw first refl, omega arith)
one_blank (b ∷ (next ∷ bytes)) first second = (rw (first, second) refl, omega arith)

pub returns-then-not-is_blank-2-clause-count : goal.returns-then-not-is_blank-2-clause-count
returns-then-not-is_blank-2-clause-count c =
    (one_blank c.args.text.now (sym (c.if-not-is_blank.ensures {u = tt} ∙ ap is_blank c.byte_at.ensures)) (sym (c.if-not-is_blank-2.ensures {u = tt} ∙ ap is_blank c.byte_at-2.ensures))).0

pub returns-then-not-is_blank-2-clause-within : goal.returns-then-not-is_blank-2-clause-within
returns-then-not-is_blank-2-clause-within c =
    (one_blank c.args.text.now (sym (c.if-not-is_blank.ensures {u = tt} ∙ ap is_blank c.byte_at.ensures)) (sym (c.if-not-is_blank-2.ensures {u = tt} ∙ ap is_blank c.byte_at-2.ensures))).1
