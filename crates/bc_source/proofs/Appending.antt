-- What a writer has taken, piece by piece.
use Rattle.std.proofs.Common.{ℕ, ◌+◌, List, ◌++◌, Option, Some, None, ap, ◌∙◌, append_assoc, add-one}
use Rattle.std.specs.Prelude.{Result, Ok, Err, OnOk}
use Rattle.std.specs.Io.KnownBytes.{Appends}
use Rattle.bc_judge.specs.declared.error.BorrowError.{BorrowError}
use Rattle.bc_source.specs.Regions.{named, all_named}

added_then : (u v w : Option (List ℕ)) (a b : List ℕ) → Appends u v a → Appends v w b → Appends u w (a ++ b)
added_then None v w a b x y = tt
added_then (Some xs) None w a b x y = absurd x
added_then (Some xs) (Some ys) None a b x y = y
added_then (Some xs) (Some ys) (Some zs) a b x y = y ∙ ap (λ (t : List ℕ). t ++ b) x ∙ append_assoc xs a b

-- one more region
pub one_more : (error : BorrowError) (names : List (List ℕ)) (number : ℕ) (u v w : Option (List ℕ))
    → Appends u v (all_named error names number) → Appends v w (named error names number) → Appends u w (all_named error names (number + 1))
one_more error names number u v w x y = rw add-one (added_then u v w (all_named error names number) (named error names number) x y)

-- a call whose bytes come after others
pub then_added : {T E : Type 0} (u v w : Option (List ℕ)) (a b : List ℕ) (r : Result T E) → Appends u v a → OnOk r (Appends v w b) → OnOk r (Appends u w (a ++ b))
then_added u v w a b (Ok t) x y = added_then u v w a b x y
then_added u v w a b (Err e) x y = tt
