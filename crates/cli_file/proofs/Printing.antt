-- Texts that are printed one after another.
use Rattle.std.proofs.Common.{ℕ, List, [], ◌++◌, Option, Some, None, sym, ap, ◌∙◌, append_assoc, append-nil}
use Rattle.std.specs.Io.KnownBytes.{Appends, Keeps}

pub nothing_added : (u : Option (List ℕ)) → Appends u u []
nothing_added None = tt
nothing_added (Some xs) = sym (append-nil xs)

pub kept_adds : (u v : Option (List ℕ)) → Keeps u v → Appends u v []
kept_adds None v k = tt
kept_adds (Some xs) None k = k
kept_adds (Some xs) (Some ys) k = k ∙ sym (append-nil xs)

pub added_then : (u v w : Option (List ℕ)) (a b : List ℕ) → Appends u v a → Appends v w b → Appends u w (a ++ b)
added_then None v w a b x y = tt
added_then (Some xs) None w a b x y = absurd x
added_then (Some xs) (Some ys) None a b x y = y
added_then (Some xs) (Some ys) (Some zs) a b x y = y ∙ ap (λ (t : List ℕ). t ++ b) x ∙ append_assoc xs a b
