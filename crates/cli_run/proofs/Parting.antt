-- Items that are moved to two lists, one after another.
use Rattle.std.proofs.Common.{◌≡◌, List, [], ◌∷◌, ◌++◌, map, sym, ap, ◌∙◌, append_assoc, append-nil}

pub part_init : {X Y : Type 0} (f : X → Y) (all rest : List X) (out : List Y) → out ≡ [] → rest ≡ all → out ++ map f rest ≡ map f all
part_init {X} {Y} f all rest out none same = ap (λ (l : List Y). l ++ map f rest) none ∙ ap (map f) same

pub part_more : {X Y : Type 0} (f : X → Y) (all : List Y) (x : X) (left rest : List X) (out new : List Y) → out ++ map f left ≡ all → left ≡ x ∷ rest → new ≡ out ++ f x ∷ [] → new ++ map f rest ≡ all
part_more {X} {Y} f all x left rest out new h step pushed =
    ap (λ (l : List Y). l ++ map f rest) pushed ∙ append_assoc out (f x ∷ []) (map f rest) ∙ ap (λ (l : List X). out ++ map f l) (sym step) ∙ h

pub part_done : {X Y : Type 0} (f : X → Y) (all : List Y) (left : List X) (out : List Y) → out ++ map f left ≡ all → left ≡ [] → out ≡ all
part_done {X} f all left out h none = sym (append-nil out) ∙ ap (λ (l : List X). out ++ map f l) (sym none) ∙ h
