-- Known lists that grow, step by step.
use Rattle.std.proofs.Common.{List, [], ◌∷◌, ◌++◌, Option, Some, None, ap, sym, ◌∙◌, append_assoc, append-nil}
use Rattle.cli_talk.specs.Wires.{Takes, TakesAll}

pub takes_none : {X : Type 0} (known : Option (List X)) → TakesAll known known []
takes_none None = tt
takes_none (Some xs) = sym (append-nil xs)

pub takes_one : {X : Type 0} (a b : Option (List X)) (x : X) → Takes a b x → TakesAll a b (x ∷ [])
takes_one None b x h = tt
takes_one (Some a) None x h = absurd h
takes_one (Some a) (Some b) x h = h

pub takes_more : {X : Type 0} (a b c : Option (List X)) (xs ys : List X) → TakesAll a b xs → TakesAll b c ys → TakesAll a c (xs ++ ys)
takes_more None b c xs ys one two = tt
takes_more (Some a) None c xs ys one two = absurd one
takes_more (Some a) (Some b) None xs ys one two = absurd two
takes_more {X} (Some a) (Some b) (Some c) xs ys one two = two ∙ ap (λ (t : List X). t ++ ys) one ∙ append_assoc a xs ys
