-- What stays true of the cells of projections when one is appended.
use Rattle.std.proofs.Common.{◌≡◌, suc, ◌+◌, ◌-◌, ◌<◌, List, [], ◌∷◌, ◌++◌, length, take, set, replicate, sym, ap, ◌∙◌, append_assoc, arith}
use Rattle.std.proofs.lemmas.List.{length-append, length-replicate, take_more_set, length_push}
use Rattle.std.proofs.Math.Seq.{set-append_seam}
use Rattle.bc_syntax.specs.declared.syntax.Projection.{Projection}
use Rattle.bc_syntax.specs.declared.syntax.Projection.TheVariants.{Deref}
use Rattle.bc_syntax.specs.declared.projections.Projections.TheInside.{Inside}
use Rattle.bc_syntax.specs.Projections.{padded, cells, used, IsStored}

-- a write just after the used cells
seam : (xs : List Projection) (x : Projection) → length xs < 8 → set (padded xs) (length xs) x ≡ padded (xs ++ x ∷ [])
seam xs x few =
    let k : 8 - length xs ≡ suc (8 - length (xs ++ x ∷ [])) = omega (arith, length_push xs x) in
    ap (λ j. set (xs ++ replicate j Deref) (length xs) x) k
    ∙ set-append_seam xs Deref (replicate (8 - length (xs ++ x ∷ [])) Deref) x
    ∙ sym (append_assoc xs (x ∷ []) (replicate (8 - length (xs ++ x ∷ [])) Deref))

-- there are eight cells
pub eight : (a : Inside) → IsStored a → a.count < 8 → length a.steps ≡ 8
eight a h few =
    let front : List Projection = used a in
    sym (ap length h.steps) ∙ omega (arith, length-append front (replicate (8 - length front) Deref), length-replicate (8 - length front) Deref, h.count, few)

pub more : (a : Inside) (x : Projection) → IsStored a → a.count < 8 → take (a.count + 1) (set a.steps a.count x) ≡ used a ++ x ∷ []
more a x h few = let long = eight a h few in take_more_set a.steps a.count x (omega arith)

pub push_stored : (a : Inside) (x : Projection) → IsStored a → a.count < 8 → IsStored (cells (set a.steps a.count x) (a.count + 1))
push_stored a x h few =
    let front : List Projection = used a in
    let long = more a x h few in
    let written : set a.steps a.count x ≡ padded (front ++ x ∷ []) =
    ap (λ (s : List Projection). set s a.count x) (sym h.steps)
    ∙ ap (λ d. set (padded front) d x) (sym h.count)
    ∙ seam front x (omega (arith, h.count)) in
    record {
      steps = ap padded long ∙ sym written;
      count = ap length long ∙ length_push front x ∙ ap (λ d. d + 1) h.count;
      most = omega (arith, few);
    }
