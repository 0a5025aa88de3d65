use Rattle.std.proofs.Common.{◌≡◌, ◌+◌, ◌<◌, ℕ, List, ◌++◌, [], ◌∷◌, length, get_or, take, refl, sym, ap, ◌∙◌, append_assoc, append-nil}
use Rattle.std.specs.List.{flat_map}
use Rattle.std.proofs.lemmas.List.{take_all, take_more}
use Rattle.std.proofs.lemmas.Grind.{put_two, flat_map-append}
use Rattle.bc_names.specs.Names.{segment_text}
use Rattle.bc_names.proofs.name.NameDisplay.fmt.Goals as goal

one_more : (root segments : List ℕ) (i d : ℕ) → i < length segments → (root ++ flat_map segment_text (take i segments)) ++ segment_text (get_or segments i d) ≡ root ++ flat_map segment_text (take (i + 1) segments)
one_more root segments i d low =
    let front = flat_map segment_text (take i segments) in
    let one = get_or segments i d in
    append_assoc root front (segment_text one)
    ∙ ap (λ (l : List ℕ). root ++ l) (sym (ap (λ (l : List ℕ). flat_map segment_text l) (take_more segments i d low) ∙ flat_map-append segment_text (take i segments) (one ∷ []) ∙ ap (λ (l : List ℕ). front ++ l) (append-nil (segment_text one))))

pub loop-segment-preserved : goal.loop-segment-preserved
loop-segment-preserved g c = λ plain.
    let before = c.loop-segment.invariant plain in
    let here = (c.in_ok-write.ensures {u = tt}).writes before.plain refl in
    put_two _ _ _ _ _ _ _ before here (one_more c.args.self.now.root c.segments-segment-items.result.now c.loop-segment.segment-index _ c.loop-segment-test.true)

pub returns-clause-writes : goal.returns-clause-writes
returns-clause-writes g c = λ plain done. rw (take_all _ _ c.loop-segment-test.false, c.segments-segment-items.ensures) at (c.loop-segment.invariant plain)
