use Rattle.std.proofs.Common.{◌≡◌, ℕ, ◌+◌, ◌<◌, true, false, cond, Option, Some, List, [], ◌∷◌, ◌++◌, length, get_or, drop, reverse, refl, sym, ap, ◌∙◌}
use Rattle.std.proofs.lemmas.List.{at_drop_more, at_drop_all}
use Rattle.bc_syntax.specs.declared.syntax.Declaration.{Declaration}
use Rattle.bc_types.specs.Declarations.{is_good, first_bad_behind}
use Rattle.bc_types.proofs.Appending.{appended-turn, appended-all}
use Rattle.bc_types.proofs.Growing.{turned}
use Rattle.bc_types.proofs.good_types.fill.Goals as goal

module _ (ds table : List Declaration) (i : ℕ) (d : Declaration) (below : i < length ds) (is : d ≡ get_or ds i d) where
  here : {X : Type 0} (f : List Declaration → X) → f (drop i ds) ≡ f (d ∷ drop (i + 1) ds)
  here f = at_drop_more f ds i d below ∙ ap (λ x. f (x ∷ drop (i + 1) ds)) (sym is)

  -- the first bad declaration comes after a good one
  first-turn : (more : List Declaration) (whole : Option ℕ) → more ≡ table ++ d ∷ [] → true ≡ is_good (reverse table) d → first_bad_behind (reverse table) i (drop i ds) ≡ whole
      → first_bad_behind (reverse more) (i + 1) (drop (i + 1) ds) ≡ whole
  first-turn more whole grown good before =
      ap (λ e. first_bad_behind e (i + 1) (drop (i + 1) ds)) (turned table more d grown)
      ∙ ap (λ b. cond b (first_bad_behind (d ∷ reverse table) (i + 1) (drop (i + 1) ds)) (Some i)) good
      ∙ sym (here (first_bad_behind (reverse table) i))
      ∙ before

  first-here : (whole : Option ℕ) → false ≡ is_good (reverse table) d → first_bad_behind (reverse table) i (drop i ds) ≡ whole → whole ≡ Some i
  first-here whole bad before =
      sym before
      ∙ here (first_bad_behind (reverse table) i)
      ∙ ap (λ b. cond b (first_bad_behind (d ∷ reverse table) (i + 1) (drop (i + 1) ds)) (Some i)) (sym bad)

pub loop-index-preserved : goal.loop-index-preserved
loop-index-preserved c =
    let ds = c.args.declarations.now in
    let table = c.loop-index.table in
    let i = c.loop-index.index in
    let d = c.index-declarations-index.result in
    record {
      filled = appended-turn (λ (l : List Declaration). l) ds table ds i _ _ c.in_ok-table.ensures (here ds table i d c.loop-index-test.true c.index-declarations-index.is (λ l. l)) c.loop-index.invariant.filled;
      first = first-turn ds table i d c.loop-index-test.true c.index-declarations-index.is _ _ c.in_ok-table.ensures (sym c.if-not-is_good.false ∙ c.is_good.ensures) c.loop-index.invariant.first;
    }

pub returns-clause-ok : goal.returns-clause-ok
returns-clause-ok c = appended-all (λ (l : List Declaration). l) _ _ c.args.declarations.now c.loop-index.index c.loop-index-test.false refl c.loop-index.invariant.filled

pub returns-clause-good : goal.returns-clause-good
returns-clause-good c =
    sym c.loop-index.invariant.first ∙ at_drop_all (first_bad_behind (reverse c.loop-index.table) c.loop-index.index) c.args.declarations.now c.loop-index.index c.loop-index-test.false

pub returns-then-not-is_good-clause-bad : goal.returns-then-not-is_good-clause-bad
returns-then-not-is_good-clause-bad c = λ number e.
    let same : c.loop-index.index ≡ number = cc e in
    first-here c.args.declarations.now c.loop-index.table c.loop-index.index c.index-declarations-index.result c.loop-index-test.true c.index-declarations-index.is _ (sym c.if-not-is_good.true ∙ c.is_good.ensures) c.loop-index.invariant.first
    ∙ ap Some same
