use Rattle.std.proofs.Common.{◌≡◌, ℕ, List, [], ◌∷◌, map, refl, sym, ◌∙◌, subst}
use Rattle.bc_bodies.specs.declared.children.Child.{Child}
use Rattle.bc_cons.specs.declared.requirements.Requirements.{Requirements}
use Rattle.bc_cons.specs.Requirements.{AreOfChildren}
use Rattle.rows_steps.proofs.steps.facts_of.Goals as goal

abbrev none_of : Child → ℕ × Requirements
none_of child = (child.number, record { pairs = [] })

none_required : (children : List Child) → AreOfChildren children (map none_of children)
none_required [] = tt
none_required (child ∷ children) = (record { number = refl; may_go_up = refl }, none_required children)

-- if nothing is required, nothing is required of a local region
pub constraints-requires : goal.constraints-requires
constraints-requires c = record {
  children = subst (AreOfChildren c.args.typed.now.children) (sym (c.deref.ensures.value ∙ c.in_ok-kids.ensures)) (rw c.children.ensures (none_required c.args.typed.now.children));
}
