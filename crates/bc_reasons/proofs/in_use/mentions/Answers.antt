use Rattle.std.proofs.Common.{◌≡◌, ◌∙◌, ◌||◌, ◌==◌, Bool, sym, ap, rules, tests}
use Rattle.std.specs.List.{list_any}
use Rattle.std.proofs.lemmas.Iterator.{YieldsList-from_slice}
use Rattle.std.proofs.lemmas.Iterator.Search.{any_from_yields_List}
use Rattle.bc_syntax.specs.declared.syntax.Region.{Region}
use Rattle.bc_syntax.specs.declared.syntax.Reference.{Reference}
use Rattle.bc_points.specs.Regions.{region_number}
use Rattle.bc_types.specs.Mentions.{regions_of_base}
use Rattle.bc_cons.proofs.Mentioning.{mentioned}
use Rattle.bc_reasons.proofs.in_use.mentions.Goals as goal

pub returns-then-any : goal.returns-then-any
returns-then-any c =
    let test : Reference → Bool = λ reference. region_number c.args.universals reference.region == c.args.region in
    let others = list_any (λ (other : Region). region_number c.args.universals other == c.args.region) (regions_of_base c.args.ty.now.base) in
    let first : c.any.result ≡ list_any test c.args.ty.now.references = any_from_yields_List test _ _ c.any.result c.any.ensures.ran (YieldsList-from_slice c.args.ty.now.references cc) (λ x b q k. search (rules, tests)) in
    c.if-any.true ∙ sym (mentioned c.args.universals c.args.region c.args.ty.now ∙ ap (λ b. b || others) (sym first ∙ c.if-any.true))

pub returns-else-any : goal.returns-else-any
returns-else-any c =
    let test : Reference → Bool = λ reference. region_number c.args.universals reference.region == c.args.region in
    let is_it : Region → Bool = λ other. region_number c.args.universals other == c.args.region in
    let others = regions_of_base c.args.ty.now.base in
    let first : c.any.result ≡ list_any test c.args.ty.now.references = any_from_yields_List test _ _ c.any.result c.any.ensures.ran (YieldsList-from_slice c.args.ty.now.references cc) (λ x b q k. search (rules, tests)) in
    let second : c.any-else-any.result ≡ list_any is_it others = any_from_yields_List is_it _ _ c.any-else-any.result c.any-else-any.ensures.ran (YieldsList-from_slice others cc) (λ x b q k. search (rules, tests)) in
    second ∙ sym (mentioned c.args.universals c.args.region c.args.ty.now ∙ ap (λ b. b || list_any is_it others) (sym first ∙ c.if-any.false))
