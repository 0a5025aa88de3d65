use Rattle.std.proofs.Common.{◌≡◌, ℕ, suc, ◌-◌, ◌<◌, List, [], length, get_or, sym, ap, ◌∙◌, arith}
use Rattle.std.proofs.lemmas.List.{get_or-map, get_or_past, length-map}
use Rattle.bc_syntax.specs.Universals.{universal_names}
use Rattle.bc_syntax.specs.declared.syntax.RegionName.{RegionName}
use Rattle.bc_print.proofs.names.universal_name.Goals as goal

bytes_at : (regions : List RegionName) (number j : ℕ) (name : RegionName) → number ≡ suc j → j < length regions → name ≡ get_or regions j name → name.bytes ≡ get_or (universal_names regions) number []
bytes_at regions number j name at below is =
    ap (λ (n : RegionName). n.bytes) is ∙ sym (get_or-map (λ (n : RegionName). n.bytes) regions j name [] below) ∙ ap (λ n. get_or (universal_names regions) n []) (sym at)

pub returns-in-Some : goal.returns-in-Some
returns-in-Some c =
    let found = c.in-Some.ensures.lookup in
    c.as_slice.ensures ∙ bytes_at c.args.regions.now c.args.number (c.from.result - 1) c.in-Some.name.now (omega (arith, c.from.ensures, c.if-number-eq0.false)) found.3.0 found.1

pub returns-in-None : goal.returns-in-None
returns-in-None c =
    let names = universal_names c.args.regions.now in
    sym (get_or_past names c.args.number [] (omega (arith, length-map c.args.regions.now (λ (n : RegionName). n.bytes), c.in-None.ensures.lookup.3, c.from.ensures, c.if-number-eq0.false)))
