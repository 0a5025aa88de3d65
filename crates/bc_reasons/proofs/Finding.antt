-- The first demand of a constraint.
use Rattle.std.proofs.Common.{◌≡◌, ℕ, zero, suc, ◌<◌, true, false, eqb, cond, Option, Some, None, List, [], ◌∷◌, refl, ap, ◌∙◌, inl, inr, arith}
use Rattle.std.specs.Prelude.{slice_get, MatchOption}
use Rattle.std.specs.List.{find}
use Rattle.std.specs.Option.{option_map}
use Rattle.std.proofs.lemmas.Option.{same_Some}
use Rattle.std.proofs.lemmas.Bool.{and_parts, and_from, eqb-true, eq-eqb, both_ways}
use Rattle.bc_flow.proofs.Membership.{Contains-nil, Contains-cons}
use Rattle.bc_cons.specs.declared.facts.NumberedConstraint.{NumberedConstraint}
use Rattle.bc_cons.specs.Facts.{MustOutlive}
use Rattle.bc_reasons.specs.declared.demand.LinkReason.{LinkReason}
use Rattle.bc_reasons.specs.declared.demand.Demand.{Demand}
use Rattle.bc_reasons.specs.Demands.{is_of, first_reason, IsFirstReason}
use Rattle.bc_reasons.proofs.Cutting.{constraints_in}

-- a demand of a constraint has it
is_of-same : (link : NumberedConstraint) (demand : Demand) → is_of link demand ≡ true → demand ≡ record { reason = demand.reason; constraint = link }
is_of-same link demand is =
    let parts = and_parts (eqb demand.constraint.longer link.longer) (eqb demand.constraint.shorter link.shorter) is in
    let longer : demand.constraint.longer ≡ link.longer = eqb-true demand.constraint.longer link.longer parts.0 in
    let shorter : demand.constraint.shorter ≡ link.shorter = eqb-true demand.constraint.shorter link.shorter parts.1 in
    let made : ℕ → ℕ → Demand = λ a b. record { reason = demand.reason; constraint = record { longer = a; shorter = b } } in
    ap (λ a. made a demand.constraint.shorter) longer ∙ ap (λ b. made link.longer b) shorter

is_of-own : (link : NumberedConstraint) (reason : LinkReason) → is_of link (record { reason = reason; constraint = link }) ≡ true
is_of-own link reason = and_from (eqb link.longer link.longer) (eqb link.shorter link.shorter) (eq-eqb link.longer link.longer refl) (eq-eqb link.shorter link.shorter refl)

-- what a result says, given whether the first demand is of the constraint
abbrev pub Says : List Demand → NumberedConstraint → Option LinkReason → Type 0
Says demands link found = MatchOption found (¬ (MustOutlive (constraints_in demands) link.longer link.shorter)) (λ reason. IsFirstReason demands link reason)

none_yet : (link : NumberedConstraint) (demand : Demand) (demands : List Demand) → is_of link demand ≡ false → ¬ (MustOutlive (constraints_in demands) link.longer link.shorter) →
    ¬ (MustOutlive (constraints_in (demand ∷ demands)) link.longer link.shorter)
none_yet link demand demands apart none outlives = elim (Contains-cons demand.constraint (constraints_in demands) (record { longer = link.longer; shorter = link.shorter }) outlives) [
  | inl same ↦
      let longer : demand.constraint.longer ≡ link.longer = ap (λ (c : NumberedConstraint). c.longer) same in
      let shorter : demand.constraint.shorter ≡ link.shorter = ap (λ (c : NumberedConstraint). c.shorter) same in
      both_ways (is_of link demand) apart
      (and_from (eqb demand.constraint.longer link.longer) (eqb demand.constraint.shorter link.shorter)
      (eq-eqb demand.constraint.longer link.longer longer) (eq-eqb demand.constraint.shorter link.shorter shorter))
  | inr later ↦ none later
]

one_later : (link : NumberedConstraint) (demand : Demand) (demands : List Demand) (reason : LinkReason) → is_of link demand ≡ false → IsFirstReason demands link reason → IsFirstReason (demand ∷ demands) link reason
one_later link demand demands reason apart is = record {
  number = suc is.number;
  is_demand = is.is_demand;
  first = λ i other. elim i as (λ n. n < suc is.number → slice_get (demand ∷ demands) n ≡ Some (record { reason = other; constraint = link }) → ⊥) [
    | zero ↦ λ below here.
        let same : demand ≡ record { reason = other; constraint = link } = same_Some demand (record { reason = other; constraint = link }) here in
        both_ways (is_of link demand) apart (rw same (is_of-own link other))
    | suc j ↦ λ below here. is.first j other (omega (arith, below)) here
  ];
}

-- one more demand that is not of the constraint
passed : (link : NumberedConstraint) (demand : Demand) (demands : List Demand) → is_of link demand ≡ false → (found : Option Demand) →
    Says demands link (option_map (λ (d : Demand). d.reason) found) → Says (demand ∷ demands) link (option_map (λ (d : Demand). d.reason) found)
passed link demand demands apart None none = none_yet link demand demands apart none
passed link demand demands apart (Some first) is = one_later link demand demands first.reason apart is

-- and one that is
found : (link : NumberedConstraint) (demand : Demand) (demands : List Demand) → is_of link demand ≡ true → IsFirstReason (demand ∷ demands) link demand.reason
found link demand demands is = record {
  number = 0;
  is_demand = ap (λ d. Some d) (is_of-same link demand is);
  first = λ i other below. absurd (omega (arith, below));
}

pub says : (link : NumberedConstraint) (demands : List Demand) → Says demands link (first_reason link demands)
says link [] = λ outlives. Contains-nil (record { longer = link.longer; shorter = link.shorter }) outlives
says link (demand ∷ demands) =
    elim (is_of link demand) as (λ b. is_of link demand ≡ b → Says (demand ∷ demands) link (option_map (λ (d : Demand). d.reason) (cond b (Some demand) (find (is_of link) demands)))) [
      | true ↦ λ is. found link demand demands is
      | false ↦ λ apart. passed link demand demands apart (find (is_of link) demands) (says link demands)
    ] refl
