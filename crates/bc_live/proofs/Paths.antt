-- The uses that flow back along the edges are those that a path leads to.
use Rattle.std.proofs.Common.{◌≡◌, ℕ, ◌↔◌, Bool, true, false, List, map, sym, ◌∙◌}
use Rattle.std.proofs.lemmas.Bool.{false_from_ne_true, both_ways}
use Rattle.std.proofs.lemmas.List.Elements.{All-weaker}
use Rattle.bc_flow.specs.Graph.{turned}
use Rattle.bc_flow.specs.Flow.{holds, HaveEntries, IsFlow}
use Rattle.bc_flow.proofs.Ways.{LeadsTo, leads_from_flows, holds_from_leads}
use Rattle.bc_bodies.specs.Mir.{Mir, edges_of}
use Rattle.bc_points.specs.Points.{Uses, Defines}
use Rattle.bc_live.specs.Live.{IsLive}
use Rattle.bc_live.specs.Entries.{use_entries, definition_entries}
use Rattle.bc_live.proofs.Listing.{use_is_listed, definition_is_listed}

-- what the tables say of a unit's points
pub record AreTables (mir : Mir) (seeds kills : List (List Bool)) : Type 0 where
  pub uses : (p l : ℕ) → (holds seeds p l ≡ true) ↔ Uses mir l p
  pub definitions : (p l : ℕ) → (holds kills p l ≡ true) ↔ Defines mir l p

-- a way past points that do not kill the local is a path past points that do not define it
live_from_way : (mir : Mir) (seeds kills : List (List Bool)) (l p : ℕ) → AreTables mir seeds kills → LeadsTo (edges_of mir) seeds kills l p → IsLive mir l p
live_from_way mir seeds kills l p tables way = record {
  earlier = way.earlier;
  last = way.last;
  is_path = way.is_path;
  from_point = way.from_node;
  used = (tables.uses way.last l).0 way.begins_there;
  undefined = All-weaker (λ n. holds kills n l ≡ false) (λ n. ¬ (Defines mir l n)) (λ n alive d. both_ways (holds kills n l) alive ((tables.definitions n l).1 d)) way.earlier way.alive;
}

-- a point that does not define the local is not killed
alive_at : (mir : Mir) (seeds kills : List (List Bool)) (l p : ℕ) → AreTables mir seeds kills → ¬ (Defines mir l p) → holds kills p l ≡ false
alive_at mir seeds kills l p tables undefined = false_from_ne_true (holds kills p l) (λ k. undefined ((tables.definitions p l).0 k))

way_from_live : (mir : Mir) (seeds kills : List (List Bool)) (l p : ℕ) → AreTables mir seeds kills → IsLive mir l p → LeadsTo (edges_of mir) seeds kills l p
way_from_live mir seeds kills l p tables live = record {
  earlier = live.earlier;
  last = live.last;
  is_path = live.is_path;
  from_node = live.from_point;
  begins_there = (tables.uses live.last l).1 live.used;
  alive = All-weaker (λ n. ¬ (Defines mir l n)) (λ n. holds kills n l ≡ false) (λ n undefined. alive_at mir seeds kills l n tables undefined) live.earlier live.undefined;
}

pub flow_is_live : (mir : Mir) (seeds kills after : List (List Bool)) → AreTables mir seeds kills →
    IsFlow (map turned (edges_of mir)) seeds kills after → (l p : ℕ) → (holds after p l ≡ true) ↔ IsLive mir l p
flow_is_live mir seeds kills after tables flow l p = (
  λ h. live_from_way mir seeds kills l p tables (leads_from_flows (edges_of mir) seeds kills l p (flow.least p l h)),
  λ h. holds_from_leads (edges_of mir) seeds kills after flow l p (way_from_live mir seeds kills l p tables h),
)

pub sets_are_live : (mir : Mir) (seeds kills after : List (List Bool)) → HaveEntries seeds (use_entries mir) → HaveEntries kills (definition_entries mir) →
    IsFlow (map turned (edges_of mir)) seeds kills after → (l p : ℕ) → (holds after p l ≡ true) ↔ IsLive mir l p
sets_are_live mir seeds kills after uses definitions flow =
    let tables : AreTables mir seeds kills = record {
      uses = λ q k. let a = uses q k in let b = use_is_listed mir q k in (λ h. b.0 (a.0 h), λ u. a.1 (b.1 u));
      definitions = λ q k. let a = definitions q k in let b = definition_is_listed mir q k in (λ h. b.0 (a.0 h), λ u. a.1 (b.1 u));
    } in
    flow_is_live mir seeds kills after tables flow

-- the transposed table has the same entries
pub rows_are_live : (mir : Mir) (after rows : List (List Bool)) → ((p l : ℕ) → holds rows l p ≡ holds after p l) → ((l p : ℕ) → (holds after p l ≡ true) ↔ IsLive mir l p) →
    (l p : ℕ) → (holds rows l p ≡ true) ↔ IsLive mir l p
rows_are_live mir after rows turned_rows live l p = (λ h. (live l p).0 (sym (turned_rows p l) ∙ h), λ h. turned_rows p l ∙ (live l p).1 h)
