-- The text of each object, from the members that its value has.
use Rattle.std.proofs.Common.{◌≡◌, ℕ, List, ◌++◌, map, codes, decimal, refl, sym, append_assoc}
use Rattle.serde_json.specs.Data.{number, unsigned, string, object, member, no_members}
use Rattle.serde_json.specs.View.{view}
use Rattle.serde_json.specs.declared.value.Value.{Value}
use Rattle.serde_json.proofs.OnLiterals.{serde_json_on_literals}
use Rattle.json.specs.Print.{quoted}
use Rattle.bc_syntax.specs.declared.syntax.Region.{Region}
use Rattle.bc_names.specs.Names.{NameParts, name_text}
use Rattle.bc_bodies.specs.declared.mir.Point.{Point}
use Rattle.bc_mir.specs.declared.typed.Where.{Where}
use Rattle.bc_bodies.specs.Lines.{point_text}
use Rattle.bc_mir.specs.Lines.{place_text}
use Rattle.bc_judge.specs.declared.error.BorrowError.TheVariants.{Conflict, Lifetime}
use Rattle.bc_judge.specs.Lines.{region_text}
use Rattle.bc_prov.specs.declared.outcome.BodyErrors.{BodyErrors}
use Rattle.bc_prov.specs.declared.outcome.Outcome.{Outcome}
use Rattle.bc_prov.specs.declared.outcome.Outcome.TheVariants.{NoBody, Missing, BadTypes, Ill, Report}
use Rattle.bc_json.specs.Texts.{HasText, array_text}
use Rattle.bc_json.specs.Json.{region_json, chain_json, error_json, body_json, outcome_json, json_line}

two_parts : (a x b y c : List ℕ) → a ++ (x ++ (b ++ (y ++ c))) ≡ a ++ x ++ b ++ y ++ c
two_parts a x b y c = simp append_assoc refl

three_parts : (a x b y c z d : List ℕ) → a ++ (x ++ (b ++ (y ++ (c ++ (z ++ d))))) ≡ a ++ x ++ b ++ y ++ c ++ z ++ d
three_parts a x b y c z d = simp append_assoc refl

four_parts : (a x b y c z d w e : List ℕ) → a ++ (x ++ (b ++ (y ++ (c ++ (z ++ (d ++ (w ++ e))))))) ≡ a ++ x ++ b ++ y ++ c ++ z ++ d ++ w ++ e
four_parts a x b y c z d w e = simp append_assoc refl

pub word_text : (value : Value) (region : Region) → view value ≡ string (region_text region) → HasText value (region_json region)
word_text value region built = rw built (refl, refl)

pub conflict_text : (value list : Value) (at : Point) (access : ℕ) (loan : Point) (chain : List Region) → HasText list (chain_json chain) → view value ≡ object (member (codes "access") (number (unsigned access)) (member (codes "at") (string (point_text at)) (member (codes "chain") (view list) (member (codes "kind") (string (codes "conflict")) (member (codes "loan") (string (point_text loan)) no_members))))) → HasText value (error_json (Conflict at access loan chain))
unfolding serde_json_on_literals
conflict_text value list at access loan chain inside built = rw built (rw inside.0 refl, rw inside.1 (four_parts (codes "{\"access\":") (decimal access) (codes ",\"at\":") (quoted (point_text at)) (codes ",\"chain\":") (chain_json chain) (codes ",\"kind\":\"conflict\",\"loan\":") (quoted (point_text loan)) (codes "}")))

pub lifetime_text : (value list : Value) (longer shorter : ℕ) (chain : List Region) → HasText list (chain_json chain) → view value ≡ object (member (codes "chain") (view list) (member (codes "kind") (string (codes "lifetime")) (member (codes "longer") (number (unsigned longer)) (member (codes "shorter") (number (unsigned shorter)) no_members)))) → HasText value (error_json (Lifetime longer shorter chain))
unfolding serde_json_on_literals
lifetime_text value list longer shorter chain inside built = rw built (rw inside.0 refl, rw inside.1 (three_parts (codes "{\"chain\":") (chain_json chain) (codes ",\"kind\":\"lifetime\",\"longer\":") (decimal longer) (codes ",\"shorter\":") (decimal shorter) (codes "}")))

pub body_text : (value list : Value) (body : BodyErrors) → HasText list (array_text (map error_json body.errors)) → view value ≡ object (member (codes "errors") (view list) (member (codes "name") (string (name_text body.name)) no_members)) → HasText value (body_json body)
unfolding serde_json_on_literals
body_text value list body inside built = rw built (rw inside.0 refl, rw inside.1 (two_parts (codes "{\"errors\":") (array_text (map error_json body.errors)) (codes ",\"name\":") (quoted (name_text body.name)) (codes "}")))

pub no_body_text : (value : Value) → view value ≡ object (member (codes "kind") (string (codes "nobody")) no_members) → HasText value (outcome_json NoBody)
unfolding serde_json_on_literals
no_body_text value built = rw built (refl, refl)

pub missing_text : (value : Value) (name : NameParts) → view value ≡ object (member (codes "kind") (string (codes "missing")) (member (codes "name") (string (name_text name)) no_members)) → HasText value (outcome_json (Missing name))
unfolding serde_json_on_literals
missing_text value name built = rw built (refl, simp append_assoc refl)

pub bad_types_text : (value : Value) (index : ℕ) → view value ≡ object (member (codes "index") (number (unsigned index)) (member (codes "kind") (string (codes "badtypes")) no_members)) → HasText value (outcome_json (BadTypes index))
unfolding serde_json_on_literals
bad_types_text value index built = rw built (refl, simp append_assoc refl)

pub ill_text : (value : Value) (name : NameParts) (place : Where) → view value ≡ object (member (codes "at") (string (place_text place)) (member (codes "kind") (string (codes "ill")) (member (codes "name") (string (name_text name)) no_members))) → HasText value (outcome_json (Ill name place))
unfolding serde_json_on_literals
ill_text value name place built = rw built (refl, simp append_assoc refl)

pub report_text : (value list : Value) (bodies : List BodyErrors) → HasText list (array_text (map body_json bodies)) → view value ≡ object (member (codes "bodies") (view list) (member (codes "kind") (string (codes "report")) no_members)) → HasText value (outcome_json (Report bodies))
unfolding serde_json_on_literals
report_text value list bodies inside built = rw built (rw inside.0 refl, rw inside.1 (sym (append_assoc (codes "{\"bodies\":") (array_text (map body_json bodies)) (codes ",\"kind\":\"report\"}"))))

pub line_text : (value found : Value) (name : NameParts) (outcome : Outcome) → HasText found (outcome_json outcome) → view value ≡ object (member (codes "ask") (string (name_text name)) (member (codes "outcome") (view found) no_members)) → HasText value (json_line name outcome)
unfolding serde_json_on_literals
line_text value found name outcome inside built = rw built (rw inside.0 refl, rw inside.1 (two_parts (codes "{\"ask\":") (quoted (name_text name)) (codes ",\"outcome\":") (outcome_json outcome) (codes "}")))
