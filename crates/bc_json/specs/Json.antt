-- An outcome as JSON: each object is compact, its keys in byte order.
use Rattle.std.specs.Prelude.{ℕ, List, ◌++◌, map, decimal, codes}
use Rattle.json.specs.Print.{quoted}
use Rattle.bc_syntax.specs.declared.syntax.Region.{Region}
use Rattle.bc_names.specs.Names.{NameParts, name_text}
use Rattle.bc_bodies.specs.Lines.{point_text}
use Rattle.bc_mir.specs.Lines.{place_text}
use Rattle.bc_judge.specs.declared.error.BorrowError.{BorrowError}
use Rattle.bc_judge.specs.declared.error.BorrowError.TheVariants.{Conflict, Lifetime}
use Rattle.bc_judge.specs.Lines.{region_text}
use Rattle.bc_prov.specs.declared.outcome.BodyErrors.{BodyErrors}
use Rattle.bc_prov.specs.declared.outcome.Outcome.{Outcome}
use Rattle.bc_prov.specs.declared.outcome.Outcome.TheVariants.{NoBody, Missing, BadTypes, Ill, Report}
use Rattle.bc_json.specs.Texts.{array_text}

-- a region of a chain, as a string
abbrev pub region_json : Region → List ℕ
region_json region = quoted (region_text region)

-- the array of the regions of a chain, in order
abbrev pub chain_json : List Region → List ℕ
chain_json chain = array_text (map region_json chain)

-- the object of an error
abbrev pub error_json : BorrowError → List ℕ
error_json (Conflict at access loan chain) =
    codes "{\"access\":" ++ decimal access ++ codes ",\"at\":" ++ quoted (point_text at) ++ codes ",\"chain\":" ++ chain_json chain ++ codes ",\"kind\":\"conflict\",\"loan\":" ++ quoted (point_text loan) ++ codes "}"
error_json (Lifetime longer shorter chain) =
    codes "{\"chain\":" ++ chain_json chain ++ codes ",\"kind\":\"lifetime\",\"longer\":" ++ decimal longer ++ codes ",\"shorter\":" ++ decimal shorter ++ codes "}"

-- the object of a body, with its errors in order
abbrev pub body_json : BodyErrors → List ℕ
body_json body =
    codes "{\"errors\":" ++ array_text (map error_json body.errors) ++ codes ",\"name\":" ++ quoted (name_text body.name) ++ codes "}"

-- the object of an outcome, with its bodies in order
abbrev pub outcome_json : Outcome → List ℕ
outcome_json NoBody = codes "{\"kind\":\"nobody\"}"
outcome_json (Missing name) = codes "{\"kind\":\"missing\",\"name\":" ++ quoted (name_text name) ++ codes "}"
outcome_json (BadTypes index) = codes "{\"index\":" ++ decimal index ++ codes ",\"kind\":\"badtypes\"}"
outcome_json (Ill name place) =
    codes "{\"at\":" ++ quoted (place_text place) ++ codes ",\"kind\":\"ill\",\"name\":" ++ quoted (name_text name) ++ codes "}"
outcome_json (Report bodies) = codes "{\"bodies\":" ++ array_text (map body_json bodies) ++ codes ",\"kind\":\"report\"}"

-- the line of a root that was asked for, without its line feed
abbrev pub json_line : NameParts → Outcome → List ℕ
json_line name outcome =
    codes "{\"ask\":" ++ quoted (name_text name) ++ codes ",\"outcome\":" ++ outcome_json outcome ++ codes "}"
