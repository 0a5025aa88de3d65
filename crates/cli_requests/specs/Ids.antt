-- The id of a request, which its answer repeats.
use Rattle.std.specs.Prelude.{codes, unwrap_or}
use Rattle.serde_json.specs.Data.{Data, null}
use Rattle.serde_json.specs.Find.{get}
use Rattle.serde_json.specs.View.{view}
use Rattle.cli_requests.specs.declared.id.Id.{Id}

-- the data of an id
abbrev pub id_data : Id → Data
id_data id = view id.value

-- the member `id`, or `null` if there is none
abbrev pub id_of : Data → Data
id_of value = unwrap_or (get (codes "id") value) null
