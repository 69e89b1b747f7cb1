-- Names of members, as the program finds them in a map and as the definition finds them in an object.
use Rattle.std.proofs.Common.{ℕ, ◌≡◌, List, [], ◌∷◌, map, String, string_bytes, Bor, refl}
use Rattle.std.specs.List.{list_any, list_all}
use Rattle.std.specs.Map.{keys_of}
use Rattle.std.specs.Str.{bytes_eq}
use Rattle.std.specs.declared.alloc.Global.{Global}
use Rattle.serde_json.specs.View.{members_view}
use Rattle.serde_json.specs.declared.value.Value.{Value}
use Rattle.ray_json.specs.Fields.{members_among}
use Rattle.ray_shape.specs.declared.shape.Field.{Field}
use Rattle.ray_shape.specs.Table.{Member, member_of}

-- whether some row has the key as its name
any_row : (key : List ℕ) (rows : List Field) →
    list_any (λ row. bytes_eq key row.name.now) rows ≡ list_any (bytes_eq key) (map (λ m. m.name) (map member_of rows))
any_row key [] = refl
any_row key (row ∷ rows) = rw (any_row key rows) refl

-- whether each member has the name of a row
pub members_among-rows : (rows : List Field) (ms : List (String Global × Value)) →
    members_among (map (λ m. m.name) (map member_of rows)) (members_view ms)
    ≡ list_all (λ key. list_any (λ row. bytes_eq (string_bytes key) row.name.now) rows) (keys_of ms)
members_among-rows rows [] = refl
members_among-rows rows (m ∷ ms) = rw (any_row (string_bytes m.0) rows, members_among-rows rows ms) refl

pub ruleset named = (members_among-rows)
