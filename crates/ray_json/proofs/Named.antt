-- Names of members, as the program finds them in a map and as the definition finds them in an object.
use Rattle.std.proofs.Common.{ℕ, ◌≡◌, List, [], ◌∷◌, map, String, string_bytes, Bor, refl}
use Rattle.std.specs.List.{list_any, list_all}
use Rattle.std.specs.Map.{keys_of}
use Rattle.std.specs.Str.{bytes_eq}
use Rattle.std.specs.declared.alloc.Global.{Global}
use Rattle.serde_json.specs.View.{members_view}
use Rattle.serde_json.specs.declared.value.Value.{Value}
use Rattle.ray_json.specs.Fields.{members_among}

-- whether some name of the list is the key
any_mapped : (key : List ℕ) (names : List (Bor (List ℕ))) → list_any (λ name. bytes_eq key name.now) names ≡ list_any (bytes_eq key) (map (λ name. name.now) names)
any_mapped key [] = refl
any_mapped key (name ∷ names) = rw (any_mapped key names) refl

-- whether each member has a name of the list
pub members_among-keys : (names : List (Bor (List ℕ))) (ms : List (String Global × Value)) →
    members_among (map (λ name. name.now) names) (members_view ms) ≡ list_all (λ key. list_any (λ name. bytes_eq (string_bytes key) name.now) names) (keys_of ms)
members_among-keys names [] = refl
members_among-keys names (m ∷ ms) = rw (any_mapped (string_bytes m.0) names, members_among-keys names ms) refl

pub ruleset named = (members_among-keys)
