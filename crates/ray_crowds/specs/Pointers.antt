-- A spot of a command as a JSON pointer. (RFC 6901)
use Rattle.std.specs.Prelude.{ℕ, List, ◌++◌, codes, decimal}
use Rattle.ray_causes.specs.Pointers.{member_text}
use Rattle.ray_crowds.specs.declared.spot.Spot.{Spot}
use Rattle.ray_crowds.specs.declared.spot.Spot.TheVariants as spots

-- a spot of command number i
abbrev pub spot_text : ℕ → Spot → List ℕ
spot_text i (spots.Member member) = member_text i member
spot_text i spots.Counts = codes "/" ++ (decimal i ++ codes "/counts")
spot_text i spots.Count = codes "/" ++ (decimal i ++ codes "/count")
spot_text i spots.Infos = codes "/" ++ (decimal i ++ codes "/infos")
spot_text i (spots.Geometries k) =
    codes "/" ++ (decimal i ++ (codes "/infos/" ++ (decimal k ++ codes "/geometries")))
spot_text i (spots.Geometry k g) =
    codes "/" ++ (decimal i ++ (codes "/infos/" ++ (decimal k ++ (codes "/geometries/" ++ decimal g))))
spot_text i spots.Script = codes "/" ++ (decimal i ++ codes "/script")
spot_text i (spots.Rule n) = codes "/" ++ (decimal i ++ (codes "/script/" ++ decimal n))
