-- The words of docs/RULES.md, section "Types, codes and permissions", once and in its order.
use Rattle.std.specs.Prelude.{ℕ, ◌+◌, Bool, false, cond, ◌&&◌, ◌||◌, List, [], ◌∷◌, length, get_or, eqb, ltb}
use Prim.Native.String.{String}
use Rattle.utf8.specs.Ascii.{ascii, is_digit}
use Rattle.utf8.specs.Utf8.{same}

-- "Objects, first level, codes 1 to 16: Bridge, .. Second level, 17 to 33: BridgePart, .."
unfoldable pub object_words : List String
object_words =
    "Bridge" ∷ "Building" ∷ "CityFurniture" ∷ "CityObjectGroup" ∷ "GenericCityObject" ∷ "LandUse" ∷ "OtherConstruction" ∷ "PlantCover"
    ∷ "Railway" ∷ "Road" ∷ "SolitaryVegetationObject" ∷ "TINRelief" ∷ "TransportSquare" ∷ "Tunnel" ∷ "WaterBody" ∷ "Waterway"
    ∷ "BridgePart" ∷ "BridgeInstallation" ∷ "BridgeConstructiveElement" ∷ "BridgeRoom" ∷ "BridgeFurniture"
    ∷ "BuildingPart" ∷ "BuildingInstallation" ∷ "BuildingConstructiveElement" ∷ "BuildingFurniture" ∷ "BuildingStorey" ∷ "BuildingRoom" ∷ "BuildingUnit"
    ∷ "TunnelPart" ∷ "TunnelInstallation" ∷ "TunnelConstructiveElement" ∷ "TunnelHollowSpace" ∷ "TunnelFurniture" ∷ []

-- the table "Code | Geometry | Boundary depth | Values depth": the geometries, codes 1 to 7
unfoldable pub geometry_words : List String
geometry_words = "MultiPoint" ∷ "MultiLineString" ∷ "MultiSurface" ∷ "CompositeSurface" ∷ "Solid" ∷ "MultiSolid" ∷ "CompositeSolid" ∷ []

-- "Surfaces, 1 to 18: RoofSurface, .."
unfoldable pub surface_words : List String
surface_words =
    "RoofSurface" ∷ "GroundSurface" ∷ "WallSurface" ∷ "ClosureSurface" ∷ "OuterCeilingSurface" ∷ "OuterFloorSurface" ∷ "Window" ∷ "Door"
    ∷ "InteriorWallSurface" ∷ "CeilingSurface" ∷ "FloorSurface" ∷ "WaterSurface" ∷ "WaterGroundSurface" ∷ "WaterClosureSurface"
    ∷ "TrafficArea" ∷ "AuxiliaryTrafficArea" ∷ "TransportationMarking" ∷ "TransportationHole" ∷ []

-- the code of a word, counted from n; 0 if the list has it not
unfoldable pub code_from : ℕ → List String → List ℕ → ℕ
unfolding ascii same
code_from n [] t = 0
code_from n (w ∷ ws) t = cond (same (ascii w) t) n (code_from (n + 1) ws t)

unfoldable pub code_of : List String → List ℕ → ℕ
unfolding code_from
code_of words t = code_from 1 words t

-- is the text one of the words?
unfoldable pub is_one : List String → List ℕ → Bool
unfolding ascii same
is_one [] t = false
is_one (w ∷ ws) t = same (ascii w) t || is_one ws t

-- the text is this word
unfoldable pub is : String → List ℕ → Bool
unfolding ascii same
is word t = same (ascii word) t

-- rule 11: "beginning `+`"
unfoldable pub is_added : List ℕ → Bool
is_added t = eqb (get_or t 0 0) 43

-- rule 10: "`+` and at least one more byte"
unfoldable pub is_added_name : List ℕ → Bool
unfolding is_added
is_added_name t = is_added t && ltb 1 (length t)

-- rule 10: "`lod` a digit, or digit, point, digit"
unfoldable pub is_lod : List ℕ → Bool
unfolding is_digit
is_lod [] = false
is_lod (a ∷ []) = is_digit a
is_lod (a ∷ b ∷ []) = false
is_lod (a ∷ b ∷ c ∷ []) = is_digit a && eqb b 46 && is_digit c
is_lod (a ∷ b ∷ c ∷ d ∷ t) = false

-- is the code one of the second level?
unfoldable pub is_second_level : ℕ → Bool
is_second_level code = ltb 16 code

-- the columns "Boundary depth" and "Values depth", by a geometry's code
unfoldable pub depth : ℕ → ℕ
depth code = get_or (0 ∷ 1 ∷ 2 ∷ 3 ∷ 3 ∷ 4 ∷ 5 ∷ 5 ∷ []) code 0

unfoldable pub values_depth : ℕ → ℕ
values_depth code = get_or (0 ∷ 1 ∷ 1 ∷ 1 ∷ 1 ∷ 2 ∷ 3 ∷ 3 ∷ []) code 0

-- object types, and the codes of the geometries that each may have
pub record Row : Type 0 where
  pub objects : List String
  pub geometries : List ℕ

-- "Permitted: Bridge, ..: 3, 4, 5, 7. GenericCityObject: all but 6. LandUse: 3, 4. PlantCover: 3 to 7. TINRelief: 4. WaterBody: 2, 3, 4, 5, 7."
unfoldable pub permitted_rows : List Row
permitted_rows =
    record {
      objects = "Bridge" ∷ "BridgePart" ∷ "Tunnel" ∷ "TunnelPart" ∷ "Building" ∷ "BuildingPart" ∷ "BuildingStorey" ∷ "BuildingRoom" ∷ "BuildingUnit" ∷ [];
      geometries = 3 ∷ 4 ∷ 5 ∷ 7 ∷ [];
    }
    ∷ record { objects = "GenericCityObject" ∷ []; geometries = 1 ∷ 2 ∷ 3 ∷ 4 ∷ 5 ∷ 7 ∷ [] }
    ∷ record { objects = "LandUse" ∷ []; geometries = 3 ∷ 4 ∷ [] }
    ∷ record { objects = "PlantCover" ∷ []; geometries = 3 ∷ 4 ∷ 5 ∷ 6 ∷ 7 ∷ [] }
    ∷ record { objects = "TINRelief" ∷ []; geometries = 4 ∷ [] }
    ∷ record { objects = "WaterBody" ∷ []; geometries = 2 ∷ 3 ∷ 4 ∷ 5 ∷ 7 ∷ [] }
    ∷ []

unfoldable pub has : List ℕ → ℕ → Bool
has [] c = false
has (d ∷ ds) c = eqb d c || has ds c

-- the codes of some object types
unfoldable pub object_codes : List String → List ℕ
unfolding code_of object_words ascii
object_codes [] = []
object_codes (w ∷ ws) = code_of object_words (ascii w) ∷ object_codes ws

-- "All others: 1 to 7"
unfoldable pub permitted_in : List Row → ℕ → List ℕ
unfolding object_codes has
permitted_in [] object = 1 ∷ 2 ∷ 3 ∷ 4 ∷ 5 ∷ 6 ∷ 7 ∷ []
permitted_in (r ∷ rs) object = cond (has (object_codes r.objects) object) r.geometries (permitted_in rs object)

-- may an object whose type has the first code have a geometry whose type has the second?
unfoldable pub is_permitted : ℕ → ℕ → Bool
unfolding permitted_rows permitted_in has
is_permitted object code = has (permitted_in permitted_rows object) code
