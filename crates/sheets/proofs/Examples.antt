-- The sheets of two sample texts (docs/TRACE.md), and rooms that are cleared, by computation.
use Rattle.std.specs.Prelude.{ℕ, ◌≡◌, refl, List, [], ◌∷◌, ◌++◌}
use Rattle.utf8.specs.Ascii.{ascii, is_digit}
use Rattle.json_text.specs.Tree.{◌◂◌, with}
use Rattle.json_text.specs.Machine.{step, want_step, got_step, next_step, name_step, mant_step, nought_step, is_blank, is_hex, is_escape}
use Rattle.numerals.specs.Numerals.{decimal, whole_of}
use Rattle.words.specs.Words.{code_of, object_words, geometry_words, surface_words, depth, values_depth}
use Rattle.nodes.specs.Access.{elements, members, name_of, text_of, find}
use Rattle.utf8.specs.Bytes.{le}
use Rattle.model.specs.Code.{signed, concat_map}
use Rattle.model.specs.Model.{lay_rec, lay_three, lay_decimal, minor_code, lod_code, lay_nest, lay_value, lay_values, lay_surface, surface_recs, semantics_recs, geometry_recs, object_recs, model_recs, lay_model, object_number, ids_of, number_object, number_model}
use Rattle.model.specs.Read.{or_null, get, zero_if_none, decimal_of, integer_of, natural, index_of, value_of, three_of, nest_of, minor_of, lod_of, surface_named, surface_of, semantics_of, geometry_of, object_of}
use Rattle.model.specs.Read as read
use Rattle.verdict.specs.Verdict.{accepted, verdict}
use Rattle.sheets.specs.Characters.{WholeTexts}
use Rattle.sheets.proofs.Characters.{whole-model}
use Rattle.sheets.specs.Laid.{Answer, laid, refused, answer, model_of_text, sheet_of_text, room_after}

-- opening this opens all that an answer and a sheet need
unfoldable pub lays : List ℕ → ℕ → Answer
unfolding answer room_after ascii step want_step got_step next_step name_step mant_step nought_step is_blank is_digit is_hex is_escape ◌◂◌ with decimal code_of object_words
    geometry_words surface_words depth values_depth elements members name_of text_of find le signed concat_map lay_rec lay_three lay_decimal minor_code lod_code lay_nest
    lay_value lay_values lay_surface surface_recs semantics_recs geometry_recs object_recs model_recs lay_model object_number ids_of number_object number_model or_null get
    read.maybe_decimal zero_if_none decimal_of whole_of integer_of natural index_of value_of three_of nest_of minor_of lod_of surface_named surface_of semantics_of geometry_of
    object_of
lays text room = answer text room

-- CityJSON's minimal object
unfoldable pub minimal : List ℕ
unfolding ascii
minimal =
    ascii "{ \"type\": \"CityJSON\", \"version\": \"2.0\", \"transform\": { \"scale\": [1.0, 1.0, 1.0], \"translate\": [0.0, 0.0, 0.0] }, "
    ++ ascii "\"CityObjects\": {}, \"vertices\": [] }"

-- it is laid
minimal-laid : lays minimal 65536 ≡ laid 78 0
unfolding lays minimal
minimal-laid = refl

-- in a room of just its length
minimal-fits : lays minimal 78 ≡ laid 78 0
unfolding lays minimal
minimal-fits = refl

-- one byte short
minimal-short : lays minimal 77 ≡ refused 18 0 0
unfolding lays minimal
minimal-short = refl

-- "Its sheet is kinds 1, 2 and 9 of 66, 6 and 6 bytes"
minimal-sheet : sheet_of_text minimal ≡
    60 ∷ 0 ∷ 0 ∷ 0 ∷ 1 ∷ 0
    ∷ 1 ∷ 0 ∷ 0 ∷ 0 ∷ 0 ∷ 0 ∷ 0 ∷ 0 ∷ 0 ∷ 0 ∷ 1 ∷ 0 ∷ 0 ∷ 0 ∷ 0 ∷ 0 ∷ 0 ∷ 0 ∷ 0 ∷ 0 ∷ 1 ∷ 0 ∷ 0 ∷ 0 ∷ 0 ∷ 0 ∷ 0 ∷ 0 ∷ 0 ∷ 0
    ∷ 0 ∷ 0 ∷ 0 ∷ 0 ∷ 0 ∷ 0 ∷ 0 ∷ 0 ∷ 0 ∷ 0 ∷ 0 ∷ 0 ∷ 0 ∷ 0 ∷ 0 ∷ 0 ∷ 0 ∷ 0 ∷ 0 ∷ 0 ∷ 0 ∷ 0 ∷ 0 ∷ 0 ∷ 0 ∷ 0 ∷ 0 ∷ 0 ∷ 0 ∷ 0
    ∷ 0 ∷ 0 ∷ 0 ∷ 0 ∷ 2 ∷ 0
    ∷ 0 ∷ 0 ∷ 0 ∷ 0 ∷ 9 ∷ 0 ∷ []
unfolding lays minimal
minimal-sheet = refl

-- what follows the sheet is cleared
minimal-after : room_after minimal 80 ≡ sheet_of_text minimal ++ 0 ∷ 0 ∷ []
unfolding lays minimal
minimal-after = refl

-- "One CityFurniture named `kiosk` with a MultiPoint `[0]` over one vertex lays 133 bytes"
unfoldable kiosk_text : List ℕ
unfolding ascii
kiosk_text =
    ascii "{\"type\":\"CityJSON\",\"version\":\"2.0\",\"transform\":{\"scale\":[0.001,0.001,0.001],\"translate\":[0.0,0.0,0.0]},"
    ++ (ascii "\"CityObjects\":{\"kiosk\":{\"type\":\"CityFurniture\",\"geometry\":[{\"type\":\"MultiPoint\",\"lod\":\"1\",\"boundaries\":[0]}]}},"
    ++ ascii "\"vertices\":[[10,-20,30]]}")

kiosk : lays kiosk_text 65536 ≡ laid 133 1
unfolding lays kiosk_text
kiosk = refl

-- a text with an ID written by \u00e9, by the pair \ud83c\udfe0, and by the two bytes of U+00FC
unfoldable pub house : List ℕ
unfolding ascii
house =
    ascii "{\"type\":\"CityJSON\",\"version\":\"2.0\",\"transform\":{\"scale\":[1,1,1],\"translate\":[0,0,0]},\"CityObjects\":{\"\\u00e9\\ud83c\\udfe0"
    ++ 0xC3 ∷ 0xBC ∷ ascii "\":{\"type\":\"CityFurniture\"}},\"vertices\":[]}"

-- it is accepted
house-accepted : verdict house ≡ accepted 1
unfolding lays house
house-accepted = refl

-- and the ID is U+00E9, U+1F3E0 and U+00FC in UTF-8
house-id : ids_of (model_of_text house).objects ≡ (0xC3 ∷ 0xA9 ∷ 0xF0 ∷ 0x9F ∷ 0x8F ∷ 0xA0 ∷ 0xC3 ∷ 0xBC ∷ []) ∷ []
unfolding lays house
house-id = refl

-- as follows from its acceptance, it is whole characters
house-whole : WholeTexts (model_of_text house)
house-whole = whole-model house 1 house-accepted

-- a refusal clears the room
cleared : room_after (ascii "{}") 3 ≡ 0 ∷ 0 ∷ 0 ∷ []
unfolding lays
cleared = refl
