-- Verdicts by computation: the sample reading (docs/TRACE.md) that has no star, two whose ends the papers give, two texts that are accepted,
-- and two that rules 3 and 4 refuse.
-- The starred readings are in `sheets`.
use Rattle.std.specs.Prelude.{ℕ, ◌≡◌, refl, List, ◌++◌, replicate}
use Rattle.utf8.specs.Ascii.{ascii, is_digit}
use Rattle.json_text.specs.Tree.{◌◂◌, with}
use Rattle.json_text.specs.Machine.{step, want_step, got_step, next_step, name_step, mant_step, nought_step, is_blank, is_hex, is_escape}
use Rattle.verdict.specs.Verdict.{Verdict, accepted, refused, verdict}
use Rattle.verdict.specs.Exact.{Least}
use Rattle.verdict.proofs.Exact.{refused-least}

-- opening this opens all that a verdict needs
unfoldable pub judges : List ℕ → Verdict
unfolding verdict ascii step want_step got_step next_step name_step mant_step nought_step is_blank is_digit is_hex is_escape ◌◂◌ with
judges text = verdict text

-- rules 3 and 4 by the grammar: 32 levels that are not closed, and a 33rd
open-32 : Least (replicate 32 91) 3 32 32
unfolding judges
open-32 = refused-least (replicate 32 91) 3 32 32 refl

open-33 : Least (replicate 33 91) 4 32 32
unfolding judges
open-33 = refused-least (replicate 33 91) 4 32 32 refl

-- the sample reading "32 `[` then 32 `]`": 7 at 0, to 64
closed-32 : judges (replicate 32 91 ++ replicate 32 93) ≡ refused 7 0 64
unfolding judges
closed-32 = refl

-- "refused 6 at 7 to 10" for `{"a":1,"a":2}`, and "refused 8 at 0 to 2" for `{}`: the end of a name is its own, and that of an object is past its brace
repeated-name : judges (ascii "{\"a\":1,\"a\":2}") ≡ refused 6 7 10
unfolding judges
repeated-name = refl

empty-object : judges (ascii "{}") ≡ refused 8 0 2
unfolding judges
empty-object = refl

-- CityJSON's minimal object
unfoldable minimal_text : List ℕ
unfolding ascii
minimal_text =
    ascii "{ \"type\": \"CityJSON\", \"version\": \"2.0\", \"transform\": { \"scale\": [1.0, 1.0, 1.0], \"translate\": [0.0, 0.0, 0.0] }, "
    ++ ascii "\"CityObjects\": {}, \"vertices\": [] }"

minimal : judges minimal_text ≡ accepted 0
unfolding judges minimal_text
minimal = refl

-- the kiosk of the sample readings
unfoldable kiosk_text : List ℕ
unfolding ascii
kiosk_text =
    ascii "{\"type\":\"CityJSON\",\"version\":\"2.0\",\"transform\":{\"scale\":[0.001,0.001,0.001],\"translate\":[0.0,0.0,0.0]},"
    ++ (ascii "\"CityObjects\":{\"kiosk\":{\"type\":\"CityFurniture\",\"geometry\":[{\"type\":\"MultiPoint\",\"lod\":\"1\",\"boundaries\":[0]}]}},"
    ++ ascii "\"vertices\":[[10,-20,30]]}")

kiosk : judges kiosk_text ≡ accepted 1
unfolding judges kiosk_text
kiosk = refl
