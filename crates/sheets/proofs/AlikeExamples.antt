-- The texts of model's AlikeExamples are accepted, and the alike ones have one answer in every room, by computation.
use Rattle.std.specs.Prelude.{ℕ, ◌≡◌, refl}
use Rattle.verdict.specs.Verdict.{accepted, verdict}
use Rattle.model.proofs.AlikeExamples.{bare, bare-respelled, building, building-respelled, building-alike}
use Rattle.sheets.specs.Laid.{laid, answer, room_after}
use Rattle.sheets.proofs.Examples.{lays}
use Rattle.sheets.proofs.Theorems.{alike-rooms}

bare-laid : lays bare 65536 ≡ laid 78 0
unfolding lays bare
bare-laid = refl

bare-respelled-laid : lays bare-respelled 65536 ≡ laid 78 0
unfolding lays bare-respelled
bare-respelled-laid = refl

-- a sheet for two objects
building-laid : lays building 65536 ≡ laid 247 2
unfolding lays building
building-laid = refl

building-respelled-laid : lays building-respelled 65536 ≡ laid 247 2
unfolding lays building-respelled
building-respelled-laid = refl

building-accepted : verdict building ≡ accepted 2
unfolding lays building
building-accepted = refl

building-respelled-accepted : verdict building-respelled ≡ accepted 2
unfolding lays building-respelled
building-respelled-accepted = refl

-- one answer and one sheet, whatever the room
pub building-rooms : (r : ℕ) → (answer building r ≡ answer building-respelled r) × (room_after building r ≡ room_after building-respelled r)
building-rooms r = alike-rooms building building-respelled 2 2 r building-accepted building-respelled-accepted building-alike
