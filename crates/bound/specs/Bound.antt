-- How much room always suffices for a sheet.
use Rattle.std.specs.Prelude.{ℕ, ◌*◌}

-- the room that always suffices for a text of so many bytes, as include/kebrawish.h gives it
unfoldable pub room_for : ℕ → ℕ
room_for n = 4 * n
