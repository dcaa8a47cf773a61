-- What the functions that hand an answer to C ask: its numbers fit 32 bits.
use Rattle.std.specs.Prelude.{◌^◌, ◌<◌}
use Rattle.verdict.specs.Verdict as verdict
use Rattle.sheets.specs.Laid as laid

unfoldable pub SmallVerdict : verdict.Verdict → Type 0
SmallVerdict (verdict.accepted objects) = objects < 2 ^ 32
SmallVerdict (verdict.refused rule place end) = (place < 2 ^ 32) × (end < 2 ^ 32)

unfoldable pub SmallAnswer : laid.Answer → Type 0
SmallAnswer (laid.laid size objects) = (size < 2 ^ 32) × (objects < 2 ^ 32)
SmallAnswer (laid.refused rule place end) = (place < 2 ^ 32) × (end < 2 ^ 32)
