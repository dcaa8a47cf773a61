-- How much room always suffices for a sheet: the sheet of an accepted text has at most twice the text's bytes, whatever the text.
use Rattle.std.specs.Prelude.{ℕ, zero, suc, ◌*◌, ◌≤◌, ◌≡◌, refl, List, [], ◌++◌, ◌≢◌, length}
use Rattle.std.proofs.Common.{arith}
use Rattle.utf8.specs.Ascii.{ascii}
use Rattle.verdict.specs.Verdict.{accepted, verdict}
use Rattle.verdict.proofs.Exact.{accepted-clean}
use Rattle.sheets.specs.Laid.{model_of_text, sheet_of_text, laid, refused, answer}
use Rattle.sheets.specs.Short.{tree-within}
use Rattle.sheets.proofs.Answers.{tree_is, of-laid, too_long}
use Rattle.sheets.proofs.Examples.{lays}
use Rattle.bound.specs.Length.{sheet-most}
use Rattle.bound.specs.Full.{full}
use Rattle.bound.specs.Bound.{room_for}

-- the sheet of an accepted text has at most twice the text's bytes
pub sheet-twice : (x : List ℕ) (n : ℕ) → verdict x ≡ accepted n → length (sheet_of_text x) ≤ 2 * length x
unfolding sheet_of_text model_of_text
sheet-twice x n e =
    let c = accepted-clean x n e in
    let v = c.value in
    rw (tree_is x v c.reads) (omega (arith, sheet-most v (full v c.clean), tree-within (length x) x v (omega arith) c.reads))

-- so the length that lay answers is at most that
pub at-most-twice : (x : List ℕ) (r l n : ℕ) → answer x r ≡ laid l n → l ≤ 2 * length x
at-most-twice x r l n e = let q = of-laid x r l n e in omega (arith, q.size, sheet-twice x n q.accepted)

-- and in a room of twice the text's bytes lay never answers 18, at any place, with any end
pub twice-suffices : (x : List ℕ) (r : ℕ) → 2 * length x ≤ r → (p e : ℕ) → answer x r ≢ refused 18 p e
twice-suffices x r h p e z = let ((n, a), k) = too_long x r z in omega (arith, sheet-twice x n a)

-- so never in the room that the header gives
pub never-eighteen : (x : List ℕ) (r : ℕ) → room_for (length x) ≤ r → (p e : ℕ) → answer x r ≢ refused 18 p e
unfolding room_for
never-eighteen x r h = twice-suffices x r (omega arith)

-- nor in 262,140 bytes, whatever the text: that is the header's room for 65,535 bytes, and rule 1 refuses a longer text
pub any-text : (x : List ℕ) (r : ℕ) → 262140 ≤ r → (p e : ℕ) → answer x r ≢ refused 18 p e
any-text x r h p e z = let ((n, a), k) = too_long x r z in omega (arith, (accepted-clean x n a).short, sheet-twice x n a)

-- ---- the factor is near: each `0,` of a boundary makes four bytes of the sheet

zeros : ℕ → List ℕ
zeros zero = []
zeros (suc k) = ascii "0," ++ zeros k

-- a text whose one boundary has k zeros and another
dense : ℕ → List ℕ
dense k =
    ascii "{\"type\":\"CityJSON\",\"version\":\"2.0\",\"transform\":{\"scale\":[1,1,1],\"translate\":[0,0,0]},\"CityObjects\":{\"a\":{\"type\":\"Road\","
    ++ (ascii "\"geometry\":[{\"type\":\"MultiPoint\",\"lod\":\"1\",\"boundaries\":[" ++ (zeros k ++ ascii "0]}]}},\"vertices\":[[0,0,0]]}"))

dense-length : length (dense 200) ≡ 604
unfolding dense zeros ascii
dense-length = refl

-- the header's room suffices
dense-laid : lays (dense 200) (room_for 604) ≡ laid 929 1
unfolding lays dense zeros room_for
dense-laid = refl

-- one and a half times the text does not
dense-refused : lays (dense 200) 906 ≡ refused 18 0 0
unfolding lays dense zeros
dense-refused = refl
