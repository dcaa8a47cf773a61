-- What a writer tells of a lent sheet. A place in the sheet is a cursor, which may lie past the sheet's end:
-- what does not fit is counted, and lay clears the sheet then.
use Rattle.std.specs.Prelude.{◌≡◌, List, ℕ, ◌+◌, ◌-◌, ◌^◌, ◌≤◌, ◌<◌, min, length, ℤ, pos, negsuc}
use Rattle.std.specs.Borrow.{MutBor}
use Rattle.std.specs.Fn.{Once}
use Rattle.std.proofs.lemmas.List.Edits.{sets}
use Rattle.model.specs.Model.{lay_rec, rec}

-- The bytes ws were to be written from `to` on, and the cursor is r afterwards. Cursors from 2^63 on are all alike.
-- The sheet was d₀ and is d: if the bytes fit, they were set there, one after the other. If they do not, a part of them may have been set:
-- d is then free, but for its length.
pub record Writes (ws d₀ d : List ℕ) (to r : ℕ) : Type 0 where
  pub ends : min r (2 ^ 63) ≡ min (to + length ws) (2 ^ 63)
  pub onward : to ≤ r
  pub room : length d ≡ length d₀
  pub wrote : to + length ws ≤ length d₀ → to + length ws < 2 ^ 63 → d ≡ sets d₀ to ws

-- the same of a number or a string, of which nothing is set if it does not fit
pub record Stores (ws d₀ d : List ℕ) (to r : ℕ) : Type 0 where
  pub writes : Writes ws d₀ d to r
  pub kept : length d₀ < to + length ws → d ≡ d₀

-- the cursor r is n past `to`
pub record Skips (n to r : ℕ) : Type 0 where
  pub ends : min r (2 ^ 63) ≡ min (to + n) (2 ^ 63)
  pub onward : to ≤ r

-- A header was written at `at`, six bytes before `body`: whatever payload was written from `body` to `end`, there is now a record of that kind
-- from `at` to `end`.
pub record Closes (kind at body end : ℕ) (d d' : List ℕ) : Type 0 where
  pub closes : (payload d₀ : List ℕ) → Writes payload d₀ d body end → Writes (lay_rec (rec kind payload)) d₀ d' at end

-- A function that writes a payload: it is handed the sheet and a cursor, and gives the sheet back with the cursor after what it wrote.
module _ {F : Type 0} (g : Once F (MutBor (List ℕ) × (ℕ × Unit {0})) (ℕ × (MutBor (List ℕ) × Unit {0}))) (f : F) where
  -- its cursor goes on
  pub record GoesOn : Type 0 where
    pub onward : (p q : MutBor (List ℕ)) (body end : ℕ) → g.post f (p, (body, tt)) (end, (q, tt)) → body ≤ end

  -- a record of that kind was to be written from `at` on, with what f writes as its payload, and the cursor is r afterwards
  pub record Recorded (kind : ℕ) (d₀ d : List ℕ) (at r : ℕ) : Type 0 where
    pub body : ℕ
    pub header : Skips 6 at body
    pub before : MutBor (List ℕ)
    pub was : before.now ≡ d₀
    pub after : MutBor (List ℕ)
    pub met : g.post f (before, (body, tt)) (r, (after, tt))
    pub closes : Closes kind at body r after.now d

-- an integer in 64 bits, in two's complement
unfoldable pub twos : ℤ → ℕ
twos (pos n) = n
twos (negsuc n) = 2 ^ 64 - (n + 1)
