-- How writers go one after the other, numbers in bytes, and a whole sheet.
use Rattle.std.specs.Prelude.{◌≡◌, refl, List, [], ◌∷◌, ◌++◌, ℕ, zero, suc, ◌+◌, ◌*◌, ◌-◌, ◌/◌, ◌%◌, ◌^◌, ◌≤◌, ◌<◌, length, drop, set, replicate, ℤ, pos, negsuc}
use Rattle.std.proofs.Common.{sym, ap, ◌∙◌, arith, zero-add, suc-add, mul_assoc, zero-mul, suc-mul, pow-suc, div-one, length-append, pow-add}
use Rattle.std.proofs.Math.Nat.{sub-zero, zero-sub, suc-sub-suc, pow-zero, pow-succ', div-div-eq-div-mul}
use Rattle.std.proofs.lemmas.List.{length-replicate, set_comm}
use Rattle.std.proofs.lemmas.List.Edits.{sets, sets-eq}
use Rattle.utf8.specs.Bytes.{le}
use Rattle.model.specs.Code.{signed, Holds}
use Rattle.model.specs.Model.{rec, lay_rec}
use Rattle.model.proofs.Weigh.{length-le, length-rec}
use Rattle.std.specs.Borrow.{MutBor}
use Rattle.std.specs.Fn.{Once}
use Rattle.writer.specs.Writes.{Writes, Skips, Closes, Recorded, twos}

-- ---- bytes set one after the other

sets-append : (d : List ℕ) (i : ℕ) (a b : List ℕ) → sets d i (a ++ b) ≡ sets (sets d i a) (i + length a) b
sets-append d i [] b = let z : i + 0 ≡ i = omega arith in rw z
sets-append d i (v ∷ a) b = let z : i + suc (length a) ≡ suc i + length a = omega arith in rw z (sets-append (set d i v) (suc i) a b)

-- a byte before the others may as well be set after them
set_before : (d : List ℕ) (i j v : ℕ) (ws : List ℕ) → j < i → set (sets d i ws) j v ≡ sets (set d j v) i ws
set_before d i j v [] h = refl
set_before d i j v (w ∷ ws) h = set_before (set d i w) (suc i) j v ws (omega arith) ∙ ap (λ l. sets l (suc i) ws) (set_comm d i j w v (λ e. omega arith))

sets-before : (d : List ℕ) (i j : ℕ) (vs ws : List ℕ) → j + length vs ≤ i → sets (sets d i ws) j vs ≡ sets (sets d j vs) i ws
sets-before d i j [] ws h = refl
sets-before d i j (v ∷ vs) ws h = ap (λ l. sets l (suc j) vs) (set_before d i j v ws (omega arith)) ∙ sets-before (set d j v) i (suc j) vs ws (omega arith)

-- ---- writers

-- nothing was to be written
pub nothing : (d : List ℕ) (to : ℕ) → Writes [] d d to to
nothing d to = let z : to + 0 ≡ to = omega arith in record { ends = rw z; onward = omega arith; room = refl; wrote = λ h k. refl }

-- one after the other
pub then : {a b d₀ d₁ d₂ : List ℕ} {to q r : ℕ} → Writes a d₀ d₁ to q → Writes b d₁ d₂ q r → Writes (a ++ b) d₀ d₂ to r
then {a} {b} {d₀} {d₁} {d₂} {to} {q} {r} f g =
    let l = length-append a b in
    record {
      ends = omega (arith, f.ends, g.ends);
      onward = omega (arith, f.onward, g.onward);
      room = g.room ∙ f.room;
      wrote = λ h k.
          let z : q ≡ to + length a = omega (arith, f.ends) in
          g.wrote (omega (arith, f.room)) (omega arith) ∙ rw (f.wrote (omega arith) (omega arith), z) (sym (sets-append d₀ to a b));
    }

-- the same bytes by another name
pub as_bytes : {a b d₀ d : List ℕ} {to r : ℕ} → a ≡ b → Writes a d₀ d to r → Writes b d₀ d to r
as_bytes e w = rw e at w

-- a number before bytes that stand there already
pub numbered : (n : ℕ) {at body end q : ℕ} {ws d₀ d₁ d₂ : List ℕ} → Skips 4 at body → Writes ws d₀ d₁ body end → Writes (le 4 n) d₁ d₂ at q
    → Writes (le 4 n ++ ws) d₀ d₂ at end
numbered n {at} {body} {end} {q} {ws} {d₀} {d₁} {d₂} s p w =
    let four = length-le 4 n in
    let all = length-append (le 4 n) ws in
    record {
      ends = omega (arith, s.ends, p.ends);
      onward = omega (arith, s.onward, p.onward);
      room = w.room ∙ p.room;
      wrote = λ fits low.
          let here : body ≡ at + length (le 4 n) = omega (arith, s.ends) in
          w.wrote (omega (arith, p.room)) (omega arith)
          ∙ ap (λ l. sets l at (le 4 n)) (p.wrote (omega arith) (omega arith))
          ∙ sets-before d₀ body at (le 4 n) ws (omega arith)
          ∙ ap (λ i. sets (sets d₀ at (le 4 n)) i ws) here
          ∙ sym (sets-append d₀ at (le 4 n) ws);
    }

-- a header before a payload that stands there already
pub headed : {kind at body end q r : ℕ} {d d₁ d₂ : List ℕ} → Skips 6 at body → body ≤ end
    → Writes (le 4 (end - body)) d d₁ at q → Writes (le 2 kind) d₁ d₂ q r → Closes kind at body end d d₂
unfolding lay_rec
headed {kind} {at} {body} {end} {q} {r} {d} {d₁} {d₂} s h f g = record {
  closes = λ payload d₀ p.
      let w = then f g in
      let header : List ℕ = le 4 (end - body) ++ le 2 kind in
      let six : length header ≡ 6 = omega (arith, length-append (le 4 (end - body)) (le 2 kind), length-le 4 (end - body), length-le 2 kind) in
      let all = length-rec kind payload in
      record {
        ends = omega (arith, s.ends, p.ends);
        onward = omega (arith, s.onward);
        room = w.room ∙ p.room;
        wrote = λ fits low.
            let here : body ≡ at + length header = omega (arith, s.ends) in
            let there : end - body ≡ length payload = omega (arith, p.ends) in
            w.wrote (omega (arith, p.room)) (omega arith)
            ∙ ap (λ l. sets l at header) (p.wrote (omega arith) (omega arith))
            ∙ sets-before d₀ body at header payload (omega arith)
            ∙ ap (λ i. sets (sets d₀ at header) i payload) here
            ∙ sym (sets-append d₀ at header payload)
            ∙ ap (λ n. sets d₀ at (le 4 n ++ le 2 kind ++ payload)) there;
      };
}

-- a record, by the bytes that its payload is
pub recorded_writes : {F : Type 0} {g : Once F (MutBor (List ℕ) × (ℕ × Unit {0})) (ℕ × (MutBor (List ℕ) × Unit {0}))} {h : F}
    {kind : ℕ} {ws d₀ d : List ℕ} {at r : ℕ} → Recorded g h kind d₀ d at r
    → ((p q : MutBor (List ℕ)) (body end : ℕ) → g.post h (p, (body, tt)) (end, (q, tt)) → Writes ws p.now q.now body end)
    → Writes (lay_rec (rec kind ws)) d₀ d at r
recorded_writes c w = rw c.was at (c.closes.closes _ _ (w c.before c.after c.body _ c.met))

-- ---- numbers in bytes

-- a number's low bytes, then those of what is left
pub le_split : (v w n : ℕ) → le (v + w) n ≡ le v n ++ le w (n / 256 ^ v)
unfolding le
le_split zero w n = rw (zero-add, pow-zero, div-one)
le_split (suc v) w n =
    let p : n / 256 / 256 ^ v ≡ n / 256 ^ suc v = rw (pow-succ', div-div-eq-div-mul) in
    rw (suc-add, ← p) (ap (λ l. n % 256 ∷ l) (le_split v w (n / 256)))

-- w bytes show a number modulo 256^w
le-round : (w n k : ℕ) → le w (n + k * 256 ^ w) ≡ le w n
unfolding le
le-round zero n k = refl
le-round (suc w) n k =
    let p : k * 256 ^ suc w ≡ k * 256 ^ w * 256 = rw (pow-suc, mul_assoc) in
    let low : (n + k * 256 ^ w * 256) % 256 ≡ n % 256 = omega arith in
    let high : (n + k * 256 ^ w * 256) / 256 ≡ n / 256 + k * 256 ^ w = omega arith in
    rw (p, low, high) (ap (λ l. n % 256 ∷ l) (le-round w (n / 256) k))

-- what lies n + 1 below k times m lies n + 1 below m, and k - 1 times m further on
turns : (t k m n : ℕ) → t ≡ k * m → 0 < t → suc n ≤ m → t - (n + 1) ≡ m - suc n + (k - 1) * m
turns t zero m n e h l = absurd (omega (arith, zero-mul m))
turns t (suc k) m n e h l = let z : suc k - 1 ≡ k = omega arith in rw z (omega (arith, suc-mul k m))

-- an integer in 64 bits, cut to fewer bytes that still hold it
pub wrote-signed : (w : ℕ) (z : ℤ) → w ≤ 8 → Holds w z → le w (twos z) ≡ signed w z
unfolding twos signed
wrote-signed w (pos n) h k = refl
wrote-signed w (negsuc n) h k =
    let e : 8 ≡ 8 - w + w = omega arith in
    let p : 2 ^ 64 ≡ 256 ^ (8 - w) * 256 ^ w = ap (λ i. 256 ^ i) e ∙ pow-add 256 (8 - w) w in
    rw (turns (2 ^ 64) (256 ^ (8 - w)) (256 ^ w) n p (omega arith) (omega arith)) (le-round w (256 ^ w - suc n) (256 ^ (8 - w) - 1))

-- ---- the whole sheet

drop-replicate : (n l a : ℕ) → drop n (replicate l a) ≡ replicate (l - n) a
drop-replicate zero l a = rw sub-zero
drop-replicate (suc n) zero a = rw zero-sub
drop-replicate (suc n) (suc l) a = rw suc-sub-suc (drop-replicate n l a)

-- a sheet of zeroes that was written from its start on
pub whole-sheet : (ws d : List ℕ) (l r : ℕ) → Writes ws (replicate l 0) d 0 r → length ws < 2 ^ 63
    → (r ≡ length ws) × (length ws ≤ l → d ≡ ws ++ replicate (l - length ws) 0)
whole-sheet ws d l r w h =
    let n = length-replicate {A = ℕ} l 0 in (
      omega (arith, w.ends),
      λ k. w.wrote (omega arith) (omega arith) ∙ sets-eq ws (replicate l 0) 0 (omega arith)
          ∙ rw (zero-add, drop-replicate),
    )
