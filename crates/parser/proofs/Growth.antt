-- Values and containers: what holds for every stack that the levels left allow, and the words that are written.
use mathlib.Core.Path.{◌≡◌, refl, sym, ◌∙◌}
use mathlib.Core.Bool.{Bool, true, false}
use mathlib.Core.List.{List, [], ◌∷◌}
use Prim.Native.Nat.{ℕ, ◌+◌, ◌-◌, ◌*◌, ◌≤◌, ◌<◌}
use native.Mathlib.Nat.{add-zero}
use native.Mathlib.Omega.{arith}
use lib.ListN.{length, get_or}
use lib.Dec.{T, leb}
use borrow.Author.Tests.{leb-true, leb-false}
use Rattle.json_text.specs.Tree.{Json, Items, ◌◂◌, Members, with, Name}
use Rattle.json_text.specs.Tree as tree
use Rattle.json_text.specs.Machine.{Frame, array, object, Mode, step, go, dead, ending, finish, bad, read, is_blank}
use Rattle.json_text.specs.Machine.Mode.{want, first, name0, name1, got}
use Rattle.json_text.specs.Table.{size, sizes, widths, Sub, arr, obj, Subs, nil, Fields, last}
use Rattle.json_text.specs.Says.{from, Stays, Skips, blanks, Plain, Scalar, Digits}
use Rattle.parser.specs.Says.{Walk, unread_of, opener, closer, start, Entered, Fits, Wrote, Atomic, Ready, Opened, Read, Told, Named, Names, Membered, Member, Atom, Then, Other, Neither, Begins}
use Rattle.json_text.specs.Parse.{Tells}
use Rattle.json_text.specs.Laws.{sizes-◂, widths-with, subs-◂, fields-with, same-subs, same-fields, same-quoted}
use Rattle.json_text.specs.Steps.{open_array, open-object, deep-array, deep-object, first-close, first_else, name0-close, name0-else, array-comma, array-close, array-no, object-comma, object-close, object-no, got-end}
use Rattle.std.specs.Prelude.{Some, Ok, Err}
use Rattle.json_text.specs.declared.BadByte.{BadByte}
use Rattle.json_text.specs.declared.Unread.TheVariants as unread
use Rattle.parser.specs.declared.Kind.{Kind}
use Rattle.parser.specs.declared.Kind.TheVariants.{Array, Object}
use Rattle.parser.specs.declared.Stop.{Stop}
use Rattle.parser.specs.declared.Stop.TheVariants.{Bad, Deep}
use Rattle.parser.specs.declared.Taken.{Taken}
use Rattle.json_text.proofs.Moves.{at-end, moves, dies, deepens, alike, short, stays-none}
use Rattle.scalars.proofs.Leaves.{words_of}
use Rattle.parser.proofs.Nodes.{atom-fits}

-- what the call told of a value that was read
pub told-read : {x t₀ t : List ℕ} {m : Mode} {at levels most n : ℕ} {v : Taken} → Told x t₀ t m at levels most n (Ok v) → Read x t₀ t m at levels most n v.end v.free
unfolding Told
told-read h = h

-- what is told at one state is told at a state that comes to it
told-from : (x t₀ t : List ℕ) (m m' : Mode) (at at' levels levels' most most' n : ℕ) (r : Walk)
    → ((ks : List Frame) → length ks + levels ≡ most → from x m ks at ≡ from x m' ks at')
    → ((i : ℕ) → i + levels ≡ most → i + levels' ≡ most') → at ≤ at' → levels + most' ≤ levels' + most
    → Told x t₀ t m' at' levels' most' n r → Told x t₀ t m at levels most n r
unfolding Told
told-from x t₀ t m m' at at' levels levels' most most' n (Ok v) f g l d h =
    record {
      value = h.value;
      stands = h.stands;
      ends = h.ends;
      goes = λ ks z. f ks z ∙ h.goes ks (g (length ks) z);
      more = omega (arith, h.more);
      inside = h.inside;
      fits = omega (arith, h.fits);
      long = h.long;
      below = h.below;
      above = h.above;
    }
told-from x t₀ t m m' at at' levels levels' most most' n (Err (Bad q)) f g l d h = λ ks z. f ks z ∙ h ks (g (length ks) z)
told-from x t₀ t m m' at at' levels levels' most most' n (Err (Deep q)) f g l d h = λ ks z. f ks z ∙ h ks (g (length ks) z)

-- room for a node, whatever levels are left
pub ready-node : {x t : List ℕ} {at levels n : ℕ} → Ready x t at levels 32 n → Ready x t at 0 32 n
ready-node r = record { texts = r.texts; words = r.words; high = r.high; most32 = omega arith; fits = omega (arith, r.fits) }

-- a value that holds no other, after the blanks before it
leaf-read : {x t₀ t : List ℕ} {at i levels n e j : ℕ} → Stays blanks x at i → Ready x t₀ at levels 32 n → Atomic x t₀ t i n e j → Read x t₀ t want at levels 32 n e j
leaf-read {t} {n} k g h =
    let f = h.leaf in
    let w = h.wrote in
    record {
      value = f.value;
      stands = f.stands t n (rw h.width w.placed);
      ends = rw f.width h.width;
      goes = λ ks z. k.same want tt ks ∙ f.goes ks;
      more = omega (arith, k.low, f.more);
      inside = f.inside;
      fits = omega (arith, g.fits, k.low, f.more, h.width);
      long = w.long;
      below = w.below;
      above = λ y z. w.above y (omega (arith, h.width));
    }

-- an element that `digits_end` found
module _ {x t₀ : List ℕ} {at levels n e : ℕ} (d : Digits x at (Some e)) (g : Ready x t₀ at levels 32 n) where
  pub digits-fit : Fits t₀ n at e (n + 3)
  unfolding Scalar
  digits-fit = atom-fits x at d.leaf (ready-node g)

  pub digits-read : (t : List ℕ) → Wrote t₀ t n at e (n + 3) → Told x t₀ t want at levels 32 n (Ok (record { end = e; free = n + 3 }))
  unfolding Told
  digits-read t w =
      let a : Atomic x t₀ t at n e (n + 3) = record { leaf = d.leaf; wrote = w; width = refl } in
      leaf-read (stays-none blanks x at g.high) g a

-- a value that holds no other, where no blank stands before it
pub item-atom : {x : List ℕ} (t₀ t : List ℕ) {at levels n : ℕ} (r : Walk) → Ready x t₀ at levels 32 n → Atom x t₀ t at n r → Told x t₀ t want at levels 32 n r
unfolding Told Atom
item-atom {x} t₀ t {at} (Ok v) g h = leaf-read (stays-none blanks x at g.high) g h
item-atom t₀ t (Err (Bad q)) g h = λ ks z. h ks
item-atom t₀ t (Err (Deep q)) g h = λ ks z. h ks

-- a value, after the blanks before it
module _ {x : List ℕ} {at i : ℕ} (k : Skips blanks is_blank x at i) where
  pub value_out : (t₀ t : List ℕ) (levels n : ℕ) (b : BadByte) → length x ≤ i → b.at ≡ i → Told x t₀ t want at levels 32 n (Err (Bad b.at))
  unfolding Told
  value_out t₀ t levels n b l e = λ ks z. rw e (k.stays.same want tt ks ∙ short x want ks i refl l)

  pub value-atom : (t₀ t : List ℕ) (levels n : ℕ) (r : Walk) → Ready x t₀ at levels 32 n → Atom x t₀ t i n r → Told x t₀ t want at levels 32 n r
  unfolding Told Atom
  value-atom t₀ t levels n (Ok v) g h = leaf-read k.stays g h
  value-atom t₀ t levels n (Err (Bad q)) g h = λ ks z. k.stays.same want tt ks ∙ h ks
  value-atom t₀ t levels n (Err (Deep q)) g h = λ ks z. k.stays.same want tt ks ∙ h ks

  pub atom-asks : (t : List ℕ) (levels n : ℕ) → i < length x → (get_or x i 0 ≡ 91 → ⊥) → (get_or x i 0 ≡ 123 → ⊥) → Ready x t at levels 32 n → (Plain x i) × (Ready x t i 0 32 n)
  atom-asks t levels n l a o r =
      let p : Plain x i = record { there = l; no-blank = k.stop l; no-array = a; no-object = o } in
      (p, record { texts = r.texts; words = r.words; high = omega arith; most32 = omega arith; fits = omega (arith, r.fits, k.stays.low) })

  module _ (t₀ : List ℕ) (levels n : ℕ) (l : i < length x) where
    pub value-deep-array : (t : List ℕ) → get_or x i 0 ≡ 91 → levels ≡ 0 → Told x t₀ t want at levels 32 n (Err (Deep i))
    unfolding Told
    value-deep-array t b e = λ ks z. k.stays.same want tt ks ∙ deepens x want ks i l (deep-array 32 x i _ b ks (omega arith))

    pub value-deep-object : (t : List ℕ) → get_or x i 0 ≡ 123 → levels ≡ 0 → Told x t₀ t want at levels 32 n (Err (Deep i))
    unfolding Told
    value-deep-object t b e = λ ks z. k.stays.same want tt ks ∙ deepens x want ks i l (deep-object 32 x i _ b ks (omega arith))

    pub opens : (b : ℕ) → get_or x i 0 ≡ b → (levels ≡ 0 → ⊥) → Ready x t₀ at levels 32 n → Opened b x t₀ i (levels - 1) n
    opens b e z r =
        let f = r.fits in
        let lo = k.stays.low in
        let some : 0 < levels = omega arith in
        let g : Ready x t₀ i (levels - 1) 31 n = record { texts = r.texts; words = r.words; high = omega arith; most32 = omega arith; fits = omega arith } in
        record { ready = g; there = l; byte = e }

    pub value-array : (t : List ℕ) (r : Walk) → get_or x i 0 ≡ 91 → (levels ≡ 0 → ⊥) → Told x t₀ t (first i) (i + 1) (levels - 1) 31 n r → Told x t₀ t want at levels 32 n r
    value-array t r b z h =
        let lo = k.stays.low in
        told-from x t₀ t want (first i) at (i + 1) levels (levels - 1) 32 31 n r (λ ks e. k.stays.same want tt ks ∙ moves x want ks i (first i) ks l (open_array 32 x i _ b ks (omega arith)))
        (λ j e. omega arith) (omega arith) (omega arith) h

    pub value-object : (t : List ℕ) (r : Walk) → get_or x i 0 ≡ 123 → (levels ≡ 0 → ⊥) → Told x t₀ t (name0 i) (i + 1) (levels - 1) 31 n r → Told x t₀ t want at levels 32 n r
    value-object t r b z h =
        let lo = k.stays.low in
        told-from x t₀ t want (name0 i) at (i + 1) levels (levels - 1) 32 31 n r (λ ks e. k.stays.same want tt ks ∙ moves x want ks i (name0 i) ks l (open-object 32 x i _ b ks (omega arith)))
        (λ j e. omega arith) (omega arith) (omega arith) h

-- Inside a container that the byte b at the offset at opened: from the mode m after it, the machine comes to the mode m' at i, with f of the stack open;
-- k is the first free word, with slack s; the words before the container's, and from k on, are as they were in t₀
pub record Level (b : ℕ) (m : Mode) (x t₀ t : List ℕ) (at levels n i k : ℕ) (m' : Mode) (f : List Frame → List Frame) (s : ℕ) : Type 0 where
  pub opened : Opened b x t₀ at levels n
  pub past : at < i
  pub high : i ≤ length x
  pub after : n + 3 ≤ k
  pub fits : 2 * k + 3 * levels ≤ 3 * i + s
  pub long : length t ≡ length t₀
  pub below : (j : ℕ) → j < n → get_or t j 0 ≡ get_or t₀ j 0
  pub above : (j : ℕ) → k ≤ j → get_or t j 0 ≡ get_or t₀ j 0
  pub goes : (ks : List Frame) → length ks + levels ≡ 31 → from x m ks (at + 1) ≡ from x m' (f ks) i

module _ {b : ℕ} {x t₀ : List ℕ} {at levels n i : ℕ} (o : Opened b x t₀ at levels n) (k : Skips blanks is_blank x (at + 1) i) where
  -- a container's first byte that is no blank
  pub enters : (m : Mode) → T (blanks m) → Level b m x t₀ t₀ at levels n i (n + 3) m (λ ks. ks) 96
  enters m h =
      let r = o.ready in
      record {
        opened = o;
        past = omega (arith, k.stays.low);
        high = k.stays.high;
        after = omega arith;
        fits = omega (arith, r.fits, k.stays.low);
        long = refl;
        below = λ j l. refl;
        above = λ j l. refl;
        goes = λ ks z. k.stays.same m h ks;
      }

module _ {b : ℕ} {m : Mode} {x t₀ t : List ℕ} {at levels n i k : ℕ} {m' : Mode} {f : List Frame → List Frame} {s : ℕ} (l : Level b m x t₀ t at levels n i k m' f s) where
  level_out : (t' : List ℕ) → length x ≤ i → ((ks : List Frame) → finish 32 x m' (f ks) i ≡ bad i) → Told x t₀ t' m (at + 1) levels 31 n (Err (Bad i))
  unfolding Told
  level_out t' h e = λ ks z. l.goes ks z ∙ at-end x m' (f ks) i h ∙ e ks

  level-dies : (t' : List ℕ) → i < length x → ((ks : List Frame) → step 32 x m' (f ks) i (get_or x i 0) ≡ dead) → Told x t₀ t' m (at + 1) levels 31 n (Err (Bad i))
  unfolding Told
  level-dies t' h e = λ ks z. l.goes ks z ∙ dies x m' (f ks) i h (e ks)

  level-blank : {j : ℕ} → T (blanks m') → Skips blanks is_blank x i j → Level b m x t₀ t at levels n j k m' f s
  level-blank h q = record {
    opened = l.opened;
    past = omega (arith, l.past, q.stays.low);
    high = q.stays.high;
    after = l.after;
    fits = omega (arith, l.fits, q.stays.low);
    long = l.long;
    below = l.below;
    above = l.above;
    goes = λ ks z. l.goes ks z ∙ q.stays.same m' h (f ks);
  }

  level-looks : (m'' : Mode) (g : List Frame → List Frame) → i < length x → ((ks : List Frame) → step 32 x m' (f ks) i (get_or x i 0) ≡ step 32 x m'' (g ks) i (get_or x i 0))
      → Level b m x t₀ t at levels n i k m'' g s
  level-looks m'' g h e = record {
    opened = l.opened;
    past = l.past;
    high = l.high;
    after = l.after;
    fits = l.fits;
    long = l.long;
    below = l.below;
    above = l.above;
    goes = λ ks z. l.goes ks z ∙ alike x m' (f ks) i m'' (g ks) h (e ks);
  }

  level-ready : s ≤ 96 → Ready x t i levels 32 k
  level-ready h = let r = l.opened.ready in record { texts = r.texts; words = omega (arith, r.words, l.long); high = l.high; most32 = omega arith; fits = omega (arith, l.fits) }

  level-fits : s ≤ 99 → i < length x → Fits t n at (i + 1) k
  level-fits e h =
      let r = l.opened.ready in
      let z = l.opened.there in
      record { room = omega (arith, r.words, l.long, l.fits, l.after); start = omega (arith, r.texts); end = omega (arith, r.texts); next = omega (arith, r.texts, l.fits) }

  level-closes : {t' : List ℕ} {v : Json} → s ≤ 99 → i < length x → ((ks : List Frame) → step 32 x m' (f ks) i (get_or x i 0) ≡ go (got v) ks) → Wrote t t' n at (i + 1) k → Sub x t' n v → n + size v ≡ k
      → Told x t₀ t' m (at + 1) levels 31 n (Ok (record { end = i + 1; free = k }))
  unfolding Told
  level-closes {t'} {v} d h e w u q = record {
    value = v;
    stands = u;
    ends = q;
    goes = λ ks z. l.goes ks z ∙ moves x m' (f ks) i (got v) ks h (e ks);
    more = omega (arith, l.past);
    inside = omega arith;
    fits = omega (arith, l.fits);
    long = w.long ∙ l.long;
    below = λ j z. w.below j z ∙ l.below j z;
    above = λ j z. w.above j (omega (arith, l.after)) ∙ l.above j z;
  }

  level-byte : (m'' : Mode) (g : List Frame → List Frame) → s ≤ 99 → i < length x → ((ks : List Frame) → step 32 x m' (f ks) i (get_or x i 0) ≡ go m'' (g ks))
      → Level b m x t₀ t at levels n (i + 1) k m'' g 96
  level-byte m'' g d h e = record {
    opened = l.opened;
    past = omega (arith, l.past);
    high = omega arith;
    after = l.after;
    fits = omega (arith, l.fits);
    long = l.long;
    below = l.below;
    above = l.above;
    goes = λ ks z. l.goes ks z ∙ moves x m' (f ks) i m'' (g ks) h (e ks);
  }

-- a value inside
module _ {b : ℕ} {m : Mode} {x t₀ t₁ : List ℕ} {at levels n i k : ℕ} {f : List Frame → List Frame} (t₂ : List ℕ) (l : Level b m x t₀ t₁ at levels n i k want f 96)
    (o : (ks : List Frame) → length (f ks) ≡ length ks + 1) where
  level-value : {e k' : ℕ} (r : Read x t₁ t₂ want i levels 32 k e k') → Level b m x t₀ t₂ at levels n e k' (got r.value) f 99
  level-value r = record {
    opened = l.opened;
    past = omega (arith, l.past, r.more);
    high = r.inside;
    after = omega (arith, l.after, r.ends);
    fits = omega (arith, r.fits);
    long = r.long ∙ l.long;
    below = λ j z. r.below j (omega (arith, l.after)) ∙ l.below j z;
    above = λ j z. r.above j z ∙ l.above j (omega (arith, r.ends));
    goes = λ ks z. l.goes ks z ∙ r.goes (f ks) (omega (arith, o ks));
  }

-- the text ends at an offset, or goes on there
ends-or : (x : List ℕ) (i : ℕ) {P : Type 0} → (length x ≤ i → P) → (i < length x → P) → P
ends-or x i {P} f g = by (leb (length x) i) refl
  where
    by : (b : Bool) → leb (length x) i ≡ b → P
    by true e = f (leb-true (length x) i e)
    by false e = g (leb-false (length x) i e)

-- a mode in which no text ends, whatever is open
short-stack : (x : List ℕ) (m : Mode) → ((i : ℕ) → ending 32 x m i ≡ bad i) → (ks : List Frame) (i : ℕ) → finish 32 x m ks i ≡ bad i
short-stack x m f [] i = f i
short-stack x m f (k ∷ ks) i = refl

-- the start of a container
module _ {b : ℕ} {x t₀ : List ℕ} {at levels n : ℕ} (m : Mode) (y : T (blanks m)) (o : Opened b x t₀ at levels n) where
  container-out : {e : ℕ} → ((ks : List Frame) (i : ℕ) → finish 32 x m ks i ≡ bad i) → (t : List ℕ) → Skips blanks is_blank x (at + 1) e → length x ≤ e
      → Told x t₀ t m (at + 1) levels 31 n (Err (Bad e))
  container-out f t k l = level_out (enters o k m y) t l (λ ks. f ks _)

  container-fits : {c e : ℕ} → Then x (at + 1) c e → Fits t₀ n at (e + 1) (n + 3)
  container-fits h = level-fits (enters o h.skips m y) (omega arith) h.there

-- an array: its next element is to come at i; or its last one was read, and the byte at i is no blank
pub record Elements (x t₀ t : List ℕ) (at levels n i k : ℕ) : Type 0 where
  pub elements : Items
  pub level : Level 91 (first at) x t₀ t at levels n i k want (λ ks. array at elements ∷ ks) 96
  pub stand : Subs x t (n + 3) elements
  pub ends : (n + 3) + sizes elements ≡ k

pub record Added (x t₀ t : List ℕ) (at levels n i k : ℕ) : Type 0 where
  pub elements : Items
  pub value : Json
  pub level : Level 91 (first at) x t₀ t at levels n i k (got value) (λ ks. array at elements ∷ ks) 99
  pub stand : Subs x t (n + 3) (elements ◂ value)
  pub ends : (n + 3) + sizes (elements ◂ value) ≡ k

module _ {x t₀ : List ℕ} {at levels n e : ℕ} (o : Opened 91 x t₀ at levels n) where
  array-out : (t : List ℕ) → Skips blanks is_blank x (at + 1) e → length x ≤ e → Told x t₀ t (first at) (at + 1) levels 31 n (Err (Bad e))
  array-out = container-out (first at) tt o (short-stack x (first at) (λ i. refl))

  array-empty-fits : Then x (at + 1) 93 e → Fits t₀ n at (e + 1) (n + 3)
  array-empty-fits = container-fits (first at) tt o

  array-empty : (t : List ℕ) → Then x (at + 1) 93 e → Wrote t₀ t n at (e + 1) (n + 3) → Told x t₀ t (first at) (at + 1) levels 31 n (Ok (record { end = e + 1; free = n + 3 }))
  unfolding size sizes
  array-empty t h w =
      let l = h.skips.stays.low in
      level-closes (enters o h.skips (first at) tt) (omega arith) h.there (first-close 32 x e _ h.byte at) w
      (arr (words_of w.placed (omega arith) (omega (arith, h.there)) o.byte) nil)
      refl

  array-starts : Other x (at + 1) 93 e → Elements x t₀ t₀ at levels n e (n + 3)
  unfolding sizes
  array-starts h =
      record {
        elements = tree.no_items;
        level = level-looks (enters o h.skips (first at) tt) want (λ ks. array at tree.no_items ∷ ks) h.there (first_else 32 x e _ (h.skips.stop h.there) h.byte at);
        stand = nil;
        ends = add-zero (n + 3);
      }

module _ {x t₀ t₁ : List ℕ} {at levels n i k : ℕ} (g : Elements x t₀ t₁ at levels n i k) where
  element-asks : Ready x t₁ i levels 32 k
  element-asks = level-ready g.level (omega arith)

  array-stops : (t₂ : List ℕ) (s : Stop) → Told x t₁ t₂ want i levels 32 k (Err s) → Told x t₀ t₂ (first at) (at + 1) levels 31 n (Err s)
  unfolding Told
  array-stops t₂ (Bad p) h = λ ks z. g.level.goes ks z ∙ h (array at g.elements ∷ ks) (omega arith)
  array-stops t₂ (Deep p) h = λ ks z. g.level.goes ks z ∙ h (array at g.elements ∷ ks) (omega arith)

  module _ {e k' : ℕ} (t₂ : List ℕ) (v : Read x t₁ t₂ want i levels 32 k e k') where
    module _ {j : ℕ} (s : Skips blanks is_blank x e j) where
      array-turn : Added x t₀ t₂ at levels n j k'
      array-turn =
          record {
            elements = g.elements;
            value = v.value;
            level = level-blank (level-value t₂ g.level (λ ks. omega arith) v) tt s;
            stand = subs-◂ (same-subs v.long g.stand (λ y a z. v.below y (omega (arith, g.ends)))) (rw g.ends v.stands);
            ends = omega (arith, sizes-◂ g.elements v.value, g.ends, v.ends);
          }

    array-less : {j : ℕ} → Then x e 44 j → length x - (j + 1) < length x - i
    array-less f = omega (arith, v.more, f.skips.stays.low, f.there)

    array-wrong : {j : ℕ} → Neither x e 93 j → Told x t₀ t₂ (first at) (at + 1) levels 31 n (Err (Bad j))
    array-wrong {j} f =
        let l = (array-turn f.skips).level in
        ends-or x j (λ u. level_out l t₂ u (λ ks. refl)) (λ u. level-dies l t₂ u (λ ks. array-no 32 x j _ _ _ _ ks (f.skips.stop u) (f.wrong u).0 (f.wrong u).1))

    array-more : {j : ℕ} → Then x e 44 j → Elements x t₀ t₂ at levels n (j + 1) k'
    array-more {j} f =
        let b = array-turn f.skips in
        record {
          elements = b.elements ◂ b.value;
          level = level-byte b.level want (λ ks. array at (b.elements ◂ b.value) ∷ ks) (omega arith) f.there (λ ks. array-comma 32 x j _ _ _ _ ks f.byte);
          stand = b.stand;
          ends = b.ends;
        }

    module _ {j : ℕ} (f : Then x e 93 j) where
      array-fits : Fits t₂ n at (j + 1) k'
      array-fits = level-fits (array-turn f.skips).level (omega arith) f.there

      array-closes : (t' : List ℕ) → Wrote t₂ t' n at (j + 1) k' → Told x t₀ t' (first at) (at + 1) levels 31 n (Ok (record { end = j + 1; free = k' }))
      unfolding size
      array-closes t' w =
          let b = array-turn f.skips in
          let l = b.level in
          let q : n + (3 + sizes (b.elements ◂ b.value)) ≡ k' = omega (arith, b.ends) in
          level-closes l (omega arith) f.there (λ ks. array-close 32 x j _ _ _ _ ks f.byte) w
          (arr (rw q (words_of w.placed (omega (arith, l.past)) (omega (arith, f.there)) l.opened.byte)) (same-subs w.long b.stand (λ y a z. w.above y (omega arith))))
          q

-- an object: a name is to come at i; or its last member was read, and the byte at i is no blank
pub record Fielded (x t₀ t : List ℕ) (at levels n i k : ℕ) : Type 0 where
  pub members : Members
  pub level : Level 123 (name0 at) x t₀ t at levels n i k (name1 at members) (λ ks. ks) 96
  pub stand : Fields x t (n + 3) members
  pub ends : (n + 3) + widths members ≡ k

pub record Held (x t₀ t : List ℕ) (at levels n i k : ℕ) : Type 0 where
  pub members : Members
  pub key : Name
  pub value : Json
  pub level : Level 123 (name0 at) x t₀ t at levels n i k (got value) (λ ks. object at members key ∷ ks) 99
  pub stand : Fields x t (n + 3) (with members key value)
  pub ends : (n + 3) + widths (with members key value) ≡ k

module _ {x t₀ : List ℕ} {at levels n e : ℕ} (o : Opened 123 x t₀ at levels n) where
  object-out : (t : List ℕ) → Skips blanks is_blank x (at + 1) e → length x ≤ e → Told x t₀ t (name0 at) (at + 1) levels 31 n (Err (Bad e))
  object-out = container-out (name0 at) tt o (short-stack x (name0 at) (λ i. refl))

  object-empty-fits : Then x (at + 1) 125 e → Fits t₀ n at (e + 1) (n + 3)
  object-empty-fits = container-fits (name0 at) tt o

  object-empty : (t : List ℕ) → Then x (at + 1) 125 e → Wrote t₀ t n at (e + 1) (n + 3) → Told x t₀ t (name0 at) (at + 1) levels 31 n (Ok (record { end = e + 1; free = n + 3 }))
  unfolding size widths
  object-empty t h w =
      let l = h.skips.stays.low in
      level-closes (enters o h.skips (name0 at) tt) (omega arith) h.there (name0-close 32 x e _ h.byte at) w
      (obj (words_of w.placed (omega arith) (omega (arith, h.there)) o.byte) last)
      refl

  object-starts : Other x (at + 1) 125 e → Fielded x t₀ t₀ at levels n e (n + 3)
  unfolding widths
  object-starts h =
      record {
        members = tree.empty;
        level = level-looks (enters o h.skips (name0 at) tt) (name1 at tree.empty) (λ ks. ks) h.there (name0-else 32 x e _ (h.skips.stop h.there) h.byte at);
        stand = last;
        ends = add-zero (n + 3);
      }

-- a member: its name and then its value
module _ {x t₀ : List ℕ} (t₁ : List ℕ) {at levels n : ℕ} (g : Ready x t₀ at levels 32 n) where
  pub member-bad : (t : List ℕ) (b : BadByte) → Names x t₀ t₁ at n (Err b) → Member x t₀ t at levels n (Err (Bad b.at))
  unfolding Member Names
  member-bad t b f = λ p ms ks z. f p ms ks

  module _ (v : ℕ) (h : Names x t₀ t₁ at n (Ok v)) where
    called : Named x t₀ t₁ at n v
    unfolding Names
    called = h

    pub member-asks : Ready x t₁ v levels 32 (n + 3)
    member-asks = let w = called in record { texts = g.texts; words = omega (arith, g.words, w.long); high = w.inside; most32 = omega arith; fits = omega (arith, g.fits, w.more) }

    pub member-read : (t₂ : List ℕ) (r : Walk) → Told x t₁ t₂ want v levels 32 (n + 3) r → Member x t₀ t₂ at levels n r
    unfolding Told Member
    member-read t₂ (Ok y) u =
        let w = called in
        record {
          key = w.key;
          value = u.value;
          quoted = same-quoted u.long (λ y a z. u.below y (omega arith)) w.stands;
          stands = u.stands;
          ends = omega (arith, u.ends);
          goes = λ p ms ks z. w.goes p ms ks ∙ u.goes (object p ms w.key ∷ ks) (omega arith);
          more = omega (arith, w.more, u.more);
          inside = u.inside;
          fits = omega (arith, u.fits);
          long = u.long ∙ w.long;
          below = λ y z. u.below y (omega arith) ∙ w.below y z;
          above = λ y z. u.above y z ∙ w.above y (omega (arith, u.ends));
        }
    member-read t₂ (Err (Bad b)) u = λ p ms ks z. called.goes p ms ks ∙ u (object p ms called.key ∷ ks) (omega arith)
    member-read t₂ (Err (Deep b)) u = λ p ms ks z. called.goes p ms ks ∙ u (object p ms called.key ∷ ks) (omega arith)

member_of : {x t₀ t : List ℕ} {at levels n : ℕ} {v : Taken} → Member x t₀ t at levels n (Ok v) → Membered x t₀ t at levels n v.end v.free
unfolding Member
member_of h = h

module _ {x t₀ t₁ : List ℕ} {at levels n i k : ℕ} (g : Fielded x t₀ t₁ at levels n i k) where
  name-asks : Ready x t₁ i levels 32 k
  name-asks = level-ready g.level (omega arith)

  object-stops : (t₂ : List ℕ) (s : Stop) → Member x t₁ t₂ i levels k (Err s) → Told x t₀ t₂ (name0 at) (at + 1) levels 31 n (Err s)
  unfolding Told Member
  object-stops t₂ (Bad p) h = λ ks z. g.level.goes ks z ∙ h at g.members ks z
  object-stops t₂ (Deep p) h = λ ks z. g.level.goes ks z ∙ h at g.members ks z

  module _ {e k' : ℕ} (t₂ : List ℕ) (v : Membered x t₁ t₂ i levels k e k') where
    module _ {j : ℕ} (s : Skips blanks is_blank x e j) where
      object-turn : Held x t₀ t₂ at levels n j k'
      object-turn =
          let l = g.level in
          let y : Level 123 (name0 at) x t₀ t₂ at levels n e k' (got v.value) (λ ks. object at g.members v.key ∷ ks) 99 = record {
            opened = l.opened;
            past = omega (arith, l.past, v.more);
            high = v.inside;
            after = omega (arith, l.after, v.ends);
            fits = omega (arith, v.fits);
            long = v.long ∙ l.long;
            below = λ j z. v.below j (omega (arith, l.after)) ∙ l.below j z;
            above = λ j z. v.above j z ∙ l.above j (omega (arith, v.ends));
            goes = λ ks z. l.goes ks z ∙ v.goes at g.members ks z;
          } in
          record {
            members = g.members;
            key = v.key;
            value = v.value;
            level = level-blank y tt s;
            stand = fields-with (same-fields v.long g.stand (λ y a z. v.below y (omega (arith, g.ends)))) g.ends v.quoted v.stands;
            ends = omega (arith, widths-with g.members v.key v.value, g.ends, v.ends);
          }

    object-less : {j : ℕ} → Then x e 44 j → length x - (j + 1) < length x - i
    object-less f = omega (arith, v.more, f.skips.stays.low, f.there)

    object-wrong : {j : ℕ} → Neither x e 125 j → Told x t₀ t₂ (name0 at) (at + 1) levels 31 n (Err (Bad j))
    object-wrong {j} f =
        let l = (object-turn f.skips).level in
        ends-or x j (λ u. level_out l t₂ u (λ ks. refl)) (λ u. level-dies l t₂ u (λ ks. object-no 32 x j _ _ _ _ _ ks (f.skips.stop u) (f.wrong u).0 (f.wrong u).1))

    object-more : {j : ℕ} → Then x e 44 j → Fielded x t₀ t₂ at levels n (j + 1) k'
    object-more {j} f =
        let b = object-turn f.skips in
        record {
          members = with b.members b.key b.value;
          level = level-byte b.level (name1 at (with b.members b.key b.value)) (λ ks. ks) (omega arith) f.there (λ ks. object-comma 32 x j _ _ _ _ _ ks f.byte);
          stand = b.stand;
          ends = b.ends;
        }

    module _ {j : ℕ} (f : Then x e 125 j) where
      object-fits : Fits t₂ n at (j + 1) k'
      object-fits = level-fits (object-turn f.skips).level (omega arith) f.there

      object-closes : (t' : List ℕ) → Wrote t₂ t' n at (j + 1) k' → Told x t₀ t' (name0 at) (at + 1) levels 31 n (Ok (record { end = j + 1; free = k' }))
      unfolding size
      object-closes t' w =
          let b = object-turn f.skips in
          let l = b.level in
          let q : n + (3 + widths (with b.members b.key b.value)) ≡ k' = omega (arith, b.ends) in
          level-closes l (omega arith) f.there (λ ks. object-close 32 x j _ _ _ _ _ ks f.byte) w
          (obj (rw q (words_of w.placed (omega (arith, l.past)) (omega (arith, f.there)) l.opened.byte)) (same-fields w.long b.stand (λ y a z. w.above y (omega arith))))
          q

-- a container of either kind, where what it holds next is to come at i
abbrev pub Inside : Kind → (x t₀ t : List ℕ) (at levels n i k : ℕ) → Type 0
Inside Array x t₀ t at levels n i k = Elements x t₀ t at levels n i k
Inside Object x t₀ t at levels n i k = Fielded x t₀ t at levels n i k

-- its start
pub starts-out : (k : Kind) (x t₀ t : List ℕ) (at levels n c : ℕ) (b : BadByte) → c ≡ closer k → Opened (opener k) x t₀ at levels n → Begins x (at + 1) c (Err b)
    → Told x t₀ t (start k at) (at + 1) levels 31 n (Err (Bad b.at))
starts-out Array x t₀ t at levels n c b e o h = array-out o t h.0 h.1
starts-out Object x t₀ t at levels n c b e o h = object-out o t h.0 h.1

pub empty-fits : (k : Kind) (x t₀ : List ℕ) (at levels n c : ℕ) {e : ℕ} → c ≡ closer k → Opened (opener k) x t₀ at levels n → Then x (at + 1) c e → Fits t₀ n at (e + 1) (n + 3)
empty-fits Array x t₀ at levels n c q o h = array-empty-fits o (rw q at h)
empty-fits Object x t₀ at levels n c q o h = object-empty-fits o (rw q at h)

pub empty-closes : (k : Kind) (x t₀ t : List ℕ) (at levels n c : ℕ) {e : ℕ} → c ≡ closer k → Opened (opener k) x t₀ at levels n → Then x (at + 1) c e → Wrote t₀ t n at (e + 1) (n + 3)
    → Told x t₀ t (start k at) (at + 1) levels 31 n (Ok (record { end = e + 1; free = n + 3 }))
empty-closes Array x t₀ t at levels n c q o h w = array-empty o t (rw q at h) w
empty-closes Object x t₀ t at levels n c q o h w = object-empty o t (rw q at h) w

pub starts : (k : Kind) (x t₀ : List ℕ) (at levels n c : ℕ) {e : ℕ} → c ≡ closer k → Opened (opener k) x t₀ at levels n → Other x (at + 1) c e → Inside k x t₀ t₀ at levels n e (n + 3)
starts Array x t₀ at levels n c q o h = array-starts o (rw q at h)
starts Object x t₀ at levels n c q o h = object-starts o (rw q at h)

-- what it holds
module _ (x t₀ t₁ : List ℕ) (at levels n i m : ℕ) where
  pub entry-asks : (k : Kind) → Inside k x t₀ t₁ at levels n i m → Ready x t₁ i levels 32 m
  entry-asks Array g = element-asks g
  entry-asks Object g = name-asks g

  pub entry-stops : (k : Kind) (t₂ : List ℕ) (s : Stop) → Inside k x t₀ t₁ at levels n i m → Entered k x t₁ t₂ i levels m (Err s) → Told x t₀ t₂ (start k at) (at + 1) levels 31 n (Err s)
  entry-stops Array t₂ s g h = array-stops g t₂ s h
  entry-stops Object t₂ s g h = object-stops g t₂ s h

  module _ (t₂ : List ℕ) (v : Taken) where
    pub entry-high : (k : Kind) → Entered k x t₁ t₂ i levels m (Ok v) → v.end ≤ length x
    entry-high Array h = (told-read h).inside
    entry-high Object h = (member_of h).inside

    module _ (j c : ℕ) where
      pub turn-less : (k : Kind) → Inside k x t₀ t₁ at levels n i m → Entered k x t₁ t₂ i levels m (Ok v) → Then x v.end 44 j → length x - (j + 1) < length x - i
      turn-less Array g h f = array-less g t₂ (told-read h) f
      turn-less Object g h f = object-less g t₂ (member_of h) f

      pub turn-wrong : (k : Kind) → c ≡ closer k → Inside k x t₀ t₁ at levels n i m → Entered k x t₁ t₂ i levels m (Ok v) → Neither x v.end c j
          → Told x t₀ t₂ (start k at) (at + 1) levels 31 n (Err (Bad j))
      turn-wrong Array e g h f = array-wrong g t₂ (told-read h) (rw e at f)
      turn-wrong Object e g h f = object-wrong g t₂ (member_of h) (rw e at f)

      pub turn-more : (k : Kind) → Inside k x t₀ t₁ at levels n i m → Entered k x t₁ t₂ i levels m (Ok v) → Then x v.end 44 j → Inside k x t₀ t₂ at levels n (j + 1) v.free
      turn-more Array g h f = array-more g t₂ (told-read h) f
      turn-more Object g h f = object-more g t₂ (member_of h) f

      pub turn-fits : (k : Kind) → c ≡ closer k → Inside k x t₀ t₁ at levels n i m → Entered k x t₁ t₂ i levels m (Ok v) → Then x v.end c j → Fits t₂ n at (j + 1) v.free
      turn-fits Array e g h f = array-fits g t₂ (told-read h) (rw e at f)
      turn-fits Object e g h f = object-fits g t₂ (member_of h) (rw e at f)

      pub turn-closes : (k : Kind) (t : List ℕ) → c ≡ closer k → Inside k x t₀ t₁ at levels n i m → Entered k x t₁ t₂ i levels m (Ok v) → Then x v.end c j → Wrote t₂ t n at (j + 1) v.free
          → Told x t₀ t (start k at) (at + 1) levels 31 n (Ok (record { end = j + 1; free = v.free }))
      turn-closes Array t e g h f w = array-closes g t₂ (told-read h) (rw e at f) t w
      turn-closes Object t e g h f w = object-closes g t₂ (member_of h) (rw e at f) t w

-- the whole text
from_start : (x : List ℕ) → from x want [] 0 ≡ read x
unfolding from read
from_start x = refl

module _ (x t₀ : List ℕ) (short : length x ≤ 65535) (room : 3 * length x + 99 ≤ 2 * length t₀) where
  pub parse-asks : Ready x t₀ 0 32 32 0
  parse-asks = record { texts = short; words = room; high = omega arith; most32 = omega arith; fits = omega arith }

  pub parse-stops : (t : List ℕ) (s : Stop) → Told x t₀ t want 0 32 32 0 (Err s) → Tells x t₀ t (Err (unread_of s))
  unfolding Tells Told
  parse-stops t (Bad q) f = (short, sym (from_start x) ∙ f [] refl, room)
  parse-stops t (Deep q) f = (short, sym (from_start x) ∙ f [] refl, room)

  module _ (t : List ℕ) (r : Taken) (h : Told x t₀ t want 0 32 32 0 (Ok r)) (j : ℕ) (k : Skips blanks is_blank x r.end j) where
    pub parse-trailing : j < length x → Tells x t₀ t (Err (unread.Bad j))
    unfolding Tells
    parse-trailing l =
        let v = told-read h in
        (short, sym (from_start x) ∙ v.goes [] refl ∙ k.stays.same (got v.value) tt [] ∙ dies x (got v.value) [] j l (got-end 32 x j _ (k.stop l) v.value), room)

    pub parse-whole : length x ≤ j → Tells x t₀ t (Ok r.free)
    unfolding Tells
    parse-whole l =
        let v = told-read h in
        record {
          value = v.value;
          short = short;
          room = room;
          reads = sym (from_start x) ∙ v.goes [] refl ∙ k.stays.same (got v.value) tt [] ∙ at-end x (got v.value) [] j l;
          stands = v.stands;
          ends = omega (arith, v.ends);
          long = v.long;
          rest = v.above;
        }

pub parse-long : (x t : List ℕ) → 65535 < length x → Tells x t t (Err unread.Long)
unfolding Tells
parse-long x t h = (h, refl)

pub parse-short : (x t : List ℕ) → length x ≤ 65535 → 2 * length t < 3 * length x + 99 → Tells x t t (Err unread.Short)
unfolding Tells
parse-short x t h l = (h, l, refl)
