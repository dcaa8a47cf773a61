-- What the parts of the parser say of the machine and of the table.
use Rattle.std.specs.Prelude.{ℕ, ◌+◌, ◌*◌, ◌^◌, ◌≤◌, ◌<◌, ◌≡◌, List, ◌∷◌, length, get_or, Result, Ok, Err}
use Rattle.json_text.specs.Tree.{Json, Members, Name}
use Rattle.json_text.specs.Machine.{Frame, Mode, bad, too_deep, object, is_blank}
use Rattle.json_text.specs.Machine.Mode.{want, first, name0, name1, colon, got}
use Rattle.json_text.specs.Table.{size, Sub, Quoted}
use Rattle.json_text.specs.Says.{Scan, from, Skips, blanks, Placed, Leaf}
use Rattle.json_text.specs.declared.BadByte.{BadByte}
use Rattle.json_text.specs.declared.Unread.{Unread}
use Rattle.json_text.specs.declared.Unread.TheVariants as unread
use Rattle.parser.specs.declared.Kind.{Kind}
use Rattle.parser.specs.declared.Kind.TheVariants.{Array, Object}
use Rattle.parser.specs.declared.Next.{Next}
use Rattle.parser.specs.declared.Next.TheVariants.{Closed, More}
use Rattle.parser.specs.declared.Stop.{Stop}
use Rattle.parser.specs.declared.Stop.TheVariants.{Bad, Deep}
use Rattle.parser.specs.declared.Taken.{Taken}

-- what a value is found to be: what it takes, or why none is read
abbrev pub Walk : Type 0
Walk = Result Taken Stop

-- the same reason, as that of a text
abbrev pub unread_of : Stop → Unread
unread_of (Bad q) = unread.Bad q
unread_of (Deep q) = unread.Deep q

-- the bytes that open and close a container, and the mode after the first
abbrev pub opener : Kind → ℕ
opener Array = 91
opener Object = 123

abbrev pub closer : Kind → ℕ
closer Array = 93
closer Object = 125

abbrev pub start : Kind → ℕ → Mode
start Array at = first at
start Object at = name0 at

-- what `put_node` asks: room for three words at i, and numbers that fit a word
pub record Fits (t : List ℕ) (i p e n : ℕ) : Type 0 where
  pub room : i + 2 < length t
  pub start : p < 2 ^ 32
  pub end : e < 2 ^ 32
  pub next : n < 2 ^ 32

-- what `put_node` tells: the three words are written, and the others are as they were
pub record Wrote (t₀ t : List ℕ) (i p e n : ℕ) : Type 0 where
  pub placed : Placed t i p e n
  pub long : length t ≡ length t₀
  pub below : (k : ℕ) → k < i → get_or t k 0 ≡ get_or t₀ k 0
  pub above : (k : ℕ) → i + 3 ≤ k → get_or t k 0 ≡ get_or t₀ k 0

-- the byte at the offset is a quote
pub record Quote (x : List ℕ) (at : ℕ) : Type 0 where
  pub there : at < length x
  pub byte : get_or x at 0 ≡ 34

-- such a value, and its node is written at n, up to the word k
pub record Atomic (x t₀ t : List ℕ) (at n e k : ℕ) : Type 0 where
  pub leaf : Leaf x at e
  pub wrote : Wrote t₀ t n at e k
  pub width : n + 3 ≡ k

-- what `atom` tells
unfoldable pub Atom : List ℕ → List ℕ → List ℕ → ℕ → ℕ → Walk → Type 0
Atom x t₀ t at n (Ok v) = Atomic x t₀ t at n v.end v.free
Atom x t₀ t at n (Err (Bad q)) = (ks : List Frame) → from x want ks at ≡ bad q
Atom x t₀ t at n (Err (Deep q)) = (ks : List Frame) → from x want ks at ≡ too_deep q

-- Room for what is to be read at the offset at, where levels more containers may be opened, most in all, and n is the first free word:
-- twice the words are at most three for each byte before and three for each container that is open
pub record Ready (x t : List ℕ) (at levels most n : ℕ) : Type 0 where
  pub texts : length x ≤ 65535
  pub words : 3 * length x + 99 ≤ 2 * length t
  pub high : at ≤ length x
  pub most32 : most ≤ 32
  pub fits : 2 * n + 3 * levels ≤ 3 * at + 3 * most

-- a container is opened by the byte b at the offset at, and levels more may be opened in it
pub record Opened (b : ℕ) (x t : List ℕ) (at levels n : ℕ) : Type 0 where
  pub ready : Ready x t at levels 31 n
  pub there : at < length x
  pub byte : get_or x at 0 ≡ b

-- From the mode m at the offset at, with levels left of most, the machine reads a value to before e, whose words stand in the table t from n up to n';
-- the others are as they were in t₀
pub record Read (x t₀ t : List ℕ) (m : Mode) (at levels most n e n' : ℕ) : Type 0 where
  pub value : Json
  pub stands : Sub x t n value
  pub ends : n + size value ≡ n'
  pub goes : (ks : List Frame) → length ks + levels ≡ most → from x m ks at ≡ from x (got value) ks e
  pub more : at < e
  pub inside : e ≤ length x
  pub fits : 2 * n' + 3 * levels ≤ 3 * e + 3 * most + 3
  pub long : length t ≡ length t₀
  pub below : (k : ℕ) → k < n → get_or t k 0 ≡ get_or t₀ k 0
  pub above : (k : ℕ) → n' ≤ k → get_or t k 0 ≡ get_or t₀ k 0

-- what `value` and `container` tell: a value was read; or the machine stops at a place, or finds a level too many there
unfoldable pub Told : List ℕ → List ℕ → List ℕ → Mode → ℕ → ℕ → ℕ → ℕ → Walk → Type 0
Told x t₀ t m at levels most n (Ok v) = Read x t₀ t m at levels most n v.end v.free
Told x t₀ t m at levels most n (Err (Bad q)) = (ks : List Frame) → length ks + levels ≡ most → from x m ks at ≡ bad q
Told x t₀ t m at levels most n (Err (Deep q)) = (ks : List Frame) → length ks + levels ≡ most → from x m ks at ≡ too_deep q

-- the colon after a name, up to before e
pub record Coloned (x : List ℕ) (at e : ℕ) : Type 0 where
  pub goes : (p : ℕ) (ms : Members) (key : Name) (ks : List Frame) → from x (colon p ms key) ks at ≡ from x want (object p ms key ∷ ks) e
  pub more : at < e
  pub inside : e ≤ length x

-- what `colon` tells
unfoldable pub Colons : List ℕ → ℕ → Scan → Type 0
Colons x at (Ok e) = Coloned x at e
Colons x at (Err b) = (p : ℕ) (ms : Members) (key : Name) (ks : List Frame) → from x (colon p ms key) ks at ≡ bad b.at

-- the name of a member and its colon, up to before e; its three words stand in the table from n on
pub record Named (x t₀ t : List ℕ) (at n e : ℕ) : Type 0 where
  pub key : Name
  pub stands : Quoted x t n key.place key.end key.raw
  pub goes : (p : ℕ) (ms : Members) (ks : List Frame) → from x (name1 p ms) ks at ≡ from x want (object p ms key ∷ ks) e
  pub more : at + 3 ≤ e
  pub inside : e ≤ length x
  pub long : length t ≡ length t₀
  pub below : (k : ℕ) → k < n → get_or t k 0 ≡ get_or t₀ k 0
  pub above : (k : ℕ) → n + 3 ≤ k → get_or t k 0 ≡ get_or t₀ k 0

-- what `member_name` tells
unfoldable pub Names : List ℕ → List ℕ → List ℕ → ℕ → ℕ → Scan → Type 0
Names x t₀ t at n (Ok e) = Named x t₀ t at n e
Names x t₀ t at n (Err b) = (p : ℕ) (ms : Members) (ks : List Frame) → from x (name1 p ms) ks at ≡ bad b.at

-- after the blanks from at on stands, at i, the byte b
pub record Then (x : List ℕ) (at b i : ℕ) : Type 0 where
  pub skips : Skips blanks is_blank x at i
  pub there : i < length x
  pub byte : get_or x i 0 ≡ b

-- after the blanks from at on stands, at i, another byte than c
pub record Other (x : List ℕ) (at c i : ℕ) : Type 0 where
  pub skips : Skips blanks is_blank x at i
  pub there : i < length x
  pub byte : get_or x i 0 ≡ c → ⊥

-- the blanks from at on end at q, where the text does, or where neither c nor a comma stands
pub record Neither (x : List ℕ) (at c q : ℕ) : Type 0 where
  pub skips : Skips blanks is_blank x at q
  pub wrong : q < length x → (get_or x q 0 ≡ 44 → ⊥) × (get_or x q 0 ≡ c → ⊥)

-- what `opening` tells: the byte c, or another, is the first that is no blank, or there is none
abbrev pub Begins : List ℕ → ℕ → ℕ → Result Next BadByte → Type 0
Begins x at c (Ok (Closed i)) = Then x at c i
Begins x at c (Ok (More i)) = Other x at c i
Begins x at c (Err b) = (Skips blanks is_blank x at b.at) × (length x ≤ b.at)

-- what `after` tells: the byte c, or a comma, is the first that is no blank, or neither is
abbrev pub Follows : List ℕ → ℕ → ℕ → Result Next BadByte → Type 0
Follows x at c (Ok (Closed i)) = Then x at c i
Follows x at c (Ok (More i)) = Then x at 44 i
Follows x at c (Err b) = Neither x at c b.at

-- a member, up to before e: its name, whose words stand in the table from n on, and its value, whose words follow, up to k
pub record Membered (x t₀ t : List ℕ) (at levels n e k : ℕ) : Type 0 where
  pub key : Name
  pub value : Json
  pub quoted : Quoted x t n key.place key.end key.raw
  pub stands : Sub x t (n + 3) value
  pub ends : n + (3 + size value) ≡ k
  pub goes : (p : ℕ) (ms : Members) (ks : List Frame) → length ks + levels ≡ 31 → from x (name1 p ms) ks at ≡ from x (got value) (object p ms key ∷ ks) e
  pub more : at < e
  pub inside : e ≤ length x
  pub fits : 2 * k + 3 * levels ≤ 3 * e + 99
  pub long : length t ≡ length t₀
  pub below : (j : ℕ) → j < n → get_or t j 0 ≡ get_or t₀ j 0
  pub above : (j : ℕ) → k ≤ j → get_or t j 0 ≡ get_or t₀ j 0

-- what `member` tells
unfoldable pub Member : List ℕ → List ℕ → List ℕ → ℕ → ℕ → ℕ → Walk → Type 0
Member x t₀ t at levels n (Ok v) = Membered x t₀ t at levels n v.end v.free
Member x t₀ t at levels n (Err (Bad q)) = (p : ℕ) (ms : Members) (ks : List Frame) → length ks + levels ≡ 31 → from x (name1 p ms) ks at ≡ bad q
Member x t₀ t at levels n (Err (Deep q)) = (p : ℕ) (ms : Members) (ks : List Frame) → length ks + levels ≡ 31 → from x (name1 p ms) ks at ≡ too_deep q

-- what `entry` tells
abbrev pub Entered : Kind → List ℕ → List ℕ → List ℕ → ℕ → ℕ → ℕ → Walk → Type 0
Entered Array x t₀ t at levels n r = Told x t₀ t want at levels 32 n r
Entered Object x t₀ t at levels n r = Member x t₀ t at levels n r
