-- What holds of all elements of a list.
use mathlib.Core.List.{List, [], ◌∷◌, ◌++◌, map, Memᴰ}
use Rattle.model.specs.Code.{concat_map, All}

-- it holds of one of them
pub one_of : {A : Type 0} (P : A → Type 0) {a : A} {l : List A} → Memᴰ a l → All P l → P a
one_of P (Memᴰ.head e) h = rw e h.0
one_of P (Memᴰ.tail m) h = one_of P m h.1

-- what holds always
pub all-always : {A : Type 0} {P : A → Type 0} → ((a : A) → P a) → (l : List A) → All P l
all-always f [] = tt
all-always f (a ∷ l) = (f a, all-always f l)

-- what follows from it, and what follows from two
pub all_map : {A : Type 0} {P Q : A → Type 0} → ((a : A) → P a → Q a) → (l : List A) → All P l → All Q l
all_map f [] g = tt
all_map f (a ∷ l) g = (f a g.0, all_map f l g.1)

pub all_both : {A : Type 0} (P Q R : A → Type 0) → ((a : A) → P a → Q a → R a) → (l : List A) → All P l → All Q l → All R l
all_both P Q R f [] g h = tt
all_both P Q R f (a ∷ l) g h = (f a g.0 h.0, all_both P Q R f l g.1 h.1)

-- two lists, one after the other
pub all_append : {A : Type 0} (P : A → Type 0) (l m : List A) → All P l → All P m → All P (l ++ m)
all_append P [] m g h = h
all_append P (a ∷ l) m g h = (g.0, all_append P l m g.1 h)

pub all-parts : {A : Type 0} (P : A → Type 0) (l m : List A) → All P (l ++ m) → All P l × All P m
all-parts P [] m h = (tt, h)
all-parts P (a ∷ l) m h = let (g, k) = all-parts P l m h.1 in ((h.0, g), k)

-- the lists that a function makes of the elements, one after the other
pub all-each : {A B : Type 0} (P : B → Type 0) (f : A → List B) → ((a : A) → All P (f a)) → (l : List A) → All P (concat_map f l)
unfolding concat_map
all-each P f g [] = tt
all-each P f g (a ∷ l) = all_append P (f a) (concat_map f l) (g a) (all-each P f g l)

-- what a function makes of each
pub all_of_map : {A B : Type 0} (P : B → Type 0) (f : A → B) (l : List A) → All (λ a. P (f a)) l → All P (map f l)
all_of_map P f [] g = tt
all_of_map P f (a ∷ l) g = (g.0, all_of_map P f l g.1)

pub all-in-map : {A B : Type 0} (P : B → Type 0) (f : A → B) (l : List A) → All P (map f l) → All (λ a. P (f a)) l
all-in-map P f [] g = tt
all-in-map P f (a ∷ l) g = (g.0, all-in-map P f l g.1)
