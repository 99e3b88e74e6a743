-- Words that the definitions are written with. Every one of them computes on closed arguments.
use Rattle.std.specs.Prelude.{ℕ, suc, ◌+◌, ◌-◌, Bool, true, false, ◌&&◌, ◌||◌, List, [], ◌∷◌, ◌++◌, leb, length, take, drop, replicate}
use Rattle.std.proofs.Math.Option.{Option, none, some}

-- a where the test holds, else b
abbrev pub pick : {A : Type 0} → Bool → A → A → A
pick true a b = a
pick false a b = b

-- is there one
abbrev pub is_some : {A : Type 0} → Option A → Bool
is_some none = false
is_some (some a) = true

-- does some element pass; does every element pass
abbrev pub any_of : {A : Type 0} → (A → Bool) → List A → Bool
any_of p [] = false
any_of p (x ∷ xs) = p x || any_of p xs

abbrev pub all_of : {A : Type 0} → (A → Bool) → List A → Bool
all_of p [] = true
all_of p (x ∷ xs) = p x && all_of p xs

-- how many elements pass
abbrev pub count_where : {A : Type 0} → (A → Bool) → List A → ℕ
count_where p [] = 0
count_where p (x ∷ xs) = pick (p x) (suc (count_where p xs)) (count_where p xs)

-- the elements that pass, in order
abbrev pub keep_where : {A : Type 0} → (A → Bool) → List A → List A
keep_where p [] = []
keep_where p (x ∷ xs) = pick (p x) (x ∷ keep_where p xs) (keep_where p xs)

-- the elements at the front that pass; the list from the first that does not
abbrev pub front_while : {A : Type 0} → (A → Bool) → List A → List A
front_while p [] = []
front_while p (x ∷ xs) = pick (p x) (x ∷ front_while p xs) []

abbrev pub after_while : {A : Type 0} → (A → Bool) → List A → List A
after_while p [] = []
after_while p (x ∷ xs) = pick (p x) (after_while p xs) (x ∷ xs)

-- what f gives of each element, one after the other
abbrev pub flat_map : {A B : Type 0} → (A → List B) → List A → List B
flat_map f [] = []
flat_map f (x ∷ xs) = f x ++ flat_map f xs

-- is the number from lo to hi
abbrev pub within : ℕ → ℕ → ℕ → Bool
within lo hi n = leb lo n && leb n hi

-- What an array and a count of it hold: its first `n` places. Places beyond the count mean nothing,
-- and a count beyond the array counts blanks, so that the list is always as long as the count.
abbrev pub held : {A : Type 0} → A → ℕ → List A → List A
held blank n l = take n l ++ replicate (n - length l) blank

-- a buffer with the bytes at a place
abbrev pub splice : List ℕ → ℕ → List ℕ → List ℕ
splice buffer place bytes = take place buffer ++ bytes ++ drop (place + length bytes) buffer
