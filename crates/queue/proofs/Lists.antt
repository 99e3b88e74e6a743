-- Laws of the definitions that rules are written with: tests over lists, places, one element made anew.
use Rattle.std.proofs.Common.{◌≡◌, ℕ, zero, suc, ◌+◌, ◌-◌, ◌<◌, ◌≤◌, Bool, true, false, not, ◌&&◌, ◌||◌, List, [], ◌∷◌, ◌++◌, map, length}
use Rattle.std.proofs.Common.{take, sym, refl, ap, ◌∙◌, zero-add, arith}
use native.Mathlib.Nat.{sub-zero, zero-sub}
use mathlib.Core.Bool.{false≢true}
use mathlib.Core.List.{head-eq_of_cons-eq, tail-eq_of_cons-eq}
use mathlib.Core.Option.{Option, none, some}
use lib.ListN.{get_elem?}
use Rattle.number.proofs.Both.{and_left, and_right}
use Rattle.number.specs.Basics.{pick, any_of, all_of, count_where, front_while, after_while}
use Rattle.number.specs.Basics.{is_some}
use Rattle.queue.specs.Contents.{update_at, first_place}

-- ---- Bool

pub false-true : {A : Type 0} → false ≡ true → A
false-true e = absurd (false≢true e)

pub and_both : {a b : Bool} → a ≡ true → b ≡ true → a && b ≡ true
and_both {a} {b} h k = rw (h, k)

pub or_left : (a b : Bool) → a ≡ true → a || b ≡ true
or_left a b h = rw h

pub or_right : (a b : Bool) → b ≡ true → a || b ≡ true
or_right true b h = refl
or_right false b h = h

-- "where a holds, so does b"
abbrev pub implies : Bool → Bool → Bool
implies a b = not a || b

pub implied : (a b : Bool) → implies a b ≡ true → a ≡ true → b ≡ true
implied true b h e = h
implied false b h e = false-true e

pub is_none : {A : Type 0} (o : Option A) → not (is_some o) ≡ true → o ≡ none
is_none none h = refl
is_none (some x) h = false-true h

module _ {A : Type 0} where
  -- ---- all, any, count

  pub all_append : (p : A → Bool) (xs ys : List A) → all_of p (xs ++ ys) ≡ all_of p xs && all_of p ys
  all_append p [] ys = refl
  all_append p (x ∷ xs) ys = rw (all_append p xs ys) (sym (and-is-assoc (p x) (all_of p xs) (all_of p ys)))
    where
      and-is-assoc : (a b c : Bool) → a && b && c ≡ a && (b && c)
      and-is-assoc true b c = refl
      and-is-assoc false b c = refl

  pub all_left : (p : A → Bool) (xs ys : List A) → all_of p (xs ++ ys) ≡ true → all_of p xs ≡ true
  all_left p xs ys h = and_left (all_of p xs) (all_of p ys) (rw (all_append p xs ys) at h)

  pub all_right : (p : A → Bool) (xs ys : List A) → all_of p (xs ++ ys) ≡ true → all_of p ys ≡ true
  all_right p xs ys h = and_right (all_of p xs) (all_of p ys) (rw (all_append p xs ys) at h)

  pub all_join : (p : A → Bool) (xs ys : List A) → all_of p xs ≡ true → all_of p ys ≡ true → all_of p (xs ++ ys) ≡ true
  all_join p xs ys h k = rw (all_append p xs ys, h, k)

  -- one element replaced
  pub all-replace : (p : A → Bool) (xs ys : List A) (x y : A) → all_of p (xs ++ x ∷ ys) ≡ true → p y ≡ true → all_of p (xs ++ y ∷ ys) ≡ true
  all-replace p xs ys x y h k = all_join p xs (y ∷ ys) (all_left p xs (x ∷ ys) h) (and_both k (and_right (p x) (all_of p ys) (all_right p xs (x ∷ ys) h)))

  -- the element in the middle
  pub all_middle : (p : A → Bool) (xs ys : List A) (x : A) → all_of p (xs ++ x ∷ ys) ≡ true → p x ≡ true
  all_middle p xs ys x h = and_left (p x) (all_of p ys) (all_right p xs (x ∷ ys) h)

  pub all-weaken : (p q : A → Bool) → ((x : A) → p x ≡ true → q x ≡ true) → (xs : List A) → all_of p xs ≡ true → all_of q xs ≡ true
  all-weaken p q w [] h = refl
  all-weaken p q w (x ∷ xs) h = and_both (w x (and_left (p x) (all_of p xs) h)) (all-weaken p q w xs (and_right (p x) (all_of p xs) h))

  -- two tests give a third
  pub all-weaken₂ : (p q r : A → Bool) → ((x : A) → p x ≡ true → q x ≡ true → r x ≡ true) → (xs : List A) → all_of p xs ≡ true
      → all_of q xs ≡ true
      → all_of r xs ≡ true
  all-weaken₂ p q r w [] h k = refl
  all-weaken₂ p q r w (x ∷ xs) h k =
      and_both (w x (and_left (p x) (all_of p xs) h) (and_left (q x) (all_of q xs) k))
      (all-weaken₂ p q r w xs (and_right (p x) (all_of p xs) h) (and_right (q x) (all_of q xs) k))

  pub all_take : (p : A → Bool) (n : ℕ) (xs : List A) → all_of p xs ≡ true → all_of p (take n xs) ≡ true
  all_take p zero [] h = refl
  all_take p zero (x ∷ xs) h = refl
  all_take p (suc n) [] h = refl
  all_take p (suc n) (x ∷ xs) h = and_both (and_left (p x) (all_of p xs) h) (all_take p n xs (and_right (p x) (all_of p xs) h))

  pub all_map : {B : Type 0} (p : B → Bool) (q : A → Bool) (f : A → B) → ((x : A) → p (f x) ≡ q x) → (xs : List A)
      → all_of p (map f xs) ≡ all_of q xs
  all_map p q f e [] = refl
  all_map p q f e (x ∷ xs) = rw (e x, all_map p q f e xs)

  pub count-append : (p : A → Bool) (xs ys : List A) → count_where p (xs ++ ys) ≡ count_where p xs + count_where p ys
  count-append p [] ys = sym (zero-add (count_where p ys))
  count-append p (x ∷ xs) ys = go (p x) (count-append p xs ys)
    where
      go : (b : Bool) → count_where p (xs ++ ys) ≡ count_where p xs + count_where p ys
          → pick b (suc (count_where p (xs ++ ys))) (count_where p (xs ++ ys)) ≡ pick b (suc (count_where p xs)) (count_where p xs) + count_where p ys
      go true h = omega arith
      go false h = h

  -- ---- front_while, after_while

  pub all_front_while : (p : A → Bool) (xs : List A) → all_of p (front_while p xs) ≡ true
  all_front_while p [] = refl
  all_front_while p (x ∷ xs) = go (p x) refl (all_front_while p xs)
    where
      go : (b : Bool) → p x ≡ b → all_of p (front_while p xs) ≡ true → all_of p (pick b (x ∷ front_while p xs) []) ≡ true
      go true e h = and_both e h
      go false e h = refl

  pub after_while-map : {B : Type 0} (p : B → Bool) (q : A → Bool) (f : A → B) → ((x : A) → p (f x) ≡ q x) → (xs : List A)
      → after_while p (map f xs) ≡ map f (after_while q xs)
  after_while-map p q f e [] = refl
  after_while-map {B} p q f e (x ∷ xs) = rw (e x) (go (q x) (after_while-map p q f e xs))
    where
      go : (b : Bool) → after_while p (map f xs) ≡ map f (after_while q xs)
          → pick b (after_while p (map f xs)) (f x ∷ map f xs) ≡ map f (pick b (after_while q xs) (x ∷ xs))
      go true h = h
      go false h = refl

  pub length_front_while_map : {B : Type 0} (p : B → Bool) (q : A → Bool) (f : A → B) → ((x : A) → p (f x) ≡ q x) → (xs : List A)
      → length (front_while p (map f xs)) ≡ length (front_while q xs)
  length_front_while_map p q f e [] = refl
  length_front_while_map {B} p q f e (x ∷ xs) = rw (e x) (go (q x) (length_front_while_map p q f e xs))
    where
      go : (b : Bool) → length (front_while p (map f xs)) ≡ length (front_while q xs)
          → length (pick b (f x ∷ front_while p (map f xs)) []) ≡ length (pick b (x ∷ front_while q xs) [])
      go true h = ap suc h
      go false h = refl

  pub length-after_while : (p : A → Bool) (xs : List A) → length (after_while p xs) ≤ length xs
  length-after_while p [] = omega arith
  length-after_while p (x ∷ xs) = go (p x) (length-after_while p xs)
    where
      go : (b : Bool) → length (after_while p xs) ≤ length xs → length (pick b (after_while p xs) (x ∷ xs)) ≤ length (x ∷ xs)
      go true h = omega arith
      go false h = omega arith

  -- ---- places

  -- the front of two lists put together
  pub take-append : (n : ℕ) (xs ys : List A) → take n (xs ++ ys) ≡ take n xs ++ take (n - length xs) ys
  take-append n [] ys = rw (sub-zero n) (go n)
    where
      go : (k : ℕ) → take k ys ≡ take k [] ++ take k ys
      go zero = refl
      go (suc k) = refl
  take-append zero (x ∷ xs) ys = rw (zero-sub (suc (length xs))) (go ys)
    where
      go : (l : List A) → ◌≡◌ {A = List A} [] (take 0 l)
      go [] = refl
      go (y ∷ l) = refl
  take-append (suc n) (x ∷ xs) ys =
      let e : suc n - suc (length xs) ≡ n - length xs = omega arith in rw (e) (ap (λ (l : List A). x ∷ l) (take-append n xs ys))

  pub take-map : {B : Type 0} (f : A → B) (n : ℕ) (xs : List A) → take n (map f xs) ≡ map f (take n xs)
  take-map f zero [] = refl
  take-map f zero (x ∷ xs) = refl
  take-map f (suc n) [] = refl
  take-map {B} f (suc n) (x ∷ xs) = ap (λ (l : List B). f x ∷ l) (take-map f n xs)

  pub get_elem?-map : {B : Type 0} (f : A → B) (xs : List A) (i : ℕ) {y : B} → get_elem? (map f xs) i ≡ some y → (x : A) × (get_elem? xs i ≡ some x)
  get_elem?-map f [] i h = let e : false ≡ true = cc in false-true e
  get_elem?-map f (x ∷ xs) zero h = (x, refl)
  get_elem?-map f (x ∷ xs) (suc i) h = get_elem?-map f xs i h

  pub map_same : {B : Type 0} (f g : A → B) → ((x : A) → f x ≡ g x) → (xs : List A) → map f xs ≡ map g xs
  map_same f g e [] = refl
  map_same f g e (x ∷ xs) = rw (e x, map_same f g e xs)

  pub get_elem?_split : (xs : List A) (i : ℕ) {x : A} → get_elem? xs i ≡ some x
      → (before after : List A) × (xs ≡ before ++ x ∷ after) × (length before ≡ i)
  get_elem?_split [] i h = let e : false ≡ true = cc in false-true e
  get_elem?_split (y ∷ xs) zero {x} h = let e : y ≡ x = cc in ([], xs, rw e, refl)
  get_elem?_split (y ∷ xs) (suc i) h = let (b, a, e, l) = get_elem?_split xs i h in (y ∷ b, a, ap (λ (t : List A). y ∷ t) e, ap suc l)

  pub get_elem?-short : (xs : List A) (i : ℕ) {x : A} → get_elem? xs i ≡ some x → i < length xs
  get_elem?-short [] i h = let e : false ≡ true = cc in false-true e
  get_elem?-short (y ∷ xs) zero h = omega arith
  get_elem?-short (y ∷ xs) (suc i) h = let k : i < length xs = get_elem?-short xs i h in omega arith

  pub get_elem?_seam : (xs : List A) (x : A) (ys : List A) → get_elem? (xs ++ x ∷ ys) (length xs) ≡ some x
  get_elem?_seam [] x ys = refl
  get_elem?_seam (y ∷ xs) x ys = get_elem?_seam xs x ys

  pub update_at_seam : (f : A → A) (xs : List A) (x : A) (ys : List A) → update_at f (length xs) (xs ++ x ∷ ys) ≡ xs ++ f x ∷ ys
  update_at_seam f [] x ys = refl
  update_at_seam f (y ∷ xs) x ys = ap (λ (l : List A). y ∷ l) (update_at_seam f xs x ys)

  pub length-update_at : (f : A → A) (i : ℕ) (xs : List A) → length (update_at f i xs) ≡ length xs
  length-update_at f zero [] = refl
  length-update_at f (suc i) [] = refl
  length-update_at f zero (x ∷ xs) = refl
  length-update_at f (suc i) (x ∷ xs) = ap suc (length-update_at f i xs)

  -- an element at the first place passes, and those before it do not
  pub first_passes : (p : A → Bool) (xs : List A) {x : A} → get_elem? xs (first_place p xs) ≡ some x → p x ≡ true
  first_passes p [] h = let e : false ≡ true = cc in false-true e
  first_passes p (y ∷ xs) {x} h = go (p y) refl h (λ k. first_passes p xs k)
    where
      go : (b : Bool) → p y ≡ b → get_elem? (y ∷ xs) (pick b 0 (suc (first_place p xs))) ≡ some x
          → (get_elem? xs (first_place p xs) ≡ some x → p x ≡ true) → p x ≡ true
      go true e k rec = let same : y ≡ x = cc in (rw same at e)
      go false e k rec = rec k

  pub first-before : (p : A → Bool) (xs : List A) → all_of (λ x. not (p x)) (take (first_place p xs) xs) ≡ true
  first-before p [] = refl
  first-before p (y ∷ xs) = go (p y) refl (first-before p xs)
    where
      go : (b : Bool) → p y ≡ b → all_of (λ x. not (p x)) (take (first_place p xs) xs) ≡ true
          → all_of (λ x. not (p x)) (take (pick b 0 (suc (first_place p xs))) (y ∷ xs)) ≡ true
      go true e h = refl
      go false e h = and_both {a = not (p y)} (rw e) h

  pub any-first : (p : A → Bool) (xs : List A) → any_of p xs ≡ true → (x : A) × (get_elem? xs (first_place p xs) ≡ some x)
  any-first p [] h = false-true h
  any-first p (y ∷ xs) h = go (p y) h (λ k. any-first p xs k)
    where
      go : (b : Bool) → b || any_of p xs ≡ true → (any_of p xs ≡ true → (x : A) × (get_elem? xs (first_place p xs) ≡ some x))
          → (x : A) × (get_elem? (y ∷ xs) (pick b 0 (suc (first_place p xs))) ≡ some x)
      go true k rec = (y, refl)
      go false k rec = rec k

  -- where a list begins with elements that pass, one that does not pass stands behind them
  pub failing-behind : (p : A → Bool) (xs : List A) (y : A) (ys old live : List A) → xs ++ y ∷ ys ≡ old ++ live → all_of p old ≡ true
      → p y ≡ false
      → (near : List A) × (xs ≡ old ++ near)
  failing-behind p xs y ys [] live e h f = (xs, refl)
  failing-behind p [] y ys (o ∷ old) live e h f = let q : p o ≡ false = (rw (head-eq_of_cons-eq e) at f) in let z : false ≡ true = sym q
      ∙ and_left (p o) (all_of p old) h in false-true z
  failing-behind p (x ∷ xs) y ys (o ∷ old) live e h f =
      go (failing-behind p xs y ys old live (tail-eq_of_cons-eq e) (and_right (p o) (all_of p old) h) f) (head-eq_of_cons-eq e)
    where
      go : (near : List A) × (xs ≡ old ++ near) → x ≡ o → (near : List A) × (x ∷ xs ≡ o ∷ (old ++ near))
      go (near, k) q = (near, rw (q, k))
