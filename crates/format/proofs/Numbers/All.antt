-- What holds of every element of a list, and of its parts. Every law is by induction on the list; `Below` is the case that numbers, bytes and digits need.
use mathlib.Core.Path.{◌≡◌, refl}
use mathlib.Core.List.{List, [], ◌∷◌, map}
use Prim.Native.Nat.{ℕ, zero, suc, ◌<◌, suc-le-suc}
use native.Mathlib.Nat.{zero-lt-suc}
use lib.ListN.{length, get_or, take, drop}

-- P holds of every element
pub data All {A : Type 0} (P : A → Type 0) : List A → Type 0 where
  all_none : All P []
  all_more : {x : A} {xs : List A} → P x → All P xs → All P (x ∷ xs)

module _ {A : Type 0} where
  -- where P gives Q
  pub all-imp : {P Q : A → Type 0} {xs : List A} → ((x : A) → P x → Q x) → All P xs → All Q xs
  all-imp f all_none = all_none
  all-imp f (all_more {x} h r) = all_more (f x h) (all-imp f r)

  -- of the front and of the rest
  pub all_take : {P : A → Type 0} {xs : List A} (n : ℕ) → All P xs → All P (take n xs)
  all_take zero r = all_none
  all_take (suc n) all_none = all_none
  all_take {P = P} (suc n) (all_more {x = x} {xs = xs} h r) = all_more h (all_take {P = P} {xs = xs} n r)

  pub all_drop : {P : A → Type 0} {xs : List A} (n : ℕ) → All P xs → All P (drop n xs)
  all_drop zero r = r
  all_drop (suc n) all_none = all_none
  all_drop {P = P} (suc n) (all_more {x = x} {xs = xs} h r) = all_drop {P = P} {xs = xs} n r

  -- where it holds at every place
  pub all-by : {P : A → Type 0} (xs : List A) (d : A) → ((i : ℕ) → i < length xs → P (get_or xs i d)) → All P xs
  all-by [] d f = all_none
  all-by (x ∷ xs) d f = all_more (f zero (zero-lt-suc (length xs))) (all-by xs d (λ i h. f (suc i) (suc-le-suc h)))

  -- of what a function gives
  pub all_map : {B : Type 0} {P : B → Type 0} (f : A → B) {xs : List A} → All (λ x. P (f x)) xs → All P (map f xs)
  all_map f all_none = all_none
  all_map f (all_more h r) = all_more h (all_map f r)

  pub all-unmap : {B : Type 0} {P : B → Type 0} (f : A → B) (xs : List A) → All P (map f xs) → All (λ x. P (f x)) xs
  all-unmap f [] r = all_none
  all-unmap f (x ∷ xs) (all_more h r) = all_more h (all-unmap f xs r)

  -- two facts together
  pub all_both : {P Q : A → Type 0} {xs : List A} → All P xs → All Q xs → All (λ x. P x × Q x) xs
  all_both all_none s = all_none
  all_both (all_more h r) (all_more k s) = all_more (h, k) (all_both r s)

  -- a function that changes no element
  pub map-id : {f : A → A} {xs : List A} → All (λ x. f x ≡ x) xs → map f xs ≡ xs
  map-id all_none = refl
  map-id (all_more {x} {xs} h r) = rw (h, map-id r)

-- numbers below a bound
abbrev pub Below : ℕ → List ℕ → Type 0
Below bound ns = All (λ n. n < bound) ns
