-- A loop that fills a column from keys in a row: what is left of the room takes the front of what is left of the keys, and a key's copies, as many as have room,
-- and then the rest.
use mathlib.Core.Path.{◌≡◌, sym, ap, ◌∙◌}
use mathlib.Core.Bool.{Bool}
use mathlib.Core.List.{List, [], ◌∷◌, ◌++◌}
use Prim.Native.Nat.{ℕ, zero, suc, ◌+◌, ◌-◌, ◌^◌, ◌≤◌, ◌<◌, min}
use native.Mathlib.Nat.{add_assoc}
use native.Mathlib.Omega.{arith}
use borrow.Author.Rules.{sfits_of}
use borrow.Author.Tests.{le-leb, lt-leb}
use lib.IntN.{ℤ}
use lib.Signed.{mag}
use lib.ListN.{length, set, replicate, take, length-replicate, length-take}
use lib.Seq.{sets, take_all}
use mir.Syntax.{w64}
use mir.Val.{to_z, of_z}
use mir.Facts.{to_z-of_z}
use Rattle.format.specs.Encodings.{max_chunk_elements}
use Rattle.format.specs.Keys.{unzigzag}
use Rattle.format.proofs.Numbers.Stores.{Storing, storing-one, storing-part, storing-done, sets-stored}
use Rattle.varint.specs.Finding.{found_at}
use Rattle.varint.specs.declared.find.Found.{Found}
use Rattle.keys.specs.Rows.{times_after, key_rows, filled_from}

-- ---- one run

-- one of the copies that are left is stored
pub copy_more :
    {whole l out : List ℤ} {from : ℕ} (at i times : ℕ) (key : ℤ) → Storing whole l from (replicate (times - i) key) out (at + i) → i < times
    → Storing whole l from (replicate (times - (i + 1)) key) (set out (at + i) key) (at + (i + 1))
copy_more at i times key s h =
    let e : times - i ≡ suc (times - (i + 1)) = omega arith in
    rw (← add_assoc at i 1) (storing-one s key (replicate (times - (i + 1)) key) (ap (λ (n : ℕ). replicate n key) e))

-- ---- keys in a row

-- the front of a key's copies and the rest
take-run : (room times : ℕ) (key : ℤ) (rest : List ℤ)
    → take room (replicate times key ++ rest) ≡ replicate (min times room) key ++ take (room - min times room) rest
take-run room zero key rest =
    let none : min 0 room ≡ 0 = omega arith in
    let all : room - 0 ≡ room = omega arith in
    rw (none, all)
take-run zero (suc times) key rest = let none : min (suc times) 0 ≡ 0 = omega arith in rw none
take-run (suc room) (suc times) key rest =
    let one : min (suc times) (suc room) ≡ suc (min times room) = omega arith in
    let left : suc room - suc (min times room) ≡ room - min times room = omega arith in
    rw (one, left) (ap (λ (vs : List ℤ). key ∷ vs) (take-run room times key rest))

-- `i` keys are stored over old, which makes column up to `at`, and the rest is to come
pub record Filling (lengths : Bool) (s : List ℕ) (from n : ℕ) (old : List ℤ) (next i at : ℕ) (column : List ℤ) : Type 0 where
  pub room : at ≤ length column
  pub stores : Storing (take (length old) (key_rows lengths s from n)) old 0 (take (length column - at) (key_rows lengths s next (n - i))) column at

-- more keys than a chunk can have
pub filling_refused : (lengths : Bool) (s : List ℕ) (from n : ℕ) (old : List ℤ) → max_chunk_elements < n → old ≡ filled_from lengths s from n old
unfolding filled_from
filling_refused lengths s from n old h = rw (lt-leb n max_chunk_elements h)

module _ {lengths : Bool} {s : List ℕ} {from n : ℕ} {old : List ℤ} {next i at : ℕ} {column : List ℤ} (f : Filling lengths s from n old next i at column) where
  -- no key is left
  pub filling_done : n ≤ max_chunk_elements → n ≤ i → column ≡ filled_from lengths s from n old
  unfolding key_rows filled_from
  filling_done few h =
      let e : n - i ≡ 0 = omega arith in
      let whole : List ℤ = take (length old) (key_rows lengths s from n) in
      let fits : length whole ≤ length old = omega (arith, length-take (length old) (key_rows lengths s from n)) in
      let none : take (length column - at) (key_rows lengths s next (n - i)) ≡ [] = rw e (take_all (length column - at) [] (omega arith)) in
      rw (le-leb n max_chunk_elements few) (storing-done f.stores none ∙ sets-stored whole old fits)

  -- the next is found, and so many of its copies have room
  module _ (h : i < n) {key times : Found} (k : key ≡ found_at s next) (t : times ≡ times_after lengths s key.next)
      {count : ℕ} (c : count ≡ min times.value (length column - at))
    where
      pub filling_room : at + count ≤ length column
      filling_room = omega (arith, f.room)

      rows-first : key_rows lengths s next (n - i) ≡ replicate times.value (unzigzag key.value) ++ key_rows lengths s times.next (n - (i + 1))
      unfolding key_rows
      rows-first = let later : n - i ≡ suc (n - (i + 1)) = omega arith in rw (later, t, k)

      first : take (length column - at) (key_rows lengths s next (n - i))
          ≡ replicate count (unzigzag key.value) ++ take (length column - (at + count)) (key_rows lengths s times.next (n - (i + 1)))
      first =
          let rest = key_rows lengths s times.next (n - (i + 1)) in
          let left : length column - (at + count) ≡ length column - at - count = omega arith in
          ap (take (length column - at)) rows-first ∙ rw left (rw (← c) at (take-run (length column - at) times.value (unzigzag key.value) rest))

      -- they are stored; a call is handed the key by its bits
      pub filling_more : {v : ℤ} {more : List ℤ} → mag v < 2 ^ 63 → v ≡ unzigzag key.value → more ≡ sets column at (replicate count (to_z w64 (of_z w64 v)))
          → Filling lengths s from n old times.next (i + 1) (at + count) more
      filling_more {v} {more} fits same e =
          let rest = take (length column - (at + count)) (key_rows lengths s times.next (n - (i + 1))) in
          let part = storing-part f.stores (replicate count (unzigzag key.value)) rest first in
          let whole = rw (length-replicate count (unzigzag key.value)) at part in
          let long : length (sets column at (replicate count (unzigzag key.value))) ≡ length column = whole.long ∙ sym f.stores.long in
          rw (e, to_z-of_z {z = v} (sfits_of fits), same) (record { room = rw long filling_room; stores = rw long whole })
