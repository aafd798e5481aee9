-- Storing the runs of a column: each run is its key's varint and its length's, one after the other, and where the whole has room so has each of them.
use mathlib.Core.Path.{◌≡◌, refl, ap, ◌∙◌}
use mathlib.Core.List.{List, [], ◌∷◌, ◌++◌, append_assoc}
use Prim.Native.Nat.{ℕ, ◌+◌, ◌^◌, ◌≤◌, ◌<◌}
use borrow.Author.Rules.{sfits_of}
use Rattle.std.specs.Prelude.{Option, Some}
use Rattle.std.specs.Option.{IsSome}
use lib.IntN.{ℤ}
use lib.Signed.{mag}
use lib.ListN.{length}
use lib.Seq.{sets}
use mir.Syntax.{w64}
use mir.Val.{to_z, of_z}
use mir.Facts.{to_z-of_z}
use Rattle.format.specs.Keys.{zigzag}
use Rattle.format.specs.Varint.{uvarint_bytes, varint_bytes}
use Rattle.format.specs.Runs.{Run, runs, run_bytes, run_body}
use Rattle.format.proofs.Numbers.Stores.{Storing, storing-none, storing-room, storing-end, storing-done}
use Rattle.places.proofs.Placing.{PutUvarint, storing_uvarint, storing_uvarint_some}
use Rattle.runs.specs.RunAt.{to_come}
use Rattle.runs.specs.declared.writing.Runs.{Runs}
use Rattle.runs.proofs.RunEnds.{taken, none_after}

-- ---- the runs

-- a run's bytes, and then those of the runs after it
first-bytes : (r : Run) (rs : List Run) → run_bytes (r ∷ rs) ≡ uvarint_bytes (zigzag r.key) ++ (uvarint_bytes r.times ++ run_bytes rs)
unfolding run_bytes varint_bytes
first-bytes r rs = append_assoc (uvarint_bytes (zigzag r.key)) (uvarint_bytes r.times) (run_bytes rs)

pub putting_none : (column : List ℤ) (output : List ℕ) (from : ℕ) → Storing (run_bytes (runs column)) output from (run_bytes (runs column)) output from
putting_none column output from = storing-none

module _ (column : List ℤ) (output : List ℕ) (from : ℕ) (r : Runs) (out : List ℕ) (at : ℕ)
    (stores : Storing (run_bytes (runs column)) output from (run_bytes (runs r.0.now)) out at)
  where
    -- a run more; the first call is handed its key by its bits
    module _ (rest : Runs) {k : ℤ} {t : ℕ} (room : from + length (run_bytes (runs column)) ≤ length output) (e : to_come r ≡ (k, t) ∷ to_come rest) (fits : mag k < 2 ^ 63)
        {middle : List ℕ} {key-end : Option ℕ} (put : PutUvarint (zigzag (to_z w64 (of_z w64 k))) out at middle key-end)
      where
        run-bytes : run_bytes (runs r.0.now) ≡ uvarint_bytes (zigzag k) ++ (uvarint_bytes t ++ run_bytes (runs rest.0.now))
        run-bytes = ap run_bytes (taken r rest e) ∙ first-bytes (record { key = k; times = t }) (runs rest.0.now)

        key-put : PutUvarint (zigzag k) out at middle key-end
        key-put = rw (to_z-of_z {z = k} (sfits_of fits)) at put

        pub key_some : IsSome key-end
        key_some = storing_uvarint_some stores room (zigzag k) _ run-bytes key-put

        module _ {after-key : ℕ} (found : key-end ≡ Some after-key) {next : List ℕ} {times-end : Option ℕ} (times : PutUvarint t middle after-key next times-end) where
          key-stored : Storing (run_bytes (runs column)) output from (uvarint_bytes t ++ run_bytes (runs rest.0.now)) middle after-key
          key-stored = storing_uvarint stores room (zigzag k) _ run-bytes key-put found

          pub times_some : IsSome times-end
          times_some = storing_uvarint_some key-stored room t (run_bytes (runs rest.0.now)) refl times

          pub putting_more : {last : ℕ} → times-end ≡ Some last → Storing (run_bytes (runs column)) output from (run_bytes (runs rest.0.now)) next last
          putting_more there = storing_uvarint key-stored room t (run_bytes (runs rest.0.now)) refl times there

    -- none is left
    pub putting_done : to_come r ≡ [] → (at ≡ from + length (run_bytes (runs column))) × (out ≡ sets output from (run_bytes (runs column)))
    unfolding run_bytes
    putting_done e =
        let none = ap run_bytes (none_after r e) in
        (storing-end stores none, storing-done stores none)

-- ---- the body

-- the total is stored, and the runs are to come
module _ (column : List ℤ) (output : List ℕ) (at : ℕ) (room : at + length (run_body column) ≤ length output) {count : ℕ} (total : count ≡ length (runs column))
    {begun : List ℕ} {end : Option ℕ} (put : PutUvarint count output at begun end)
  where
    body-bytes : run_body column ≡ uvarint_bytes count ++ run_bytes (runs column)
    unfolding run_body
    body-bytes = rw total

    pub total_some : IsSome end
    total_some = storing_uvarint_some storing-none room count (run_bytes (runs column)) body-bytes put

    module _ {from : ℕ} (found : end ≡ Some from) where
      total-stored : Storing (run_body column) output at (run_bytes (runs column)) begun from
      total-stored = storing_uvarint storing-none room count (run_bytes (runs column)) body-bytes put found

      pub runs_room : from + length (run_bytes (runs column)) ≤ length begun
      runs_room = storing-room total-stored room

      pub body_stored : {last : ℕ} {out : List ℕ} → (last ≡ from + length (run_bytes (runs column))) × (out ≡ sets begun from (run_bytes (runs column)))
          → (last ≡ at + length (run_body column)) × (out ≡ sets output at (run_body column))
      body_stored e = (e.0 ∙ total-stored.ends, e.1 ∙ total-stored.same)
