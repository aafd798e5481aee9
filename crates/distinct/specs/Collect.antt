-- Collecting a column's distinct values (01, "Questions at the counter", "Writing": "At most 2^24 values? 21. For Dictionary: scratch of min(count, 16,384)? 22; at most
-- 16,384 distinct? 23"; "Offsets of 21 to 24 are 0").
use Rattle.std.specs.Prelude.{ℕ, Bool, false, not, ◌&&◌, ◌||◌, List, [], ◌∷◌, ℤ, pos, leb, eqb, length, get_or}
use Rattle.format.specs.Keys.{eq_z}
use Rattle.format.specs.Outcome.{Outcome, ok, check, ◌>>=◌}
use Rattle.format.specs.Encodings.{max_chunk_elements}
use Rattle.format.specs.Distinct.{distinct, too_many_distinct, scratch_check}
use Rattle.distinct.specs.Search.{slot_of}

-- the question that is asked once the values are collected: "at most 16,384 distinct? 23". It finds how many there are
unfoldable pub count_outcome : List ℤ → Outcome ℕ
count_outcome column = do
  _ ← check (not (too_many_distinct column)) 23 0
  ok (length (distinct column))

-- THE ANSWER of collecting them in a scratch of `room` places: accepted, with their number. The scratch after it is format's `write_scratch` of encoding 6
unfoldable pub collect_outcome : List ℤ → ℕ → Outcome ℕ
collect_outcome column room = do
  _ ← check (leb (length column) max_chunk_elements) 21 0
  _ ← scratch_check column room
  count_outcome column

-- whether a list has a key
unfoldable pub has : List ℤ → ℤ → Bool
has [] v = false
has (x ∷ xs) v = eq_z x v || has xs v

-- ---- what private functions say

-- whether a key's slot is vacant: it has the key that every slot had at first, and it is not that key's own
unfoldable pub vacant : List ℤ → ℤ → ℤ → Bool
vacant seen first key = eq_z (get_or seen (slot_of key (length seen)) (pos 0)) first && not (eqb (slot_of key (length seen)) (slot_of first (length seen)))
