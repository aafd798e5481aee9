-- The one pass over a column: what a value more changes, and what the whole pass gives, by format's definitions of the fields.
use Rattle.std.specs.Prelude.{ℕ, ◌+◌, max, Bool, true, cond, ◌&&◌, List, map, ℤ, pos, length, get_or, drop}
use Rattle.std.specs.Int.Signed.{le_z}
use Rattle.format.specs.Keys.{eq_z, lesser, greater, delta, zigzag}
use Rattle.format.specs.Varint.{uvarint_len, varint_len}
use Rattle.format.specs.Folds.{least, greatest, largest, total, deltas}
use Rattle.format.specs.Runs.{runs}
use Rattle.format.specs.Statistics.{non_decreasing, non_increasing, run_len}
use Rattle.stats.specs.declared.pass.Measured.{Measured}
use Rattle.stats.specs.declared.pass.Values.{Values}
use Rattle.stats.specs.declared.pass.Runs.{Runs}
use Rattle.stats.specs.declared.pass.Steps.{Steps}
use Rattle.stats.specs.declared.pass.Pass.{Pass}

-- a value with its ZigZag and the bytes of its varint
abbrev pub measured : ℤ → Measured
measured v = record { value = v; zigzag = zigzag v; bytes = varint_len v }

-- the first value
abbrev pub first_values : Measured → Values
first_values m = record { low = m.value; high = m.value; largest = m.zigzag; bytes = m.bytes }

-- a value more
abbrev pub next_values : Values → Measured → Values
next_values s m =
    record { low = lesser s.low m.value; high = greater s.high m.value; largest = max s.largest m.zigzag; bytes = s.bytes + m.bytes }

-- the run of the first value, whose varint has n bytes
abbrev pub first_runs : ℕ → Runs
first_runs n = record { count = 1; bytes = n; length = 1 }

-- a value more after a value `last`: the run goes on, or another one begins
abbrev pub next_runs : Runs → ℤ → Measured → Runs
next_runs r last m =
    cond (eq_z last m.value)
    (record { count = r.count; bytes = r.bytes; length = r.length + 1 })
    (record { count = r.count + 1; bytes = r.bytes + uvarint_len r.length + m.bytes; length = 1 })

-- the first delta: 0 where there is none
unfoldable pub first_delta : List ℤ → ℤ
first_delta column = get_or (deltas column) 0 (pos 0)

-- before the first step, whose delta is d
abbrev pub first_steps : ℤ → Steps
first_steps d = record { ascending = true; descending = true; low = d; high = d }

-- a step more, from a value `last` to v
abbrev pub next_steps : Steps → ℤ → ℤ → Steps
next_steps s last v =
    record {
      ascending = s.ascending && le_z last v;
      descending = s.descending && le_z v last;
      low = lesser s.low (delta last v);
      high = greater s.high (delta last v);
    }

-- no value is less than the one before it; and none is greater
unfoldable pub never_falls : List ℤ → Bool
never_falls column = non_decreasing (get_or column 0 (pos 0)) (drop 1 column)

unfoldable pub never_rises : List ℤ → Bool
never_rises column = non_increasing (get_or column 0 (pos 0)) (drop 1 column)

-- WHAT THE PASS GIVES
unfoldable pub pass_of : List ℤ → Pass
pass_of column =
    record {
      values = record { low = least column; high = greatest column; largest = largest (map zigzag column); bytes = total (map varint_len column) };
      run_count = length (runs column);
      run_bytes = total (map run_len (runs column));
      steps = record { ascending = never_falls column; descending = never_rises column; low = least (deltas column); high = greatest (deltas column) };
    }
