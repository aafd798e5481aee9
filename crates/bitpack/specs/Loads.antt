-- What two private functions say of loads of eight bytes: for how many packed values such a load stays inside. The public contracts do not cite it.
use Rattle.std.specs.Prelude.{ℕ, ◌+◌, ◌*◌, ◌%◌, ◌≤◌, ◌<◌}

-- each of k of n values packed at width w has the eight bytes from its first bit's byte on inside len bytes, and all its bits in them
pub record Within (len w n k : ℕ) : Type 0 where
  pub most : k ≤ n
  pub inside : 0 < k → ((i : ℕ) → i * w % 8 + w ≤ 64) × (k * w + 64 ≤ len * 8)
