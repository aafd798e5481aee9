-- Whether space is lacking: nothing, or the length needed.
use Rattle.std.specs.Prelude.{ℕ, ◌<◌, ◌≤◌, ◌≡◌, Option, Some, None}

abbrev pub Lacking : ℕ → ℕ → Option ℕ → Type 0
Lacking needed space None = needed ≤ space
Lacking needed space (Some long) = (long ≡ needed) × (space < needed)
