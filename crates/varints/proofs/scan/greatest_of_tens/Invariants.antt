-- `most` is no less than the least of any ten bytes in a row that were passed: those that begin before what the windows have left, the end of the bytes.
use Rattle.std.proofs.Common.{◌≡◌, ℕ, ◌-◌, ◌<◌, ◌≤◌, length, drop}
use Rattle.std.specs.Slice.Iter.{windows_size, windows_rest}
use Rattle.varints.specs.Scans.{least10}
use Rattle.varints.proofs.scan.greatest_of_tens.Given as goal

abbrev pub invariant-loop-ten : goal.invariant-loop-ten
invariant-loop-ten l =
    let rest = windows_rest l.ten-iterator in
    let i = length l.bytes - length rest in
    (windows_size l.ten-iterator ≡ 10) × (length rest ≤ length l.bytes) × (rest ≡ drop i l.bytes) × ((k : ℕ) → k < i → least10 l.bytes k ≤ l.most)
