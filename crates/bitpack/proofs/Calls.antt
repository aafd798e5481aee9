-- What the calls give together: what `pack` left is unpacked, whatever the output holds after it. The values come back without their bits above the width, so
-- those that fit the width come back as they were.
use mathlib.Core.Path.{◌≡◌, ap, ◌∙◌}
use mathlib.Core.List.{List, ◌++◌, map}
use Prim.Native.Nat.{ℕ, ◌-◌, ◌%◌, ◌^◌, ◌≤◌}
use native.Mathlib.Omega.{arith}
use lib.ListN.{length, drop, length-append, length-map}
use borrow.Author.Tests.{le-leb}
use Rattle.format.specs.Outcome.{Outcome, ok}
use Rattle.format.specs.Encodings.{max_chunk_elements}
use Rattle.format.specs.Packing.{packed_len, packed, packed_end}
use Rattle.format.specs.Answers.{stored, stored_answer, buffer_after}
use Rattle.format.specs.Standalone.{pack_outcome, pack_output, unpack_outcome, unpack_answer, unpack_buffer}
use Rattle.format.proofs.Numbers.All.{Below}
use Rattle.format.proofs.Numbers.Extremes.{mod_below}
use Rattle.format.proofs.Numbers.Packing.{unpacked-packed, length-packed}

module _ (values : List ℕ) (w : ℕ) (output : List ℕ) (narrow : w ≤ 64) (few : length values ≤ max_chunk_elements)
    (room : packed_len (length values) w ≤ length output)
  where
    -- the packed bytes, and then what the output held
    output-packed : pack_output values w output ≡ packed w values ++ drop (length (packed w values)) output
    unfolding pack_output pack_outcome stored
    output-packed = rw (le-leb (length values) max_chunk_elements few, le-leb w 64 narrow, le-leb (packed_len (length values) w) (length output) room)

    -- no question on unpacking them is answered no
    values-found : (places : ℕ) → length values ≤ places → unpack_outcome (pack_output values w output) w (length values) places ≡ ok (map (λ v. v % 2 ^ w) values)
    unfolding unpack_outcome packed_end
    values-found places h =
        let rest = drop (length (packed w values)) output in
        let there : packed_len (length values) w ≤ length (packed w values ++ rest) - 0 = omega (arith, length-append (packed w values) rest, length-packed w values) in
        rw (
          output-packed,
          le-leb (length values) max_chunk_elements few,
          le-leb w 64 narrow,
          le-leb (packed_len (length values) w) (length (packed w values ++ rest) - 0) there,
          le-leb (length values) places h,
          unpacked-packed w values rest,
        )

    module _ (buffer : List ℕ) (places : length values ≤ length buffer) where
      -- THE ANSWER to unpacking what was packed, and THE VALUES' BUFFER after it
      pub unpack_answer-back : unpack_answer (pack_output values w output) w (length values) (length buffer) ≡ ok (length values)
      unfolding unpack_answer
      unpack_answer-back = ap stored_answer (values-found (length buffer) places) ∙ ap ok (length-map values (λ v. v % 2 ^ w))

      pub unpack_buffer-back : unpack_buffer (pack_output values w output) w (length values) buffer ≡ stored (map (λ v. v % 2 ^ w) values) buffer
      unfolding unpack_buffer
      unpack_buffer-back = ap (λ (o : Outcome (List ℕ)). buffer_after o buffer) (values-found (length buffer) places)

      -- values that fit the width
      pub unpack_buffer-fitting : Below (2 ^ w) values → unpack_buffer (pack_output values w output) w (length values) buffer ≡ stored values buffer
      unpack_buffer-fitting h = unpack_buffer-back ∙ ap (λ (vs : List ℕ). stored vs buffer) (mod_below h)
