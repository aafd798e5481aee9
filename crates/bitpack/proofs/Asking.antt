-- What packed length alone asks first, 21 and 12, packing and unpacking alone ask first too: what it refuses, they refuse so, and what it does not, has the length.
use mathlib.Core.Path.{◌≡◌, refl}
use mathlib.Core.Bool.{Bool, true, false}
use mathlib.Core.List.{List}
use Prim.Native.Nat.{ℕ, ◌+◌, ◌-◌, ◌≤◌, ◌<◌}
use native.Mathlib.Omega.{arith}
use lib.Dec.{leb}
use lib.ListN.{length}
use borrow.Author.Tests.{le-leb, lt-leb}
use Rattle.std.specs.Prelude.{Result, Ok, Err, MatchResult}
use Rattle.format.specs.declared.refusals.Kind.TheVariants.{WidthAbove64}
use Rattle.format.specs.declared.refusals.Refusal.{Refusal}
use Rattle.format.specs.Answers.{stored_answer, buffer_after}
use Rattle.format.specs.Refusals.{kind_number}
use Rattle.bitpack.specs.declared.width.Width.{Width}
use Rattle.format.specs.Outcome.{Outcome, refused, ok, check, ◌>>=◌}
use Rattle.format.specs.Encodings.{max_chunk_elements}
use Rattle.format.specs.Packing.{packed_len, packed, unpacked, packed_end}
use Rattle.format.specs.Standalone.{packed_len_answer, pack_answer, pack_output, pack_outcome, unpack_answer, unpack_buffer, unpack_outcome}

-- ---- packed length alone

module _ (count w : ℕ) where
  pub limit_asked : max_chunk_elements < count → packed_len_answer count w ≡ refused 21 0
  unfolding packed_len_answer
  limit_asked h = rw (lt-leb count max_chunk_elements h) refl

  pub width_asked : count ≤ max_chunk_elements → 64 < w → packed_len_answer count w ≡ refused 12 0
  unfolding packed_len_answer
  width_asked few h = rw (le-leb count max_chunk_elements few, lt-leb w 64 h) refl

  pub length_asked : count ≤ max_chunk_elements → w ≤ 64 → packed_len_answer count w ≡ ok (packed_len count w)
  unfolding packed_len_answer
  length_asked few narrow = rw (le-leb count max_chunk_elements few, le-leb w 64 narrow) refl

-- the width asks the second
pub width_answered : {count : ℕ} (w : ℕ) → count ≤ max_chunk_elements → (r : Result Width Refusal)
    → MatchResult r (λ width. width.bits ≡ w) (λ refusal. (refusal ≡ record { kind = WidthAbove64; offset = 0 }) × (64 < w))
    → MatchResult r (λ width. (width.bits ≡ w) × (count ≤ max_chunk_elements)) (λ refusal. refused (kind_number refusal.kind) refusal.offset ≡ packed_len_answer count w)
width_answered w few (Ok width) e = (e, few)
width_answered {count} w few (Err refusal) e = rw (e.0, width_asked count w few e.1) refl

-- ---- where it is refused, the buffer of the others stays

module _ {number offset : ℕ} where
  asked_first : (few narrow : Bool) (n : ℕ) (buffer : List ℕ) (second : Bool → Outcome (List ℕ)) → second false ≡ refused 12 0
      → refused number offset ≡ (check few 21 0 >>= λ _. check narrow 12 0 >>= λ _. ok n)
      → let o = check few 21 0 >>= λ _. second narrow in
      (refused number offset ≡ stored_answer o) × (buffer ≡ buffer_after o buffer)
  asked_first false narrow n buffer second twelve e = (e, refl)
  asked_first true false n buffer second twelve e = rw twelve (e, refl)
  asked_first true true n buffer second twelve e = let z : ◌≡◌ {A = ℕ} 0 1 = cc in absurd (omega arith)

  pub pack_refused : (values : List ℕ) (w : ℕ) (output : List ℕ) → refused number offset ≡ packed_len_answer (length values) w
      → (refused number offset ≡ pack_answer values w (length output)) × (output ≡ pack_output values w output)
  unfolding packed_len_answer pack_answer pack_output pack_outcome
  pack_refused values w output e =
      let n = packed_len (length values) w in
      let second : Bool → Outcome (List ℕ) = λ narrow. check narrow 12 0 >>= λ _. check (leb n (length output)) 20 n >>= λ _. ok (packed w values) in
      asked_first (leb (length values) max_chunk_elements) (leb w 64) n output second refl e

  pub unpack_refused : (bytes : List ℕ) (w count : ℕ) (buffer : List ℕ) → refused number offset ≡ packed_len_answer count w
      → (refused number offset ≡ unpack_answer bytes w count (length buffer)) × (buffer ≡ unpack_buffer bytes w count buffer)
  unfolding packed_len_answer unpack_answer unpack_buffer unpack_outcome packed_end
  unpack_refused bytes w count buffer e =
      let n = packed_len count w in
      let end : Bool → Outcome ℕ = λ narrow. check narrow 12 0 >>= λ _. check (leb n (length bytes - 0)) 13 (length bytes - 0) >>= λ _. ok (0 + n) in
      let second : Bool → Outcome (List ℕ) = λ narrow. end narrow >>= λ _. check (leb count (length buffer)) 20 count >>= λ _. ok (unpacked w count bytes) in
      asked_first (leb count max_chunk_elements) (leb w 64) n buffer second refl e
