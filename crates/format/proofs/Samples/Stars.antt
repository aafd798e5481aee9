-- The ★ entries of 01's sample sheet, as one proved list: `stars`. Each line of `Stars` has its line of the sheet above it, and is proved by computing both sides;
-- only the last entry, "count 0 or not", speaks of every count, and is a law.
use mathlib.Core.Path.{◌≡◌, refl}
use mathlib.Core.Bool.{Bool, true, false}
use mathlib.Core.List.{List, [], ◌∷◌, map}
use Prim.Native.Nat.{ℕ, ◌^◌, ◌-◌, ◌<◌}
use lib.IntN.{ℤ, pos, negsuc}
use lib.ListN.{length, get_or}
use borrow.Author.Tests.{lt-ltb}
use lib.Dec.{lit<}
use Rattle.format.specs.Outcome.{ok, refused}
use Rattle.format.specs.Keys.{zigzag}
use Rattle.format.specs.Varint.{uvarint_bytes, read_uvarint}
use Rattle.format.specs.Packing.{width_at, packed_end}
use Rattle.format.specs.Encodings.{encoding_of, decode_cost_rank}
use Rattle.format.specs.Header.{Naming, unnamed, read_header}
use Rattle.format.specs.declared.Header.{Header}
use Rattle.format.specs.BitPacked.{validate_bit_packed}
use Rattle.format.specs.Chunk.{chunk_of, validate_body}
use Rattle.format.specs.Read.{validate, read_outcome, read_answer}
use Rattle.format.specs.Plan.{plan_of}
use Rattle.format.specs.declared.encoding.Encoding.TheVariants.{Plain, Varint, BitPacked, RunLength, Dictionary, DeltaBinaryPacked}
use Rattle.format.specs.declared.PlanReason.TheVariants.{SmallestEstimate, GainBelowThreshold}
use Rattle.format.proofs.Samples.Computing.{reading-computes, planning-computes}

-- [5,5,5,5]
abbrev pub fives : List ℤ
fives = pos 5 ∷ pos 5 ∷ pos 5 ∷ pos 5 ∷ []

-- [least, greatest key]
abbrev pub ends : List ℤ
ends = negsuc (2 ^ 63 - 1) ∷ pos (2 ^ 63 - 1) ∷ []

-- FF nine times, then what follows
abbrev pub nine_ff : List ℕ → List ℕ
nine_ff rest = 0xff ∷ 0xff ∷ 0xff ∷ 0xff ∷ 0xff ∷ 0xff ∷ 0xff ∷ 0xff ∷ 0xff ∷ rest

pub record Stars : Type 0 where
  -- "★ ZigZag 0, −1, 1, −2 give 0, 1, 2, 3."
  pub zigzags : map zigzag (pos 0 ∷ negsuc 0 ∷ pos 1 ∷ negsuc 1 ∷ []) ≡ 0 ∷ 1 ∷ 2 ∷ 3 ∷ []
  -- "★ 300 is AC 02."
  pub three-hundred : uvarint_bytes 300 ≡ 0xac ∷ 0x02 ∷ []
  -- "★ FF nine times then 03 reads as 2^64 − 1."
  pub tenth-byte : read_uvarint (nine_ff (0x03 ∷ [])) 0 ≡ ok (record { value = 2 ^ 64 - 1; next = 10; unpadded = true })
  -- "★ Empty, Plain: 01 01 00."
  pub empty-plain : chunk_of Plain [] ≡ 0x01 ∷ 0x01 ∷ 0x00 ∷ []
  -- "★ [0] at level 6: BitPacked, 03 01 01 00; Varint ties and loses by rank."
  pub zero-plan : (plan_of 6 (pos 0 ∷ [])).encoding ≡ BitPacked
  pub zero-chunk : chunk_of BitPacked (pos 0 ∷ []) ≡ 0x03 ∷ 0x01 ∷ 0x01 ∷ 0x00 ∷ []
  pub zero-tie : length (chunk_of Varint (pos 0 ∷ [])) ≡ length (chunk_of BitPacked (pos 0 ∷ []))
  pub zero-ranks : decode_cost_rank BitPacked < decode_cost_rank Varint
  -- "★ [5,5,5,5] at 6: 03 01 04 04 AA AA; ★ RunLength 05 01 04 01 0A 04; ★ Dictionary 06 01 04 01 0A 00."
  pub fives-plan : (plan_of 6 fives).encoding ≡ BitPacked
  pub fives-chunk : chunk_of BitPacked fives ≡ 0x03 ∷ 0x01 ∷ 0x04 ∷ 0x04 ∷ 0xaa ∷ 0xaa ∷ []
  pub fives-runs : chunk_of RunLength fives ≡ 0x05 ∷ 0x01 ∷ 0x04 ∷ 0x01 ∷ 0x0a ∷ 0x04 ∷ []
  pub fives-dictionary : chunk_of Dictionary fives ≡ 0x06 ∷ 0x01 ∷ 0x04 ∷ 0x01 ∷ 0x0a ∷ 0x00 ∷ []
  -- "★ [least, greatest key]: Delta has 17 bytes, Plain 19; chosen at levels 4 to 9, Plain by gain at 1 to 3."
  pub ends-delta : length (chunk_of DeltaBinaryPacked ends) ≡ 17
  pub ends-plain : length (chunk_of Plain ends) ≡ 19
  pub ends-chosen :
      map (λ level. (plan_of level ends).encoding) (4 ∷ 5 ∷ 6 ∷ 7 ∷ 8 ∷ 9 ∷ [])
      ≡ DeltaBinaryPacked ∷ DeltaBinaryPacked ∷ DeltaBinaryPacked ∷ DeltaBinaryPacked ∷ DeltaBinaryPacked ∷ DeltaBinaryPacked ∷ []
  pub ends-kept : map (λ level. (plan_of level ends).encoding) (1 ∷ 2 ∷ 3 ∷ []) ≡ Plain ∷ Plain ∷ Plain ∷ []
  pub ends-by-gain :
      map (λ level. (plan_of level ends).reason) (1 ∷ 2 ∷ 3 ∷ 4 ∷ [])
      ≡ GainBelowThreshold ∷ GainBelowThreshold ∷ GainBelowThreshold ∷ SmallestEstimate ∷ []
  -- "★ 03 01 00 41 is 12, count 0 or not."
  pub width-65 : read_answer false unnamed (0x03 ∷ 0x01 ∷ 0x00 ∷ 0x41 ∷ []) 0 ≡ refused 12 0
  pub width-65-any :
      (strict : Bool) (naming : Naming) (s : List ℕ) (room : ℕ) (h : Header)
      → read_header naming s ≡ ok h → encoding_of h.id ≡ BitPacked → h.start < length s → get_or s h.start 0 ≡ 0x41
      → read_answer strict naming s room ≡ refused 12 0

-- 12 is asked before the packed bytes, so the count does not matter, nor do strictness and the name
width-65-law :
    (strict : Bool) (naming : Naming) (s : List ℕ) (room : ℕ) (h : Header)
    → read_header naming s ≡ ok h → encoding_of h.id ≡ BitPacked → h.start < length s → get_or s h.start 0 ≡ 0x41
    → read_answer strict naming s room ≡ refused 12 0
unfolding read_answer read_outcome validate validate_body validate_bit_packed width_at packed_end
width-65-law strict naming s room h header packs there byte = simp (header, packs, lt-ltb h.start (length s) there, byte)

pub stars : Stars
unfolding planning-computes reading-computes
stars =
    record {
      zigzags = refl;
      three-hundred = refl;
      tenth-byte = refl;
      empty-plain = refl;
      zero-plan = refl;
      zero-chunk = refl;
      zero-tie = refl;
      zero-ranks = lit< tt;
      fives-plan = refl;
      fives-chunk = refl;
      fives-runs = refl;
      fives-dictionary = refl;
      ends-delta = refl;
      ends-plain = refl;
      ends-chosen = refl;
      ends-kept = refl;
      ends-by-gain = refl;
      width-65 = refl;
      width-65-any = λ strict naming s room h header packs there byte. width-65-law strict naming s room h header packs there byte;
    }
