-- Every encoding: a body that was written is read back, by the law of its encoding.
use mathlib.Core.Path.{◌≡◌}
use Prim.Native.Nat.{ℕ, ◌+◌, ◌≤◌}
use mathlib.Core.List.{List}
use lib.IntN.{ℤ}
use lib.ListN.{length}
use Rattle.format.specs.Outcome.{ok}
use Rattle.format.specs.Encodings.{max_chunk_elements}
use Rattle.format.specs.Chunk.{body_of, validate_body, body_values}
use Rattle.format.specs.Keys.{Key}
use Rattle.format.specs.declared.encoding.Encoding.{Encoding}
use Rattle.format.specs.declared.encoding.Encoding.TheVariants.{Plain, Varint, BitPacked, FrameOfReference, RunLength, Dictionary, DeltaBinaryPacked}
use Rattle.format.proofs.Numbers.All.{All}
use Rattle.format.proofs.Numbers.Occurs.{Occurs}
use Rattle.format.proofs.Codecs.Plain.{plain-validate, plain_back}
use Rattle.format.proofs.Codecs.Varint.{varint-validate, varint-back}
use Rattle.format.proofs.Codecs.BitPacked.{bit_packed-validate, bit_packed-back}
use Rattle.format.proofs.Codecs.Frame.{frame-validate, frame_back}
use Rattle.format.proofs.Codecs.RunLength.{run_length-validate, run_length-back}
use Rattle.format.proofs.Codecs.Dictionary.{dictionary-validate, dictionary-back}
use Rattle.format.proofs.Codecs.Delta.{delta-validate, delta-back}
use Rattle.std.specs.Prelude.{Option}

module _ {s : List ℕ} {at : ℕ} {column : List ℤ} (ks : All Key column) (few : length column ≤ max_chunk_elements) where
  -- a body that occurs at a place: its end,
  pub body-validate :
      (e : Encoding) → Occurs s at (body_of e column) → (padded : Option ℕ)
      → validate_body e s at (length column) padded ≡ ok (record { end = at + length (body_of e column); padded = padded })
  unfolding body_of validate_body
  body-validate Plain h padded = plain-validate column h padded
  body-validate Varint h padded = varint-validate ks h padded
  body-validate BitPacked h padded = bit_packed-validate ks h padded
  body-validate FrameOfReference h padded = frame-validate ks h padded
  body-validate RunLength h padded = run_length-validate ks few h padded
  body-validate Dictionary h padded = dictionary-validate ks few h padded
  body-validate DeltaBinaryPacked h padded = delta-validate ks h padded

  -- and its values
  pub body-values : (e : Encoding) → Occurs s at (body_of e column) → body_values e s at (length column) ≡ column
  unfolding body_of body_values
  body-values Plain h = plain_back ks h
  body-values Varint h = varint-back ks h
  body-values BitPacked h = bit_packed-back ks h
  body-values FrameOfReference h = frame_back ks h
  body-values RunLength h = run_length-back ks few h
  body-values Dictionary h = dictionary-back ks few h
  body-values DeltaBinaryPacked h = delta-back ks h
