-- The seven encodings: their ids are 1 to 7 and tell them apart, and their ranks are below 8. Each fact is seven cases that compute.
use mathlib.Core.Path.{◌≡◌, refl, sym, ap, ◌∙◌}
use mathlib.Core.Bool.{true}
use Prim.Native.Nat.{◌≤◌, ◌<◌}
use lib.Dec.{lit≤, lit<}
use Rattle.format.specs.Encodings.{id_of, encodings, encoding_of, decode_cost_rank, within}
use Rattle.format.specs.declared.encoding.Encoding.{Encoding}
use Rattle.format.specs.declared.encoding.Encoding.TheVariants.{Plain, Varint, BitPacked, FrameOfReference, RunLength, Dictionary, DeltaBinaryPacked}

-- an encoding's id is from 1 to 7
pub id_of-low : (e : Encoding) → 1 ≤ id_of e
id_of-low Plain = lit≤ tt
id_of-low Varint = lit≤ tt
id_of-low BitPacked = lit≤ tt
id_of-low FrameOfReference = lit≤ tt
id_of-low RunLength = lit≤ tt
id_of-low Dictionary = lit≤ tt
id_of-low DeltaBinaryPacked = lit≤ tt

pub id_of-high : (e : Encoding) → id_of e ≤ 7
id_of-high Plain = lit≤ tt
id_of-high Varint = lit≤ tt
id_of-high BitPacked = lit≤ tt
id_of-high FrameOfReference = lit≤ tt
id_of-high RunLength = lit≤ tt
id_of-high Dictionary = lit≤ tt
id_of-high DeltaBinaryPacked = lit≤ tt

-- and says the encoding
pub encoding_of-id : (e : Encoding) → encoding_of (id_of e) ≡ e
unfolding encoding_of encodings
encoding_of-id Plain = refl
encoding_of-id Varint = refl
encoding_of-id BitPacked = refl
encoding_of-id FrameOfReference = refl
encoding_of-id RunLength = refl
encoding_of-id Dictionary = refl
encoding_of-id DeltaBinaryPacked = refl

-- an encoding's id is a number from 1 to 7
pub id-within : (e : Encoding) → within 1 7 (id_of e) ≡ true
id-within Plain = refl
id-within Varint = refl
id-within BitPacked = refl
id-within FrameOfReference = refl
id-within RunLength = refl
id-within Dictionary = refl
id-within DeltaBinaryPacked = refl

-- ranks are below 8
pub rank-small : (e : Encoding) → decode_cost_rank e < 8
rank-small Plain = lit< tt
rank-small Varint = lit< tt
rank-small BitPacked = lit< tt
rank-small FrameOfReference = lit< tt
rank-small RunLength = lit< tt
rank-small Dictionary = lit< tt
rank-small DeltaBinaryPacked = lit< tt

-- ids tell the encodings apart
pub id_same : (a b : Encoding) → id_of a ≡ id_of b → a ≡ b
id_same a b p = sym (encoding_of-id a) ∙ ap encoding_of p ∙ encoding_of-id b
