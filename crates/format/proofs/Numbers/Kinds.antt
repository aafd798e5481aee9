-- No two kinds of refusal have one number. So an outcome that a result says (Answers, `outcome_of`) is said by no other result: a contract that fixes the
-- one fixes the other.
use mathlib.Core.Path.{◌≡◌, refl, sym, ap, ◌∙◌, subst}
use mathlib.Core.List.{List, [], ◌∷◌}
use Prim.Native.Nat.{ℕ, ◌-◌}
use lib.ListN.{get_or}
use Rattle.std.specs.Prelude.{Result, Ok, Err}
use Rattle.format.specs.Outcome.{Outcome, refused, ok, value_or}
use Rattle.format.specs.Answers.{outcome_of}
use Rattle.format.specs.Refusals.{kind_number}
use Rattle.format.specs.declared.refusals.Kind.{Kind}
use Rattle.format.specs.declared.refusals.Kind.TheVariants.{UnknownId, NotAnIntegerEncoding, NoHeader, OtherEncoding, UnknownVersion, VarintCut, VarintTooLong, CountAboveLimit, PlainCut, NoWidth, FrameCut, WidthAbove64, PackedCut, RunsAboveCount, RunAboveRest, RunsBelowCount, EntriesAboveBytes, CodeAboveEntries, BlockSizeOutOfRange, BufferTooShort, ColumnAboveLimit, ScratchTooShort, TooManyDistinct, LevelAbove9, VarintPadded, BytesAfterBody}
use Rattle.format.specs.declared.refusals.Refusal.{Refusal}

-- in the order of their numbers
abbrev kinds : List Kind
kinds =
    UnknownId ∷ NotAnIntegerEncoding ∷ NoHeader ∷ OtherEncoding ∷ UnknownVersion ∷ VarintCut ∷ VarintTooLong
    ∷ CountAboveLimit ∷ PlainCut ∷ NoWidth ∷ FrameCut ∷ WidthAbove64 ∷ PackedCut ∷ RunsAboveCount
    ∷ RunAboveRest ∷ RunsBelowCount ∷ EntriesAboveBytes ∷ CodeAboveEntries ∷ BlockSizeOutOfRange ∷ BufferTooShort
    ∷ ColumnAboveLimit ∷ ScratchTooShort ∷ TooManyDistinct ∷ LevelAbove9 ∷ VarintPadded ∷ BytesAfterBody ∷ []

abbrev numbered : ℕ → Kind
numbered n = get_or kinds (n - 1) UnknownId

numbered-back : (kind : Kind) → numbered (kind_number kind) ≡ kind
numbered-back UnknownId = refl
numbered-back NotAnIntegerEncoding = refl
numbered-back NoHeader = refl
numbered-back OtherEncoding = refl
numbered-back UnknownVersion = refl
numbered-back VarintCut = refl
numbered-back VarintTooLong = refl
numbered-back CountAboveLimit = refl
numbered-back PlainCut = refl
numbered-back NoWidth = refl
numbered-back FrameCut = refl
numbered-back WidthAbove64 = refl
numbered-back PackedCut = refl
numbered-back RunsAboveCount = refl
numbered-back RunAboveRest = refl
numbered-back RunsBelowCount = refl
numbered-back EntriesAboveBytes = refl
numbered-back CodeAboveEntries = refl
numbered-back BlockSizeOutOfRange = refl
numbered-back BufferTooShort = refl
numbered-back ColumnAboveLimit = refl
numbered-back ScratchTooShort = refl
numbered-back TooManyDistinct = refl
numbered-back LevelAbove9 = refl
numbered-back VarintPadded = refl
numbered-back BytesAfterBody = refl

pub kind_number-one : (k l : Kind) → kind_number k ≡ kind_number l → k ≡ l
kind_number-one k l e = sym (numbered-back k) ∙ ap numbered e ∙ numbered-back l

-- a refusal by what it says, and what an outcome refuses with
abbrev refusal : ℕ → ℕ → Refusal
refusal number offset = record { kind = numbered number; offset = offset }

abbrev refusal_in : {A : Type 0} → Outcome A → Refusal
refusal_in (refused number offset) = refusal number offset
refusal_in (ok found) = refusal 0 0

refusal-back : (r : Refusal) → refusal (kind_number r.kind) r.offset ≡ r
refusal-back r = ap (λ (k : Kind). record { kind = k; offset = r.offset }) (numbered-back r.kind)

abbrev accepted : {A : Type 0} → Outcome A → Type 0
accepted (refused number offset) = ⊥
accepted (ok found) = Unit {0}

pub outcome_of-one : {A : Type 0} (r s : Result A Refusal) → outcome_of r ≡ outcome_of s → r ≡ s
outcome_of-one (Ok x) (Ok y) e = ap (λ o. Ok (value_or x o)) e
outcome_of-one (Ok x) (Err s) e = absurd (subst accepted e tt)
outcome_of-one (Err r) (Ok y) e = absurd (subst accepted (sym e) tt)
outcome_of-one (Err r) (Err s) e = ap Err (sym (refusal-back r) ∙ ap refusal_in e ∙ refusal-back s)
