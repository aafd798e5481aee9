-- The refusals' numbers (01, "Questions at the counter").
use Rattle.std.specs.Prelude.{◌≡◌, ℕ, ◌<◌, ◌≤◌, Result, MatchResult}
use Rattle.format.specs.declared.refusals.Kind.{Kind}
use Rattle.format.specs.declared.refusals.Kind.TheVariants.{UnknownId, NotAnIntegerEncoding, NoHeader, OtherEncoding, UnknownVersion, VarintCut, VarintTooLong, CountAboveLimit, PlainCut, NoWidth, FrameCut, WidthAbove64, PackedCut, RunsAboveCount, RunAboveRest, RunsBelowCount, EntriesAboveBytes, CodeAboveEntries, BlockSizeOutOfRange, BufferTooShort, ColumnAboveLimit, ScratchTooShort, TooManyDistinct, LevelAbove9, VarintPadded, BytesAfterBody}
use Rattle.format.specs.declared.refusals.UnknownNumber.{UnknownNumber}

abbrev pub kind_number : Kind → ℕ
kind_number UnknownId = 1
kind_number NotAnIntegerEncoding = 2
kind_number NoHeader = 3
kind_number OtherEncoding = 4
kind_number UnknownVersion = 5
kind_number VarintCut = 6
kind_number VarintTooLong = 7
kind_number CountAboveLimit = 8
kind_number PlainCut = 9
kind_number NoWidth = 10
kind_number FrameCut = 11
kind_number WidthAbove64 = 12
kind_number PackedCut = 13
kind_number RunsAboveCount = 14
kind_number RunAboveRest = 15
kind_number RunsBelowCount = 16
kind_number EntriesAboveBytes = 17
kind_number CodeAboveEntries = 18
kind_number BlockSizeOutOfRange = 19
kind_number BufferTooShort = 20
kind_number ColumnAboveLimit = 21
kind_number ScratchTooShort = 22
kind_number TooManyDistinct = 23
kind_number LevelAbove9 = 24
kind_number VarintPadded = 25
kind_number BytesAfterBody = 26

-- the kind with a number, or none where no kind has it
abbrev pub Numbered : ℕ → Result Kind UnknownNumber → Type 0
Numbered number r = MatchResult r (λ kind. kind_number kind ≡ number) (λ e. (e.0 ≡ number) × (1 ≤ number → 26 < number))
