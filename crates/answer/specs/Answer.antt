-- The numbers and places of document 01, and those of document 02 that have landed; and tests one after the other.
use Rattle.std.specs.Prelude.{Bool, cond, ℕ, eqb, ltb}
use Rattle.answer.specs.declared.Answer.{Answer}
use Rattle.answer.specs.declared.Answer.TheVariants.{Done, WrongUser, WrongSide, WrongDc, WrongImage, WrongWork, NoMultiple, NoZone, DcWord, LastBits, Sync, Frame, BisColumn, AddressUnit, NoPsn, LdcColumn, Sector, WrongRow, WrongColumn, WrongCount, Repeated, WrongRecord, NoBench, BenchWaiting}

abbrev pub number_of : Answer → ℕ
number_of Done = 0
number_of (WrongUser n) = 1
number_of WrongSide = 2
number_of WrongDc = 3
number_of WrongImage = 4
number_of WrongWork = 5
number_of (NoMultiple n) = 6
number_of (NoZone n) = 7
number_of (DcWord n) = 8
number_of LastBits = 9
number_of (Sync n) = 10
number_of (Frame n) = 11
number_of (BisColumn n) = 12
number_of (AddressUnit n) = 13
number_of NoPsn = 14
number_of (LdcColumn n) = 15
number_of (Sector n) = 16
number_of WrongRow = 21
number_of WrongColumn = 22
number_of WrongCount = 23
number_of (Repeated n) = 24
number_of WrongRecord = 26
number_of NoBench = 27
number_of BenchWaiting = 28

abbrev pub place_of : Answer → ℕ
place_of Done = 0
place_of (WrongUser n) = n
place_of WrongSide = 0
place_of WrongDc = 0
place_of WrongImage = 0
place_of WrongWork = 0
place_of (NoMultiple n) = n
place_of (NoZone n) = n
place_of (DcWord n) = n
place_of LastBits = 0
place_of (Sync n) = n
place_of (Frame n) = n
place_of (BisColumn n) = n
place_of (AddressUnit n) = n
place_of NoPsn = 0
place_of (LdcColumn n) = n
place_of (Sector n) = n
place_of WrongRow = 0
place_of WrongColumn = 0
place_of WrongCount = 0
place_of (Repeated n) = n
place_of WrongRecord = 0
place_of NoBench = 0
place_of BenchWaiting = 0

abbrev pub is_done : Answer → Bool
is_done a = eqb (number_of a) 0

-- ---- tests

-- two tests in rising order: the second speaks where the first is passed
abbrev pub and_then : Answer → Answer → Answer
and_then a next = cond (is_done a) next a

-- a test of the indexes below n, of which i is the lowest that fails; i is n where none does
abbrev pub lowest : (ℕ → Answer) → ℕ → ℕ → Answer
lowest refusal n i = cond (ltb i n) (refusal i) Done
