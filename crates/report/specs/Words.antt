-- What is printed for an answer, a verdict and what was read of an image.
use Rattle.std.specs.Prelude.{Bool, cond, List, [], ◌++◌, ℕ}
use Rattle.answer.specs.declared.Answer.{Answer}
use Rattle.answer.specs.declared.Answer.TheVariants.{Done, WrongUser, WrongSide, WrongDc, WrongImage, WrongWork, NoMultiple, NoZone, DcWord, LastBits, Sync, Frame, BisColumn, AddressUnit, NoPsn, LdcColumn, Sector, WrongRow, WrongColumn, WrongCount, Repeated, WrongRecord, NoBench, BenchWaiting}
use Rattle.answer.specs.Answer.{number_of, place_of}
use Rattle.verdict.specs.declared.Verdict.{Verdict}
use Rattle.verdict.specs.declared.Verdict.TheVariants.{Pass, Refused, OtherPsn, OtherUser, OtherSide}
use Rattle.texts.specs.Text.{the}
use Rattle.texts.specs.Numbers.{decimal, hexadecimal}

-- ---- answers

-- what an answer means, in a line; none for 0; the place of 1, 6, 7 and 24 stands in the line before alone
abbrev pub meaning : Answer → List ℕ
meaning Done = []
meaning (WrongUser n) = the "the user data are not 65536 bytes\n"
meaning WrongSide = the "the side data are not 592 bytes\n"
meaning WrongDc = the "there are not 496 dc words\n"
meaning WrongImage = the "the image is not 119788 bytes\n"
meaning WrongWork = the "the work slice is not 76880 bytes\n"
meaning (NoMultiple n) = the "the PSN is no multiple of 32\n"
meaning (NoZone n) = the "the PSN lies in no data zone\n"
meaning (DcWord n) = the "dc word " ++ decimal n ++ the " is above 0FFFFFFF\n"
meaning LastBits = the "the last two bits are not zero\n"
meaning (Sync n) = the "the frame sync of frame " ++ decimal n ++ the " is wrong\n"
meaning (Frame n) = the "no bits give frame " ++ decimal n ++ the " and the # behind it\n"
meaning (BisColumn n) = the "BIS column " ++ decimal n ++ the " has a wrong parity\n"
meaning (AddressUnit n) = the "the address field of unit " ++ decimal n ++ the " has a wrong parity\n"
meaning NoPsn = the "no accepted PSN has these address unit numbers\n"
meaning (LdcColumn n) = the "LDC column " ++ decimal n ++ the " has a wrong parity\n"
meaning (Sector n) = the "sector " ++ decimal n ++ the " has a wrong error-detection code\n"
meaning WrongRow = the "the frame is not 155 bytes\n"
meaning WrongColumn = the "the data are not 1 to 223 bytes, or the parity is not 32\n"
meaning WrongCount = the "the sheet has not 1 to 64 PSNs\n"
meaning (Repeated n) = the "an earlier entry has the same PSN\n"
meaning WrongRecord = the "the record is no submit and no serve\n"
meaning NoBench = the "the bench is above 3\n"
meaning BenchWaiting = the "the bench has a waiting order\n"

-- number and place in a line, then what they mean
unfoldable pub answer_text : Answer → List ℕ
answer_text a = decimal (number_of a) ++ the " " ++ decimal (place_of a) ++ the "\n" ++ meaning a

-- ---- what was read, and verdicts

unfoldable pub psn_text : ℕ → List ℕ
psn_text psn = hexadecimal psn ++ the "\n"

abbrev pub first_text : Bool → List ℕ
first_text first = cond first (the "first # 1\n") (the "first # 0\n")

-- the PSN and the first #, a line each
unfoldable pub read_text : ℕ → Bool → List ℕ
read_text psn first = psn_text psn ++ first_text first

unfoldable pub verdict_text : Verdict → List ℕ
verdict_text Pass = the "pass\n"
verdict_text (Refused a) = answer_text a
verdict_text (OtherPsn psn) = the "the PSN differs: the image has " ++ psn_text psn.0
verdict_text (OtherUser n) = the "user byte " ++ decimal n ++ the " differs\n"
verdict_text (OtherSide n) = the "side byte " ++ decimal n ++ the " differs\n"
