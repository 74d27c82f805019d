-- `put_meaning` meets its contract: each answer's piece is computed (report, Words).
use mathlib.Core.Path.{refl}
use Rattle.answer.specs.declared.Answer.TheVariants.{Done, WrongUser, WrongSide, WrongDc, WrongImage, WrongWork, NoMultiple, NoZone, DcWord, LastBits, Sync, Frame, BisColumn, AddressUnit, NoPsn, LdcColumn, Sector, WrongRow, WrongColumn, WrongCount, Repeated, WrongRecord, NoBench, BenchWaiting}
use Rattle.texts.specs.Pieces.{piece}
use Rattle.report.proofs.Words.{EachMeans, means}
use Rattle.answer_report.proofs.put_meaning.Goals.{After-put_piece}
use Rattle.answer_report.proofs.put_meaning.Goals as goal

each : (c : After-put_piece) → EachMeans _ _ _ _ _ c.put_piece.ensures
unfolding piece
each c Done = refl
each c (WrongUser n) = refl
each c WrongSide = refl
each c WrongDc = refl
each c WrongImage = refl
each c WrongWork = refl
each c (NoMultiple n) = refl
each c (NoZone n) = refl
each c (DcWord n) = refl
each c LastBits = refl
each c (Sync n) = refl
each c (Frame n) = refl
each c (BisColumn n) = refl
each c (AddressUnit n) = refl
each c NoPsn = refl
each c (LdcColumn n) = refl
each c (Sector n) = refl
each c WrongRow = refl
each c WrongColumn = refl
each c WrongCount = refl
each c (Repeated n) = refl
each c WrongRecord = refl
each c NoBench = refl
each c BenchWaiting = refl

pub returns : goal.returns
returns c = means _ _ c.args.answer _ _ _ c.put_piece.ensures c.number.ensures c.place.ensures (each (goal.at.returns c).After-put_piece)
