-- `first_wrong_frame` meets its contract: a search from the front.
use Rattle.laws.proofs.First.{Passed}
use Rattle.ldc_words.specs.steps.Eighth.{wrong_frame}
use Rattle.sector_reader.proofs.steps.first_wrong_frame.Given as goal

abbrev pub invariant-loop-f : goal.invariant-loop-f
invariant-loop-f l = Passed (wrong_frame l.stream l.frames) l.f
