-- `take_frames` meets its contract: the information bytes of the code words are the data frames (ldc_words, Eighth).
use borrow.Author.Rules.{rules}
use Rattle.ldc_words.proofs.Eighth.{frames-taken}
use Rattle.sector_reader.proofs.steps.take_frames.Goals as goal

pub returns : goal.returns
returns c = search (rules, frames-taken)
