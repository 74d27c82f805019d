-- `finish` meets its contract: the line that is begun ends (Files).
use Rattle.sheet_file.proofs.Files.{ends-file}
use Rattle.sheet_file.proofs.steps.finish.Goals as goal

pub returns : goal.returns
returns c = ends-file _ c.end_line.ensures
