-- `say` meets its contract: by the answer (Decoded).
use Rattle.decoding.proofs.Decoded.{said-done, said-refused}
use Rattle.decoding.proofs.say.Goals as goal

pub returns-then-is_done : goal.returns-then-is_done
returns-then-is_done c = search (said-done)

pub returns : goal.returns
returns c = search (said-refused)
