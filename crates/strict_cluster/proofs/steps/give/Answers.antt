-- `give` meets its contract: each part from the cluster or the words (Reading).
use Rattle.strict_cluster.proofs.Reading.{given-all}
use Rattle.strict_cluster.proofs.steps.give.Goals as goal

pub returns : goal.returns
returns c = given-all _ _ _ _ _ _ _ _ c.user_bytes.ensures c.side_data.ensures c.requires.1.0 c.copy_from_slice.ensures.after
