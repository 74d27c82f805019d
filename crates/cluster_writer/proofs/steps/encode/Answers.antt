-- `encode` meets its contract: code words and BIS cluster make the ECC cluster (Encoding).
use Rattle.cluster_writer.proofs.Encoding.{encoded}
use Rattle.cluster_writer.proofs.steps.encode.Goals as goal

pub returns : goal.returns
returns c = search (encoded)
