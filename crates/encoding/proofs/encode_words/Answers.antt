-- `encode_words` meets its contract: what the writer leaves (Encoded).
use Rattle.encoding.proofs.Encoded.{words-encoded}
use Rattle.encoding.proofs.encode_words.Goals as goal

pub returns : goal.returns
returns c = search (words-encoded)
