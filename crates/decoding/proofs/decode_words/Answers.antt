-- `decode_words` meets its contract: what is said of what the reader leaves (Decoded).
use Rattle.decoding.proofs.Decoded.{words-decoded}
use Rattle.decoding.proofs.decode_words.Goals as goal

pub returns : goal.returns
returns c = search (words-decoded)
