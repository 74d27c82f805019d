-- `encode` meets its contract: the words of its bytes, or none (Encoded).
use mathlib.Core.Path.{sym}
use lib.Seq.{length-take-le}
use Rattle.encoding.proofs.Encoded.{encode-words}
use borrow.Author.Rules.{rules}
use Rattle.encoding.proofs.encode.Goals as goal

pub slice_bounds-encode_words-end : goal.slice_bounds-encode_words-end
slice_bounds-encode_words-end c = sym (length-take-le _ _ (search rules))

pub returns : goal.returns
returns c = search (encode-words)
