-- `decode` meets its contract: with room for the words of its bytes, or none (Decoded).
use Rattle.decoding.proofs.Decoded.{decode-words}
use mathlib.Core.Path.{sym}
use lib.Seq.{length-take-le}
use borrow.Author.Rules.{rules}
use Rattle.decoding.proofs.decode.Goals as goal

pub slice_bounds-decode_words-end : goal.slice_bounds-decode_words-end
slice_bounds-decode_words-end c = sym (length-take-le _ _ (search rules))

pub returns : goal.returns
returns c = search (decode-words)
