-- The records of the queue (document 02, W-214): one byte of kind and a body.
use Rattle.std.specs.Prelude.{cond, ◌&&◌, List, ℕ, eqb, length, get_or}
use Rattle.big_endian.specs.Words.{word_at}
use Rattle.order_queue.specs.declared.Request.{Request}
use Rattle.order_queue.specs.declared.Request.TheVariants.{Submit, Serve, Unknown}

-- 01h is a submit, its body the bench number and four PSN bytes; 02h is a serve, without a body; any other record is short, long or unknown
unfoldable pub request_of : List ℕ → Request
request_of bytes =
    let kind = get_or bytes 0 0 in
    cond (eqb kind 1 && eqb (length bytes) 6) (Submit (get_or bytes 1 0) (record { 0 = word_at bytes 2 }))
    (cond (eqb kind 2 && eqb (length bytes) 1) Serve Unknown)
