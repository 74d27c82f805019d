-- `data_frame` meets its contract, case by case of the lengths: the pass, then the scrambled code (Writing).
use native.Mathlib.Omega.{arith}
use Rattle.sector.proofs.Writing.{other-user, other-frame, both-lengths, written-frame}
use Rattle.sector.proofs.data_frame.Goals as goal

pub returns-then-user-ne2048 : goal.returns-then-user-ne2048
returns-then-user-ne2048 c = search (other-user)

pub returns-then-frame-ne2052 : goal.returns-then-frame-ne2052
returns-then-frame-ne2052 c = search (other-frame)

pub returns : goal.returns
returns c = let args = c.args in
    both-lengths args.user.now args.stream.now args.frame.now _ (omega arith) (omega arith)
    (written-frame args.user.now args.stream.now args.frame.now c.write.new.frame c.word_bytes.result c.copy_from_slice.new.self c.write.result
    c.code_stream.result (omega arith) (omega arith) (λ k. (c.type_inv.stream k).fits) c.write.ensures c.code_stream.ensures c.word_bytes.ensures
    c.copy_from_slice.ensures.after)
