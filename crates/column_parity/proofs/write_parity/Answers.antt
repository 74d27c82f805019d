-- `write_parity` meets its contract: what was judged decides between the parity and the slice as it was (Statements).
use Rattle.column_parity.proofs.Statements.{may-complete, is-completed, is-refused}
use Rattle.column_parity.proofs.write_parity.Goals as goal

pub put_parity-requires : goal.put_parity-requires
put_parity-requires c = let lent = c.args in
    may-complete lent.message.now lent.parity.now c.judge.ensures c.sized-room.ensures c.and_then-answer.ensures
    c.is_done.ensures c.if-is_done.true

pub returns-then-is_done : goal.returns-then-is_done
returns-then-is_done c = let all = (is-completed _ _ c.judge.ensures c.sized-room.ensures c.and_then-answer.ensures c.is_done.ensures
    (λ k. (c.shared_slice_known-1.given k).fits) c.if-is_done.true c.put_parity.ensures) in record { parity_after = all.0; completes_exactly = all.1 }

pub returns-else-is_done : goal.returns-else-is_done
returns-else-is_done c = let all = (is-refused _ _ c.judge.ensures c.sized-room.ensures c.and_then-answer.ensures c.is_done.ensures
    (λ k. (c.shared_slice_known-1.given k).fits) c.if-is_done.false) in record { parity_after = all.0; completes_exactly = all.1 }
