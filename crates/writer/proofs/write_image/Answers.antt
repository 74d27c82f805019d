-- `write_image` meets its contract: what was judged decides between writing and refusing (Judging), and what is promised of it (Statements).
use Rattle.writer.proofs.Statements.{with-exactly}
use Rattle.writer.proofs.Judging.{may_write, is-written, is-refused}
use Rattle.writer.proofs.write_image.Goals as goal

pub write-requires : goal.write-requires
write-requires c = may_write _ _ _ _ _ _ _ c.judge-answer.ensures c.is_done.ensures c.if-is_done.true

pub returns-then-is_done : goal.returns-then-is_done
returns-then-is_done c = let all = (with-exactly _ _ _ (λ k. (c.shared_slice_known-1.given k).fits) (λ k. (c.shared_slice_known-2-1.given k).fits)
    (is-written _ _ _ _ _ _ _ _ _ c.judge-answer.ensures c.is_done.ensures _ _ c.if-is_done.true c.write.ensures)) in record { work_after = all.0; writes_exactly = all.1 }

pub returns : goal.returns
returns c = let all = (with-exactly _ _ _ (λ k. (c.shared_slice_known-1.given k).fits) (λ k. (c.shared_slice_known-2-1.given k).fits)
    (is-refused _ _ _ _ _ _ _ _ _ c.judge-answer.ensures c.is_done.ensures c.if-is_done.false)) in record { work_after = all.0; writes_exactly = all.1 }
