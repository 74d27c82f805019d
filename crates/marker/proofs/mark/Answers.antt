-- `mark` meets its contract: the lengths of what is given, then the verdict on what is read (Judging).
use Rattle.marker.proofs.Statements.{with-pass}
use Rattle.marker.proofs.Judging.{given-right, is-marked, is-wrong}
use Rattle.marker.proofs.mark.Goals as goal

pub mark_sized-requires : goal.mark_sized-requires
mark_sized-requires c = given-right _ _ c.sized-one.ensures c.sized-two.ensures c.and_then-given.ensures c.is_done.ensures c.if-is_done.true

pub returns-then-is_done : goal.returns-then-is_done
returns-then-is_done c = let all = with-pass _ _ _ _ _ _ _ (λ k. (c.shared_slice_known-3-1.given k).fits) (search (is-marked)) in record { work_after = all.0; variant = all.1 }

pub returns : goal.returns
returns c = let all = with-pass _ _ _ _ _ _ _ (λ k. (c.shared_slice_known-3-1.given k).fits) (search (is-wrong)) in record { work_after = all.0; variant = all.1 }
