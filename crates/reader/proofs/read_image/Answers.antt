-- `read_image` meets its contract: the lengths, then the recording and its cluster (Reading), and what is promised of it (Statements).
use borrow.Author.Rules.{rules}
use Rattle.lengths.proofs.RightLengths.{lengths-passed}
use Rattle.reader.proofs.Reading.{is_read, is-refused}
use Rattle.reader.proofs.Statements.{with-exactly}
use Rattle.reader.proofs.read_image.Goals as goal

pub test_recording-tested-requires : goal.test_recording-tested-requires
test_recording-tested-requires c = let sizes = lengths-passed _ _ _ _ _ c.judge-given.ensures c.is_done.ensures c.if-is_done.true in
    (sizes.1, (c.no_words-words.ensures, sizes.0.work))

pub read-read-requires : goal.read-read-requires
read-read-requires c = let sizes = (lengths-passed _ _ _ _ _ c.judge-given.ensures c.is_done.ensures c.if-is_done.true).0 in
    ((c.test_recording-tested.ensures.size, sizes.user), (sizes.side, (search rules, sizes.dc)))

pub returns-then-is_done : goal.returns-then-is_done
returns-then-is_done c = let all = (with-exactly _ _ (λ k. (c.shared_slice_known-1.given k).fits)
    (is_read _ _ _ _ _ _ _ c.judge-given.ensures c.is_done.ensures _ _ _ _ _ _ _ c.if-is_done.true c.test_recording-tested.ensures c.read-read.ensures c.first_hash-first.ensures)) in record { work_after = all.0; reads_exactly = all.1 }

pub returns : goal.returns
returns c = let all = with-exactly _ _ (λ k. (c.shared_slice_known-1.given k).fits) (search (is-refused)) in record { work_after = all.0; reads_exactly = all.1 }
