-- Document 01's table, reading: answer, PSN, first # and the four lent slices at exit, from the image and the slices at entry.
use Rattle.std.specs.Prelude.{Bool, false, ◌&&◌, cond, List, ℕ, length}
use Rattle.bits.specs.Bits.{bits_of}
use Rattle.answer.specs.declared.Answer.{Answer}
use Rattle.answer.specs.Answer.{is_done, and_then}
use Rattle.lengths.specs.Lengths.{lengths_answer}
use Rattle.scrambling.specs.Scrambling.{scrambling_of}
use Rattle.cluster.specs.Multiplex.{bis_in}
use Rattle.recording.specs.Reading.{first_hash, cluster_in, dc_in}
use Rattle.judging.specs.Tests.{last_bits_answer, syncs_answer, frames_answer, bis_columns_answer, address_fields_answer, psn_answer, cluster_psn, ldc_columns_answer, sectors_answer}
use Rattle.strict_cluster.specs.Outcome as Strict
pub use Rattle.strict_cluster.specs.Outcome.{Lent}

pub record Outcome : Type 0 where
  pub answer : Answer
  pub psn : ℕ
  pub first : Bool
  pub lent : Lent

-- the tests 9 to 16, in rising order, in the bits b of an image
unfoldable pub image_answer : List ℕ → Answer
image_answer b =
    let work = cluster_in b in
    and_then (last_bits_answer b)
    (and_then (syncs_answer b)
    (and_then (frames_answer b)
    (and_then (bis_columns_answer (bis_in work))
    (and_then (address_fields_answer (bis_in work))
    (and_then (psn_answer (bis_in work)).answer
    (and_then (ldc_columns_answer work)
    (sectors_answer (scrambling_of (cluster_psn work)) work)))))))

-- what is read of a cluster, and # of the sync of frame 0, which is false on refusal
abbrev pub with_first : Bool → Strict.Outcome → Outcome
with_first first read = record { answer = read.answer; psn = read.psn; first = is_done read.answer && first; lent = read.lent }

-- accepted, or refused by them
unfoldable pub image_outcome : List ℕ → Lent → Outcome
image_outcome b before = with_first (first_hash b) (Strict.outcome_by (image_answer b) (cluster_in b) (dc_in b) before)

-- 1 to 5: the lengths
abbrev pub sizes_answer : List ℕ → Lent → Answer
sizes_answer image before = lengths_answer (length before.user) (length before.side) (length before.dc) (length image) (length before.work)

-- refused by 1 to 5: the PSN is 0, the first # false and every slice as it was
abbrev pub wrong_sizes : Answer → Lent → Outcome
wrong_sizes answer before = record { answer = answer; psn = 0; first = false; lent = before }

unfoldable pub outcome : List ℕ → Lent → Outcome
outcome image before = cond (is_done (sizes_answer image before)) (image_outcome (bits_of image) before) (wrong_sizes (sizes_answer image before) before)
