-- Document 01's tests 9 to 16, each as an answer: `Done`, or the refusal with the lowest place that fails.
use Rattle.std.specs.Prelude.{◌&&◌, cond, List, ℕ, ◌+◌, eqb, get_or}
use Rattle.sizes.specs.Sizes.{frame_count, recording_size}
use Rattle.answer.specs.declared.Answer.{Answer}
use Rattle.answer.specs.declared.Answer.TheVariants.{Done, LastBits, Sync, Frame, BisColumn, AddressUnit, NoPsn, LdcColumn, Sector}
use Rattle.answer.specs.Answer.{lowest}
use Rattle.address.specs.declared.PsnAnswer.{PsnAnswer}
use Rattle.bis.specs.declared.PsnFound.{PsnFound}
use Rattle.bis.specs.declared.PsnFound.TheVariants.{Found, NotFound}
use Rattle.bis.specs.Reading.{first_wrong_column, first_wrong_field, psn_in}
use Rattle.cluster.specs.Multiplex.{bis_in}
use Rattle.cluster.specs.Reading.{first_wrong_word, first_wrong_sector}
use Rattle.recording.specs.Reading.{first_wrong_sync, first_no_frame}

-- ---- in the bits b of an image

-- 9: the last two are zero
unfoldable pub last_bits_answer : List ℕ → Answer
last_bits_answer b = cond (eqb (get_or b (recording_size + 30) 0) 0 && eqb (get_or b (recording_size + 31) 0) 0) Done LastBits

-- ---- in the bits b of a recording, from its first on

-- 10: the syncs, of which # is not judged (W-201)
unfoldable pub syncs_answer : List ℕ → Answer
syncs_answer b = lowest Sync 497 (first_wrong_sync b)

-- 11: the frames
unfoldable pub frames_answer : List ℕ → Answer
frames_answer b = lowest Frame frame_count (first_no_frame b)

-- ---- in a BIS block

-- 12: the columns
unfoldable pub bis_columns_answer : List (List ℕ) → Answer
bis_columns_answer block = lowest BisColumn 24 (first_wrong_column block)

-- 13: the address fields
unfoldable pub address_fields_answer : List (List ℕ) → Answer
address_fields_answer block = lowest AddressUnit 16 (first_wrong_field block)

-- 14: the accepted PSN that has the sixteen AUNs, or none and 0
abbrev pub found_answer : PsnFound → PsnAnswer
found_answer (Found psn) = record { answer = Done; psn = psn }
found_answer NotFound = record { answer = NoPsn; psn = record { 0 = 0 } }

unfoldable pub psn_answer : List (List ℕ) → PsnAnswer
psn_answer block = found_answer (psn_in block)

-- ---- in an ECC cluster

-- the PSN of its BIS block, 0 where there is none
abbrev pub cluster_psn : List ℕ → ℕ
cluster_psn work = (psn_answer (bis_in work)).psn.0

-- 15: the LDC columns
unfoldable pub ldc_columns_answer : List ℕ → Answer
ldc_columns_answer work = lowest LdcColumn 304 (first_wrong_word work)

-- 16: the sectors, scrambled with a stream
unfoldable pub sectors_answer : List ℕ → List ℕ → Answer
sectors_answer stream work = lowest Sector 32 (first_wrong_sector stream work)
