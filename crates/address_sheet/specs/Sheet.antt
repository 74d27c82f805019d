-- A sheet of addresses (document 02, W-211): 1 to 64 PSNs, accepted or refused as a whole. Its tests in order, each over all entries before the next.
use Rattle.std.specs.Prelude.{Bool, cond, ◌&&◌, List, ℕ, leb, ltb, eqb, get_or}
use Rattle.answer.specs.declared.Answer.{Answer}
use Rattle.answer.specs.declared.Answer.TheVariants.{Done, NoMultiple, NoZone, WrongCount, Repeated}
use Rattle.answer.specs.Answer.{number_of, and_then, lowest}
use Rattle.address.specs.declared.Psn.{Psn}
use Rattle.address.specs.Judged.{judged}
use Rattle.laws.specs.First.{first}

-- 23 for a count outside 1 to 64
abbrev pub count_answer : ℕ → Answer
count_answer count = cond (leb 1 count && leb count 64) Done WrongCount

-- ---- a sheet by the PSN of each entry, counted from 0

-- the entry's PSN would alone be answered by this number
abbrev pub alone_by : ℕ → (ℕ → ℕ) → ℕ → Bool
alone_by number psn i = eqb (number_of (judged (psn i))) number

-- entry j has the PSN of entry i
abbrev pub same_as : (ℕ → ℕ) → ℕ → ℕ → Bool
same_as psn i j = eqb (psn j) (psn i)

-- an earlier entry has the same PSN
abbrev pub repeats : (ℕ → ℕ) → ℕ → Bool
repeats psn i = ltb (first i (same_as psn i)) i

-- a test of all entries; the lowest that fails is the place
abbrev pub over_all : (ℕ → Answer) → ℕ → (ℕ → Bool) → Answer
over_all refusal count fails = lowest refusal count (first count fails)

-- test 6 over all entries, then 7, then repetitions
abbrev pub entries_answer : ℕ → (ℕ → ℕ) → Answer
entries_answer count psn = and_then (over_all NoMultiple count (alone_by 6 psn)) (and_then (over_all NoZone count (alone_by 7 psn)) (over_all Repeated count (repeats psn)))

unfoldable pub sheet_answer : ℕ → (ℕ → ℕ) → Answer
sheet_answer count psn = and_then (count_answer count) (entries_answer count psn)

-- the PSN of each entry of an array
abbrev pub entry_psn : List Psn → ℕ → ℕ
entry_psn psns i = (get_or psns i (record { 0 = 0 })).0
