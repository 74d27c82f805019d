-- What a caller in another language sees of the marker's verdict: numbers instead of an enum.
use Rattle.std.specs.Prelude.{ℕ}
use Rattle.reader.specs.Outcome as reader
use Rattle.verdict.specs.Verdict.{kind_of, refusal_in, own_psn, place_in}
use Rattle.marker.specs.Marked as marker

-- the verdict as a number, its parts, and the four slices that it is lent
pub record MarkedNumbers : Type 0 where
  pub verdict : ℕ
  pub number : ℕ
  pub psn : ℕ
  pub place : ℕ
  pub lent : reader.Lent

abbrev pub marked_numbers : marker.Marked → MarkedNumbers
marked_numbers m = record { verdict = kind_of m.verdict; number = refusal_in m.verdict; psn = own_psn m.verdict; place = place_in m.verdict; lent = m.lent }
