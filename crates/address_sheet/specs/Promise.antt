-- Document 02, W-211: which sheets are accepted, and what a refusal says.
use Rattle.std.specs.Prelude.{◌≡◌, ℕ, ◌≤◌, ◌<◌}
use Rattle.answer.specs.declared.Answer.{Answer}
use Rattle.answer.specs.declared.Answer.TheVariants.{Done, NoMultiple, NoZone, WrongCount, Repeated}
use Rattle.answer.specs.Answer.{number_of}
use Rattle.address.specs.Judged.{judged}

-- 1 to 64
pub record RightCount (count : ℕ) : Type 0 where
  pub some : 1 ≤ count
  pub most : count ≤ 64

-- 1 to 64 PSNs, each accepted alone, and no two of them equal
pub record RightSheet (count : ℕ) (psn : ℕ → ℕ) : Type 0 where
  pub size : RightCount count
  pub alone : (i : ℕ) → i < count → judged (psn i) ≡ Done
  pub apart : (i j : ℕ) → i < count → j < count → (i ≡ j → ⊥) → psn i ≡ psn j → ⊥

-- the PSN of entry i, alone, would be answered by this number
abbrev pub AloneBy : ℕ → (ℕ → ℕ) → ℕ → Type 0
AloneBy number psn i = number_of (judged (psn i)) ≡ number

-- entry i has the PSN of an earlier one
pub record RepeatsEarlier (psn : ℕ → ℕ) (i : ℕ) : Type 0 where
  pub earlier : ℕ
  pub before : earlier < i
  pub same : psn earlier ≡ psn i

-- entry i is the lowest of which something holds
pub record Lowest (count : ℕ) (Holds : ℕ → Type 0) (i : ℕ) : Type 0 where
  pub within : i < count
  pub here : Holds i
  pub below : (k : ℕ) → k < i → Holds k → ⊥

-- what each answer says of a sheet; no other is given
pub data Says (count : ℕ) (psn : ℕ → ℕ) : Answer → Type 0 where
  at-0 : RightSheet count psn → Says count psn Done
  at-23 : (RightCount count → ⊥) → Says count psn WrongCount
  at-6 : (i : ℕ) → RightCount count → Lowest count (AloneBy 6 psn) i → Says count psn (NoMultiple i)
  at_7 : (i : ℕ) → RightCount count → ((k : ℕ) → k < count → AloneBy 6 psn k → ⊥) → Lowest count (AloneBy 7 psn) i → Says count psn (NoZone i)
  at-24 : (i : ℕ) → RightCount count → ((k : ℕ) → k < count → judged (psn k) ≡ Done) → Lowest count (RepeatsEarlier psn) i → Says count psn (Repeated i)
