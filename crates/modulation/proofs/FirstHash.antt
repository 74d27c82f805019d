-- # of the first sync is the first bit of a run of frames, and no other bit depends on it. Assumes nothing.
use mathlib.Core.Bool.{Bool, true, false, cond}
use mathlib.Core.List.{List, ◌∷◌, ◌++◌}
use mathlib.Core.Path.{◌≡◌, refl, sym, ap, ◌∙◌}
use Prim.Native.Nat.{ℕ, zero, suc}
use lib.ListN.{drop}
use Rattle.modulation.specs.Modulation.{Three, m001, m101}
use Rattle.modulation.specs.Bits.{bits}
use Rattle.modulation.specs.Sync.{sync}
use Rattle.modulation.specs.Stream.{Recording, hash, modulated, recorded, run, stream}

-- the first group of a sync
abbrev first_group : Bool → Three
first_group h = cond h m101 m001

group-bit : (g h : Bool) (ms : List Three) → bits (first_group h ∷ ms) ≡ cond h 1 0 ∷ drop 1 (bits (first_group g ∷ ms))
group-bit true true ms = refl
group-bit true false ms = refl
group-bit false true ms = refl
group-bit false false ms = refl

module _ (c : Recording) where
  -- the same frames behind another first #
  abbrev begun : Bool → Recording
  begun h = record { first = h; number = c.number; frames = c.frames }

  -- what follows the first group, of the frames up to n
  unfoldable behind : ℕ → List Three
  behind zero = drop 1 (sync false (c.number 0)) ++ (modulated (c.number 0) (c.frames 0)).groups
  behind (suc n) = behind n ++ recorded c (suc n)

  run-behind : (h : Bool) (n : ℕ) → run (begun h) (suc n) ≡ first_group h ∷ behind n
  unfolding run behind
  run-behind h zero = refl
  run-behind h (suc n) = ap (λ (l : List Three). l ++ recorded c (suc n)) (run-behind h n)

  pub stream-first-bit : (h : Bool) (n : ℕ) → bits (stream (begun h) (suc n)) ≡ cond h 1 0 ∷ drop 1 (bits (stream c (suc n)))
  stream-first-bit h n =
      let end = sync (hash c (suc n)) (c.number (suc n)) in
      ap (λ (l : List Three). bits (l ++ end)) (run-behind h n)
      ∙ group-bit c.first h (behind n ++ end)
      ∙ ap (λ (l : List Three). cond h 1 0 ∷ drop 1 (bits (l ++ end))) (sym (run-behind c.first n))
