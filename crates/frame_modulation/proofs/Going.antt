-- The loop over a frame's words. Assumes nothing.
use mathlib.Core.List.{List}
use mathlib.Core.Path.{◌≡◌}
use Prim.Native.Nat.{ℕ, ◌%◌, ◌<◌}
use lib.ListN.{length}
use Rattle.modulation.specs.Bits.{pairs}
use Rattle.modulation.specs.steps.Words as words
use Rattle.modulator.proofs.Turning.{Turning, turning-none, turning-small}
use Rattle.frame_bits.specs.steps.Words.{SixteenFrom}
use Rattle.frame_bits.proofs.Weaving.{At, at_none, at-inside}
use Rattle.frame_modulation.specs.steps.Around.{Around}

-- k turns are done, at the place that goes with them; words and bits around the frame stay as they are
pub record Going (ws : List ℕ) (first lag last : ℕ) (out : List ℕ) (k place held state : ℕ) : Type 0 where
  pub words_are : words.Words ws
  pub around : Around first lag last
  pub turning : Turning first lag (pairs (words.bits_in ws)) out k held state
  pub stands : At k place

module _ {ws : List ℕ} {first lag last : ℕ} where
  pub going-none : {out : List ℕ} {state : ℕ} → words.Words ws → Around first lag last → length out ≡ 242 → state ≡ first % 2 → Going ws first lag last out 0 20 first state
  going-none w a size e = record { words_are = w; around = a; turning = turning-none size a.front e; stands = at_none }

  module _ {out : List ℕ} {k place held state : ℕ} (g : Going ws first lag last out k place held state) where
    pub going-inside : k < 79 → words.Words ws × SixteenFrom place
    going-inside h = (g.words_are, at-inside g.stands h)

    pub going-small : held < 70368744177664
    going-small = turning-small g.turning g.around.most
