-- `modulate` meets its contract: the words hold the frame's bits. Assumes nothing.
use mathlib.Core.List.{List}
use mathlib.Core.Path.{subst}
use Prim.Native.Nat.{ℕ}
use Rattle.modulation.specs.Bits.{pairs}
use Rattle.modulator.specs.steps.Put.{FramePut}
use Rattle.frame_modulation.proofs.steps.modulate.Goals as goal

pub returns : goal.returns
returns c = subst (λ (b : List ℕ). FramePut c.args.first c.args.lag c.args.last (pairs b) c.modulate_words.new.out c.modulate_words.result)
    c.frame_words.ensures.1 c.modulate_words.ensures
