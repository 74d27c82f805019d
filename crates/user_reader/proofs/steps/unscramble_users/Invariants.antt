-- `unscramble_users` meets its contract: one data frame after the other (ldc_words, Eighth).
use Prim.Native.Nat.{◌*◌, ◌/◌, ◌%◌}
use lib.ListN.{get_or}
use Rattle.laws.proofs.Fill.{Upto}
use Rattle.scrambling.specs.Scrambling.{scrambled}
use Rattle.ldc_words.specs.steps.Eighth.{eighth_frame}
use Rattle.user_reader.proofs.steps.unscramble_users.Given as goal

abbrev pub invariant-loop-f : goal.invariant-loop-f
invariant-loop-f l = Upto 0 (λ k. get_or (scrambled l.stream (eighth_frame l.frames (k / 2048))) (k % 2048) 0) 8192 (2048 * l.f) l.user
