-- `modulate_words` meets its contract: sixteen bits a turn, at the place that goes with it (frame_bits, Weaving). Assumes nothing.
use Rattle.frame_modulation.proofs.Going.{Going}
use Rattle.frame_modulation.proofs.steps.modulate_words.Given as goal

abbrev pub invariant-loop-k : goal.invariant-loop-k
invariant-loop-k l = Going l.words l.first l.lag l.last l.out l.k l.place l.held l.state
