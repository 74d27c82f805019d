-- `drawn` meets what `encode` asks: its PSN is accepted.
use Rattle.address.specs.Judged.{judged}
use Rattle.std.proofs.Common.{rules}
use Rattle.figures_test.proofs.clusters.drawn.Goals as goal

pub encode-requires : goal.encode-requires
unfolding judged
encode-requires c = search rules
