-- `sync_word` meets its contract (SyncTables). Assumes nothing.
use mathlib.Core.Bool.{Bool}
use mathlib.Core.Path.{sym, ap, ◌∙◌}
use native.Mathlib.Omega.{arith}
use Rattle.bits.specs.Bits.{number}
use Rattle.modulation.specs.Bits.{bits}
use Rattle.modulation.specs.Sync.{sync}
use Rattle.frame_sync.specs.Sync.{fs}
use Rattle.frame_sync.proofs.SyncTables.{id-small, sync-zero, sync-one}
use Rattle.frame_sync.proofs.steps.sync_word.Goals as goal

pub overflow_cast-id : goal.overflow_cast-id
overflow_cast-id c = record { fits = omega (arith, id-small c.args.number c.requires) }

pub overflow_add-result-then-hash : goal.overflow_add-result-then-hash
overflow_add-result-then-hash c = record { fits = omega (arith, id-small c.args.number c.requires) }

pub returns-then-hash : goal.returns-then-hash
returns-then-hash c = let n = c.args.number in
    (sync-one n c.requires ∙ ap (λ (b : Bool). number (bits (sync b (fs n)))) (sym c.if-hash.true), omega (arith, id-small n c.requires))

pub overflow_add-result-2 : goal.overflow_add-result-2
overflow_add-result-2 c = record { fits = omega (arith, id-small c.args.number c.requires) }

pub returns : goal.returns
returns c = let n = c.args.number in
    (sync-zero n c.requires ∙ ap (λ (b : Bool). number (bits (sync b (fs n)))) (sym c.if-hash.false), omega (arith, id-small n c.requires))
