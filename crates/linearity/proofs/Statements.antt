-- W-210. Assumes nothing.
use mathlib.Core.List.{List}
use Prim.Native.Nat.{ℕ}
use Rattle.edc.proofs.Linear.{edc-combined, edc-bytes-combined}
use Rattle.column.proofs.Linear.{parity-combined}
use Rattle.column.proofs.Parity.{is-parity-combined}
use Rattle.scrambling.specs.Scrambling.{scrambling_of}
use Rattle.scrambling.proofs.Stream.{scrambled-both, scrambled-twice, scrambled-combined}
use Rattle.sector.proofs.Frame.{frame-combined, sector-combined}
use Rattle.ldc.proofs.Linear.{information-combined, word-combined, ldc-combined}
use Rattle.linearity.specs.Linearity.{EdcLinear, ParityLinear, ScramblingDropsOut, CombinedFrames, LdcLinear}

-- THE EDC OF TWO SECTORS COMBINED IS THE COMBINATION OF THEIR EDCS
pub edc-linear : EdcLinear
edc-linear = record { numbers = edc-combined; four-bytes = edc-bytes-combined; data-frames = frame-combined }

-- SO IS THE PARITY OF TWO COLUMNS OF EQUAL LENGTH
pub parity-linear : ParityLinear
parity-linear = record { parities = parity-combined; by-roots = is-parity-combined }

-- TWO DATA FRAMES SCRAMBLED UNDER ONE PSN COMBINE TO WHAT THE PLAIN FRAMES COMBINE TO
pub scrambling-drops-out : (psn : ℕ) → ScramblingDropsOut psn
scrambling-drops-out psn =
    record {
      frames = scrambled-both (scrambling_of psn);
      undone = scrambled-twice (scrambling_of psn);
      one-part = scrambled-combined (scrambling_of psn);
      sectors = sector-combined psn;
    }

-- THE LDC CLUSTER OF COMBINED DATA FRAMES IS THE COMBINATION OF THE LDC CLUSTERS
pub ldc-linear : (f g h : ℕ → List ℕ) → CombinedFrames f g h → LdcLinear f g h
ldc-linear f g h frames =
    record {
      data-block = information-combined f g h frames.same_length frames.combination;
      code-words = word-combined f g h frames.same_length frames.combination;
      cluster = ldc-combined f g h frames.same_length frames.combination;
    }
