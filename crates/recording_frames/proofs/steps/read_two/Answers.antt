-- `read_two` meets its contract: two frames of the recording and their places in the cluster (Reading). Assumes nothing.
use mathlib.Core.Path.{◌≡◌, refl}
use Prim.Native.Nat.{◌+◌, ◌-◌, ◌*◌}
use native.Mathlib.Omega.{arith}
use Rattle.bits.specs.Bits.{bits_of}
use lib.ListN.{drop}
use Rattle.recording_frames.proofs.Reading.{frame-answer, row_is, two-rows}
use borrow.Author.Rules.{rules}
use Rattle.recording_frames.proofs.steps.read_two.Goals as goal

pub returns : goal.returns
returns c = let args = c.args in
    let l = bits_of args.image.now in
    let at = args.at in
    let n = args.n in
    let last : at + 1932 * (n + 2) ≡ at + 1932 * (n + 1 + 1) = omega arith in
    let here : at + 1932 * n + 30 ≡ at + (1932 * n + 30) = omega arith in
    let next : at + 1932 * n + 1962 ≡ at + (1932 * (n + 1) + 30) = omega arith in
    let strictly = c.read_two.ensures in
    let left = c.read_two.new.rows in
    record {
      one = frame-answer l at n c.sync_number-first.result (at + 1932 * n + 30) (at + 1932 * (n + 1)) c.sync_number-first.ensures.0 c.hash_at-hash.ensures refl here strictly.0;
      two = frame-answer l at (n + 1) c.sync_number-second.result (at + 1932 * n + 1962) (at + 1932 * (n + 2)) c.sync_number-second.ensures.0 c.hash_at-sign.ensures last next strictly.1;
      rows =
          λ e f.
          two-rows (drop at l) args.work.now left n (155 * n + 310 - 155 * n) (omega arith)
          (row_is l at n c.sync_number-first.result (at + 1932 * n + 30) (at + 1932 * (n + 1)) c.sync_number-first.ensures.0 c.hash_at-hash.ensures refl here strictly.0 e)
          (row_is l at (n + 1) c.sync_number-second.result (at + 1932 * n + 1962) (at + 1932 * (n + 2)) c.sync_number-second.ensures.0 c.hash_at-sign.ensures last next strictly.1 f);
      size = search rules;
    }
