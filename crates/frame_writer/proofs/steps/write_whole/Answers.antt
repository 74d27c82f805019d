-- `write_whole` meets its contract (Image). Assumes nothing.
use mathlib.Core.Path.{refl}
use native.Mathlib.Omega.{arith}
use Rattle.frame_writer.proofs.Image.{part-size, written-even, written-odd}
use Rattle.frame_writer.proofs.steps.write_whole.Goals as goal

pub modulate-requires : goal.modulate-requires
modulate-requires c = let size = part-size c.args.image.now c.args.at c.requires.1.1.1 c.requires.1.1.0 in
    ((c.requires.0.0, (c.requires.0.1, size)), record { some = omega arith; most = omega arith; front = c.sync_word-sync.ensures.1; back = omega arith })

pub returns-then-at-eq0 : goal.returns-then-at-eq0
returns-then-at-eq0 c = let args = c.args in
    let word = c.sync_word-sync in
    written-even args.number c.requires.1.0 args.hash args.row.now args.dc args.image.now _ args.at word.result c.modulate.result
    word.ensures.0 c.requires.1.1.1 c.if-at-eq0.true c.modulate.ensures

pub modulate-requires-2 : goal.modulate-requires-2
modulate-requires-2 c = let size = part-size c.args.image.now c.args.at c.requires.1.1.1 c.requires.1.1.0 in (
  (c.requires.0.0, (c.requires.0.1, size)),
  record {
    some = omega arith;
    most = omega arith;
    front = omega (arith, c.from.ensures, c.sync_word-sync.ensures.1);
    back = omega arith;
  },
)

pub returns : goal.returns
returns c = let args = c.args in
    let word = c.sync_word-sync in
    written-odd args.number c.requires.1.0 args.hash args.row.now args.dc args.image.now _ args.at word.result c.modulate-2.result
    word.ensures.0 c.requires.1.1.1 (omega arith) c.from.ensures (omega (arith, c.from.ensures)) refl c.modulate-2.ensures
