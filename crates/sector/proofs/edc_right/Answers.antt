-- `edc_right` meets its contract: another length, and 2,052 bytes (Writing).
use native.Mathlib.Omega.{arith}
use Rattle.sector.proofs.Writing.{other_length, code-compared}
use Rattle.sector.proofs.edc_right.Goals as goal

pub returns-then-frame-ne2052 : goal.returns-then-frame-ne2052
returns-then-frame-ne2052 c = search (other_length)

pub returns : goal.returns
returns c = let args = c.args in
    code-compared args.frame.now args.stream.now c.read.result c.word_at.result c.code_stream.result (omega arith) (λ k. (c.type_inv.frame k).fits)
    (λ k. (c.type_inv.stream k).fits) c.read.ensures c.word_at.ensures c.code_stream.ensures
