-- `block` meets its contract: the loop has made the columns passed.
use mathlib.Core.Path.{refl, ap, ◌∙◌}
use mathlib.Core.List.{List}
use Prim.Native.Nat.{ℕ}
use native.Mathlib.Omega.{arith}
use Rattle.laws.specs.Tabulate.{tabulate}
use Rattle.laws.proofs.Fill.{upto-none, upto-more, upto_all}
use Rattle.bis.specs.BisBlock.{code_word, bis_block}
use Rattle.bis_writer.proofs.steps.block.Goals as goal

pub loop-c-init : goal.loop-c-init
loop-c-init c = upto-none refl

pub loop-c-preserved : goal.loop-c-preserved
loop-c-preserved c = search (upto-more, arith)

pub returns : goal.returns
unfolding bis_block
returns c =
    upto_all (omega arith) c.loop-c.invariant ∙ ap (λ (f : List (List ℕ)). tabulate 24 (code_word f c.args.side.now)) c.address_fields-fields.ensures
