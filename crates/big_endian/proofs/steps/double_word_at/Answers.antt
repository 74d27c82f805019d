-- `double_word_at` meets its contract: the bytes of two words (Words).
use mathlib.Core.Path.{◌∙◌}
use native.Mathlib.Omega.{arith}
use Rattle.big_endian.proofs.Words.{eight-there}
use Rattle.big_endian.proofs.steps.double_word_at.Goals as goal

pub returns : goal.returns
returns c = eight-there c.args.bytes.now c.args.at c.from.result c.from-2.result (λ k. (c.type_inv.bytes k).fits) c.requires
    (c.from.ensures ∙ c.word_at.ensures) (c.from-2.ensures ∙ c.word_at-2.ensures) (omega arith)
