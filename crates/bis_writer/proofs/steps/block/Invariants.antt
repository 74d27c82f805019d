-- `block` meets its contract: the loop has made the columns passed.
use mathlib.Core.List.{[]}
use Rattle.laws.proofs.Fill.{Upto}
use Rattle.bis.specs.BisBlock.{code_word}
use Rattle.bis_writer.proofs.steps.block.Given as goal

abbrev pub invariant-loop-c : goal.invariant-loop-c
invariant-loop-c l = Upto [] (code_word l.fields l.side) 24 l.c l.column-items
