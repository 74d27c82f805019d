-- `first_wrong_of` meets its contract: a search from the front.
use mathlib.Core.Bool.{true, false}
use Prim.Native.Nat.{◌-◌, ◌+◌, ◌*◌}
use native.Mathlib.Omega.{arith}
use Rattle.laws.proofs.First.{passed_none, passed-more, first-here, first_past}
use Rattle.ldc_words.proofs.Eighth.{word-judged}
use Rattle.ldc_reader.proofs.steps.first_wrong_of.Goals as goal

pub loop-j-init : goal.loop-j-init
loop-j-init c = passed_none

pub loop-j-preserved : goal.loop-j-preserved
loop-j-preserved c = let args = c.args in
    let j = c.loop-j.j in
    passed-more c.loop-j.invariant (word-judged args.words.now j (248 * j + 248 - 248 * j) _ true (omega arith) c.is_code_word.ensures c.if-not-is_code_word.false)

pub returns-then-not-is_code_word : goal.returns-then-not-is_code_word
returns-then-not-is_code_word c = let args = c.args in
    let j = c.loop-j.j in
    let found = first-here {n = 38} (omega arith) c.loop-j.invariant (word-judged args.words.now j (248 * j + 248 - 248 * j) _ false (omega arith) c.is_code_word.ensures c.if-not-is_code_word.true) in
    (omega (arith, found), found)

pub returns : goal.returns
returns c = let none = first_past {n = 38} (omega arith) c.loop-j.invariant in λ h. omega (arith, none, h)
