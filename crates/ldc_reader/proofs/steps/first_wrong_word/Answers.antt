-- `first_wrong_word` meets its contract: a search in parts, an eighth each.
use mathlib.Core.Path.{◌≡◌, refl, subst}
use Prim.Native.Nat.{◌+◌, ◌*◌, ◌≤◌}
use native.Mathlib.Omega.{arith}
use borrow.Author.Rules.{rules}
use Rattle.laws.specs.First.{first}
use Rattle.ldc_words.specs.steps.Eighth.{wrong_of}
use Rattle.laws.proofs.First.{Passed, passed_none, first_past, first-in-part, passed-part}
use Rattle.cluster.specs.Reading.{wrong_word, first_wrong_word}
use Rattle.ldc_words.proofs.Eighth.{words-judged}
use Rattle.ldc_reader.proofs.steps.first_wrong_word.Goals as goal

pub loop-e-init : goal.loop-e-init
loop-e-init c = (search rules, passed_none)

pub returns-in-Some : goal.returns-in-Some
unfolding first_wrong_word
returns-in-Some c = let args = c.args in
    let e = c.loop-e.e in
    let found = first-in-part (38 * e) 38 _ c.loop-e.invariant.1 (words-judged args.work.now c.take_words.new.words e _ (omega arith) c.take_words.ensures c.in-Some.ensures.1) 304 (omega arith) (omega (arith, c.in-Some.ensures.0, c.in-Some.ensures.1)) in
    (omega (arith, found), found)

pub loop-e-preserved : goal.loop-e-preserved
loop-e-preserved c = let args = c.args in
    let e = c.loop-e.e in
    let words = c.take_words.new.words in
    let none : 38 ≤ first 38 (wrong_of words) = omega (arith, c.in_default.ensures) in
    let next : 38 * e + 38 ≡ 38 * (e + 1) = omega arith in
    (search rules, subst (Passed (wrong_word args.work.now)) next (passed-part (38 * e) 38 _ c.loop-e.invariant.1 (words-judged args.work.now words e _ (omega arith) c.take_words.ensures refl) none))

pub returns : goal.returns
unfolding first_wrong_word
returns c = let none = first_past {n = 304} (omega arith) c.loop-e.invariant.1 in λ h. omega (arith, none, h)
