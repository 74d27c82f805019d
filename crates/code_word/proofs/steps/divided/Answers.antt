-- `divided` meets its contract: both loops hold the remainder of the bytes passed. Assumes nothing.
use mathlib.Core.Path.{◌≡◌, ap, subst, ◌∙◌}
use mathlib.Core.List.{List, [], ◌∷◌}
use Prim.Native.Nat.{ℕ, ◌+◌, ◌*◌, ◌-◌, ◌/◌, ◌<◌}
use native.Mathlib.Omega.{arith}
use lib.ListN.{length, get_or, take, drop, length-drop}
use lib.Seq.{take_all, get_or-drop}
use Rattle.column.specs.Column.{remainder}
use Rattle.column.proofs.Register.{Divided, divided-more, divided-next}
use Rattle.register.specs.steps.Register.{divisor}
use Rattle.register.proofs.Eight.{register-length, padded-zeros, divided-zeros, divided-parity-32}
use Rattle.remainders.proofs.Table.{all_first}
use Rattle.code_word.proofs.steps.divided.Goals as goal

-- the bytes from n on are taken one by one
module _ (message : List ℕ) (n : ℕ) where
  abbrev rest : List ℕ
  rest = take (length message - n) (drop n message)

  rest-whole : rest ≡ drop n message
  rest-whole = take_all (length message - n) (drop n message) (omega (arith, length-drop n message))

  rest-length : length rest ≡ length message - n
  rest-length = ap length rest-whole ∙ length-drop n message

  rest-next : {now next : List ℕ} {i : ℕ} → i < length rest → next ≡ remainder divisor now (get_or rest i 0 ∷ []) → Divided divisor message (n + i) now
      → Divided divisor message (n + (i + 1)) next
  unfolding remainder
  rest-next {now} {next} {i} h e held =
      let byte : get_or rest i 0 ≡ get_or message (n + i) 0 = ap (λ (l : List ℕ). get_or l i 0) rest-whole ∙ get_or-drop n message i 0 in
      let more : n + i + 1 ≡ n + (i + 1) = omega arith in
      subst (λ (k : ℕ). Divided divisor message k next) more (divided-next (omega (arith, rest-length)) (e ∙ ap (λ (b : ℕ). remainder divisor now (b ∷ [])) byte) held)

pub loop-k-init : goal.loop-k-init
loop-k-init c = (padded-zeros c.zeros-register.ensures, divided-zeros _ c.zeros-register.ensures)

pub loop-k-preserved : goal.loop-k-preserved
loop-k-preserved c = let padded = c.pushed_eight-next.ensures.0 in
    let next : 8 * c.loop-k.k + 8 ≡ 8 * (c.loop-k.k + 1) = omega arith in
    let more = divided-more 8 (omega arith) (register-length padded) c.pushed_eight-next.ensures.1 c.loop-k.invariant.1 in
    (padded, subst (λ (n : ℕ). Divided divisor c.args.message.now n (take 32 c.pushed_eight-next.result)) next more)

pub loop-byte-init : goal.loop-byte-init
loop-byte-init c = let end : 8 * c.loop-k.k ≡ 8 * (length c.args.message.now / 8) + 0 = omega arith in
    (c.loop-k.invariant.0, subst (λ (n : ℕ). Divided divisor c.args.message.now n (take 32 c.loop-k.register)) end c.loop-k.invariant.1)

pub pushed_byte-next-requires : goal.pushed_byte-next-requires
pushed_byte-next-requires c = (all_first c.requires, c.loop-byte.invariant.0)

pub loop-byte-preserved : goal.loop-byte-preserved
loop-byte-preserved c = let pushed = c.pushed_byte-next.ensures in
    (pushed.0, rest-next c.args.message.now (8 * (length c.args.message.now / 8)) c.loop-byte-test.true pushed.1 c.loop-byte.invariant.1)

pub returns : goal.returns
returns c = let held = c.loop-byte.invariant in
    (held.0, divided-parity-32 _ (omega (arith, rest-length c.args.message.now (8 * (length c.args.message.now / 8)))) held.1)
