-- What is promised of a column's parity, on the outcome, for data of any length. Assumes nothing.
use mathlib.Core.Path.{◌≡◌, sym, ap, ap₂, subst, ◌∙◌}
use mathlib.Core.Bool.{Bool, true, false, cond}
use mathlib.Core.List.{List}
use Prim.Native.Nat.{ℕ}
use native.Mathlib.Omega.{arith}
use lib.ListN.{length}
use Rattle.laws.specs.Bytes.{Bytes}
use Rattle.answer.specs.declared.Answer.{Answer}
use Rattle.answer.specs.declared.Answer.TheVariants.{Done, WrongColumn}
use Rattle.answer.specs.Answer.{number_of, is_done, and_then}
use Rattle.answer.proofs.Tests.{number-zero, done-or-not, done-told}
use Rattle.lengths.specs.Lengths.{sized}
use Rattle.column.specs.Column.{ParityExactly, parity}
use Rattle.column.proofs.Multiple.{parity-exactly}
use Rattle.column_parity.specs.Outcome.{data_answer, answer, Outcome, outcome}
use Rattle.column_parity.specs.Promise.{RightColumn, CompletesExactly}
use Rattle.column_parity.proofs.Lengths.{column-right, column-done, column-refused}

module _ (message before : List ℕ) where
  -- 1 to 223 data bytes and a parity slice of 32: the parity is left
  completed-is : RightColumn (length message) (length before) → outcome message before ≡ record { answer = Done; parity = parity 32 message }
  unfolding outcome
  completed-is right = ap (λ (a : Answer). record { answer = a; parity = cond (is_done a) (parity 32 message) before }) (column-right (length message) (length before) right)

  -- else 22, and the slice as it was
  refused-is : is_done (answer (length message) (length before)) ≡ false → outcome message before ≡ record { answer = WrongColumn; parity = before }
  unfolding outcome
  refused-is h = ap (λ (a : Answer). record { answer = a; parity = cond (is_done a) (parity 32 message) before }) (column-refused (length message) (length before) h)

  -- FROM 1 TO 223 DATA BYTES: what is left is the only 32 bytes that give the column the roots α^0 to α^31, and exactly they make it a
  -- multiple of the generator
  pub left-only : Bytes message → RightColumn (length message) (length before) → ParityExactly 32 message (outcome message before).parity
  left-only bytes right = subst (λ (o : Outcome). ParityExactly 32 message o.parity) (sym (completed-is right)) (parity-exactly 32 (omega arith) message bytes)

  answered : (number_of (outcome message before).answer ≡ 0) → RightColumn (length message) (length before)
  unfolding outcome
  answered e = column-done (length message) (length before) (number-zero (answer (length message) (length before)) e)

  kept : (number_of (outcome message before).answer ≡ 0 → ⊥) → is_done (answer (length message) (length before)) ≡ false
  unfolding outcome
  kept h = done-or-not (answer (length message) (length before)) h

  -- the whole promise: 0 for these lengths alone, and 22 else
  pub completes-exactly : Bytes message → CompletesExactly message before (number_of (outcome message before).answer) (outcome message before).parity
  completes-exactly bytes =
      record {
        zero-iff = (answered, λ right. ap (λ (o : Outcome). number_of o.answer) (completed-is right));
        only = λ e. left-only bytes (answered e);
        refused = λ h. let is = refused-is (kept h) in (ap (λ (o : Outcome). number_of o.answer) is, ap (λ (o : Outcome). o.parity) is);
      }

  -- as the contract has it: o is the answer and the slice at exit
  with-exactly : {o : Outcome} → Bytes message → o ≡ outcome message before
      → (o ≡ outcome message before) × CompletesExactly message before (number_of o.answer) o.parity
  with-exactly bytes e = (e, subst (λ (o : Outcome). CompletesExactly message before (number_of o.answer) o.parity) (sym e) (completes-exactly bytes))

  -- as the code has it: a and b are the two tests, r what they answer, d whether it is `Done`
  module _ {a b r : Answer} {d : Bool} (ha : a ≡ data_answer (length message)) (hb : b ≡ sized (length before) 32 WrongColumn) (hr : r ≡ and_then a b) (hd : d ≡ is_done r) where
    is-answer : r ≡ answer (length message) (length before)
    is-answer = hr ∙ ap₂ and_then ha hb

    done : d ≡ true → answer (length message) (length before) ≡ Done
    done t = done-told is-answer hd t

    pub may-complete : d ≡ true → length before ≡ 32
    may-complete t = (column-done (length message) (length before) (done t)).room

    pub is-completed : {after : List ℕ} → Bytes message → d ≡ true → after ≡ parity 32 message
        → (record { answer = r; parity = after } ≡ outcome message before) × CompletesExactly message before (number_of r) after
    is-completed bytes t e =
        with-exactly bytes
        ((λ i. record { answer = (is-answer ∙ done t) i; parity = e i }) ∙ sym (completed-is (column-done (length message) (length before) (done t))))

    pub is-refused : Bytes message → d ≡ false → (record { answer = r; parity = before } ≡ outcome message before) × CompletesExactly message before (number_of r) before
    is-refused bytes t =
        let no = sym (ap is_done is-answer) ∙ sym hd ∙ t in
        with-exactly bytes
        (ap (λ (a : Answer). record { answer = a; parity = before }) (is-answer ∙ column-refused (length message) (length before) no) ∙ sym (refused-is no))
