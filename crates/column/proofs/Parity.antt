-- The laws of the parity, for every length of the message: the only r bytes that give the column its roots. Assumes nothing.
use mathlib.Core.Path.{◌≡◌, refl, sym, ap, ap₂, subst, ◌∙◌, subst⁻¹}
use mathlib.Core.Bool.{Bool, true, false, false≢true}
use mathlib.Core.List.{List, ◌++◌}
use Prim.Native.Nat.{ℕ, ◌+◌, ◌-◌, ◌≤◌}
use native.Mathlib.Omega.{arith}
use lib.Dec.{eqb}
use lib.ListN.{length, take, drop, length-drop, take-append-drop}
use Rattle.std.specs.Bool.{Decides}
use Rattle.std.specs.List.{ends_with}
use Rattle.std.proofs.lemmas.Bool.Decides.{Decides-eqb}
use Rattle.std.proofs.lemmas.Slice.Eq.{slice_eq-Decides}
use Rattle.laws.specs.Bytes.{Bytes}
use Rattle.laws.specs.Combined.{combined}
use Rattle.laws.specs.Tabulate.{tabulate}
use Rattle.laws.proofs.Bytes.{bytes_take, bytes_drop}
use Rattle.laws.proofs.Combined.{bytes-combined}
use Rattle.galois.specs.Field.{α, power}
use Rattle.column.specs.Column.{value, Roots, has_roots, Completes, IsParity, EndsIn, generator, remainder, parity}
use Rattle.column.proofs.Value.{zeros-bytes, value-append, value-zeros}
use Rattle.column.proofs.Generator.{coefficients-length, coefficients-roots}
use Rattle.column.proofs.Division.{length-remainder, bytes-remainder, remainder-keeps}
use Rattle.column.proofs.Linear.{zeros-length, parity-combined}
use Rattle.column.proofs.Unique.{completes-once}
use Rattle.column.proofs.Roots.{has-roots}

-- ---- r bytes, which give the column its roots

pub parity-length : (r : ℕ) (message : List ℕ) → length (parity r message) ≡ r
unfolding parity
parity-length r message = length-remainder (drop 1 (generator r)) (tabulate r (λ _. 0)) message (zeros-length r) ∙ coefficients-length r

pub parity-bytes : (r : ℕ) (message : List ℕ) → Bytes (parity r message)
unfolding parity
parity-bytes r message = bytes-remainder (drop 1 (generator r)) (tabulate r (λ _. 0)) message (zeros-bytes r)

pub parity-roots : (r : ℕ) (message : List ℕ) → Bytes message → Roots r (message ++ parity r message)
unfolding parity value
parity-roots r message bytes i h =
    value-append 0 message (remainder (drop 1 (generator r)) (tabulate r (λ _. 0)) message) (power α i)
    ∙ remainder-keeps (drop 1 (generator r)) (tabulate r (λ _. 0)) message 0 (power α i) (zeros-length r) (zeros-bytes r) bytes (coefficients-roots r i h)
    (value-zeros r (power α i))

pub parity-completes : (r : ℕ) (message : List ℕ) → Bytes message → Completes r message (parity r message)
parity-completes r message bytes =
    record { size = parity-length r message; bytes = parity-bytes r message; roots = parity-roots r message bytes }

-- ---- and no others do

module _ (r : ℕ) (few : r ≤ 255) where
  pub parity-only : (message : List ℕ) → Bytes message → IsParity r message (parity r message)
  parity-only message bytes =
      record {
        right = parity-completes r message bytes;
        only = λ q other. completes-once r few message (parity r message) q (parity-completes r message bytes) other;
      }

  -- a column that has its roots ends in the parity of what stands before
  pub roots-parity : (message p : List ℕ) → Bytes message → Bytes p → length p ≡ r → Roots r (message ++ p) → p ≡ parity r message
  roots-parity message p bm bp size roots = (parity-only message bm).only p (record { size = size; bytes = bp; roots = roots })

  -- of two messages of one length, combined, the parity is the combination
  pub is-parity-combined : (a b p q : List ℕ) → Bytes a → Bytes b → length a ≡ length b → IsParity r a p → IsParity r b q
      → IsParity r (combined a b) (combined p q)
  is-parity-combined a b p q ba bb same ip iq = subst (IsParity r (combined a b)) (parity-combined r a b same ∙ ap₂ combined of-a of-b) both
    where
      of-a : parity r a ≡ p
      of-a = ip.only (parity r a) (parity-completes r a ba)

      of-b : parity r b ≡ q
      of-b = iq.only (parity r b) (parity-completes r b bb)

      both : IsParity r (combined a b) (parity r (combined a b))
      both = parity-only (combined a b) (bytes-combined a b ba bb)

-- ---- the same, of the test

pub parity-test : (r : ℕ) (message : List ℕ) → Bytes message → has_roots r (message ++ parity r message) ≡ true
parity-test r message bytes = (has-roots r (message ++ parity r message)).1 (parity-roots r message bytes)

-- a column of n bytes and r more that passes the test
pub test-parity : (r : ℕ) → r ≤ 255 → (n : ℕ) (column : List ℕ) → Bytes column → length column ≡ n + r → has_roots r column ≡ true
    → drop n column ≡ parity r (take n column)
test-parity r few n column bytes size test =
    roots-parity r few (take n column) (drop n column) (bytes_take n column bytes) (bytes_drop n column bytes) (omega (arith, length-drop n column))
    (subst⁻¹ (Roots r) (take-append-drop n column) ((has-roots r column).0 test))

pub test-column : (r : ℕ) → r ≤ 255 → (n : ℕ) (column : List ℕ) → Bytes column → length column ≡ n + r → has_roots r column ≡ true
    → column ≡ take n column ++ parity r (take n column)
test-column r few n column bytes size test = sym (take-append-drop n column) ∙ ap (◌++◌ (take n column)) (test-parity r few n column bytes size test)

-- the test, by the parity of what stands before
pub ends-test : (r n : ℕ) (column : List ℕ) → r ≤ 255 → Bytes column → length column ≡ n + r → {p : List ℕ} → p ≡ parity r (take n column)
    → {answer : Bool} → EndsIn column n p answer → answer ≡ has_roots r column
ends-test r n column few bytes size {p} e {answer} ends = by answer (has_roots r column) ends refl
  where
    right : drop n column ≡ p → has_roots r column ≡ true
    right same =
        ap (has_roots r) (sym (take-append-drop n column) ∙ ap (◌++◌ (take n column)) (same ∙ e))
        ∙ parity-test r (take n column) (bytes_take n column bytes)

    by : (a b : Bool) → EndsIn column n p a → has_roots r column ≡ b → a ≡ b
    by true true ends t = refl
    by true false ends t = absurd (false≢true (sym t ∙ right (ends.same refl)))
    by false true ends t = absurd (ends.other refl (test-parity r few n column bytes size t ∙ sym e))
    by false false ends t = refl

-- ---- as the code has it

-- what `ends_with` answers
pub ends-in : {column p : List ℕ} {n : ℕ} {answer : Bool} → length column ≡ n + length p → answer ≡ ends_with eqb column p → EndsIn column n p answer
ends-in {column} {p} {n} {answer} size e =
    record {
      same = λ t. sym (decides.0 t ∙ sym place);
      other = λ f same. false≢true (sym f ∙ decides.1 (sym same ∙ place));
    }
  where
    place : drop n column ≡ drop (length column - length p) column
    place = ap (λ (k : ℕ). drop k column) (omega arith)

    decides : Decides answer (p ≡ drop (length column - length p) column)
    decides = slice_eq-Decides Decides-eqb p (drop (length column - length p) column) answer e
