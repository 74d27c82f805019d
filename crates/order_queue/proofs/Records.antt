-- What a record asks for, case by case. Assumes nothing.
use mathlib.Core.Path.{◌≡◌, sym, ap, ◌∙◌}
use mathlib.Core.Bool.{Bool, true, false, false≢true}
use mathlib.Core.List.{List}
use Prim.Native.Nat.{ℕ}
use native.Mathlib.Omega.{arith}
use borrow.Author.Tests.{eq-eqb, ne_eqb}
use lib.Dec.{eqb}
use lib.ListN.{length, get_or}
use Rattle.laws.proofs.Booleans.{and-false}
use Rattle.big_endian.specs.Words.{word_at}
use Rattle.address.specs.declared.Psn.{Psn}
use Rattle.order_queue.specs.declared.Request.{Request}
use Rattle.order_queue.specs.declared.Request.TheVariants.{Submit, Serve, Unknown}
use Rattle.order_queue.specs.Records.{request_of}

-- ---- the kinds of requests, and what a submit holds

abbrev pub is_submit : Request → Bool
is_submit (Submit bench psn) = true
is_submit Serve = false
is_submit Unknown = false

abbrev pub is_serve : Request → Bool
is_serve (Submit bench psn) = false
is_serve Serve = true
is_serve Unknown = false

abbrev pub bench_asked : Request → ℕ
bench_asked (Submit bench psn) = bench
bench_asked Serve = 0
bench_asked Unknown = 0

abbrev pub psn_asked : Request → ℕ
psn_asked (Submit bench psn) = psn.0
psn_asked Serve = 0
psn_asked Unknown = 0

-- a submit is no serve
pub submit-no-serve : {bench : ℕ} {psn : Psn} → Submit bench psn ≡ Serve → ⊥
submit-no-serve e = false≢true (ap is_serve e)

-- ---- a record; as the code has it, kind is the first byte

module _ (bytes : List ℕ) {kind : ℕ} (hk : kind ≡ get_or bytes 0 0) where
  is : {n : ℕ} → kind ≡ n → eqb (get_or bytes 0 0) n ≡ true
  is {n} e = eq-eqb (get_or bytes 0 0) n (sym hk ∙ e)

  isnt : {n : ℕ} → (kind ≡ n → ⊥) → eqb (get_or bytes 0 0) n ≡ false
  isnt {n} h = ne_eqb (get_or bytes 0 0) n (λ e. h (hk ∙ e))

  pub is-submit : {word : ℕ} → kind ≡ 1 → length bytes ≡ 6 → word ≡ word_at bytes 2 → Submit (get_or bytes 1 0) (record { 0 = word }) ≡ request_of bytes
  unfolding request_of
  is-submit e h hw = (λ i. Submit (get_or bytes 1 0) (record { 0 = hw i })) ∙ rw (is e, eq-eqb (length bytes) 6 h)

  pub is-serve : kind ≡ 2 → length bytes ≡ 1 → Serve ≡ request_of bytes
  unfolding request_of
  is-serve e h = rw (isnt {n = 1} (λ d. omega (arith, d, e)), is e, eq-eqb (length bytes) 1 h)

  pub no-submit : kind ≡ 1 → (length bytes ≡ 6 → ⊥) → Unknown ≡ request_of bytes
  unfolding request_of
  no-submit e h = rw (is e, ne_eqb (length bytes) 6 h, isnt {n = 2} (λ d. omega (arith, d, e)))

  pub no-serve : kind ≡ 2 → (length bytes ≡ 1 → ⊥) → Unknown ≡ request_of bytes
  unfolding request_of
  no-serve e h = rw (isnt {n = 1} (λ d. omega (arith, d, e)), is e, ne_eqb (length bytes) 1 h)

  pub no_kind : (kind ≡ 1 → ⊥) → (kind ≡ 2 → ⊥) → Unknown ≡ request_of bytes
  unfolding request_of
  no_kind h i = rw (isnt h, isnt i)

-- a record of neither one byte nor six
pub other-size : (bytes : List ℕ) → (length bytes ≡ 1 → ⊥) → (length bytes ≡ 6 → ⊥) → Unknown ≡ request_of bytes
unfolding request_of
other-size bytes one six =
    rw (and-false (eqb (get_or bytes 0 0) 1) (eqb (length bytes) 6) (ne_eqb (length bytes) 6 six), and-false (eqb (get_or bytes 0 0) 2) (eqb (length bytes) 1) (ne_eqb (length bytes) 1 one))
