-- A search from the front whose answer is an `Option`: the lowest index at which a test holds, if there is one. Assumes nothing.
use mathlib.Core.Path.{◌≡◌, refl, sym, ap, subst, ◌∙◌}
use mathlib.Core.Bool.{Bool, true, false, cond, not}
use mathlib.Core.List.{List, [], ◌∷◌}
use Prim.Native.Nat.{ℕ, suc, ◌+◌, ◌<◌, ◌≤◌}
use native.Mathlib.Decide.{dec_lt}
use native.Mathlib.Omega.{arith}
use borrow.Author.Tests.{lt-ltb, le-ltb}
use lib.Dec.{ltb}
use lib.ListN.{length, get_or}
use Rattle.std.specs.Prelude.{Option, Some, None, MatchOption, SomeIff}
use Rattle.std.specs.List.{position_or_len}
use Rattle.laws.specs.First.{first}
use Rattle.laws.proofs.First.{Passed, first-here, first_past}

-- ---- as a loop has it

module _ {p : ℕ → Bool} {n i : ℕ} where
  pub found-here : i < n → Passed p i → p i ≡ true → SomeIff (Some i) (first n p < n) (first n p)
  found-here h passed e = let is : i ≡ first n p = first-here h passed e in (omega (arith, is), is)

  pub found-none : n ≤ i → Passed p i → SomeIff {T = ℕ} None (first n p < n) (first n p)
  found-none h passed = let is : n ≡ first n p = first_past h passed in λ below. omega (arith, is)

-- ---- as `find` has it, over the indexes below n

pub found-in : (p : ℕ → Bool) (n : ℕ) (r : Option ℕ)
    → MatchOption r ((k : ℕ) → 0 ≤ k → k < n → p k ≡ false) (λ i. (0 ≤ i) × (i < n) × (p i ≡ true) × ((k : ℕ) → 0 ≤ k → k < i → p k ≡ false))
    → SomeIff r (first n p < n) (first n p)
found-in p n None fails = found-none (omega arith) (record { fails = λ k below. fails k (omega arith) below })
found-in p n (Some i) found = found-here found.1 (record { fails = λ k below. found.3 k (omega arith) below }) found.2

-- ---- as `position` has it

pub position-first : {A : Type 0} (t : A → Bool) (d : A) (l : List A) → position_or_len t l ≡ first (length l) (λ k. t (get_or l k d))
unfolding first
position-first t d [] = refl
position-first t d (x ∷ l) = by (t x) (position-first t d l)
  where
    rest : ℕ
    rest = first (length l) (λ k. t (get_or l k d))

    by : (b : Bool) → position_or_len t l ≡ rest → cond (not b) (1 + position_or_len t l) 0 ≡ cond b 0 (suc rest)
    by true e = refl
    by false e = omega (arith, e)

pub some-below : (i n : ℕ) {r : Option ℕ} → r ≡ cond (ltb i n) (Some i) None → SomeIff r (i < n) i
some-below i n {r} e =
    elim (dec_lt i n) [
      | yes h ↦ subst (λ (o : Option ℕ). SomeIff o (i < n) i) (sym (e ∙ ap (λ (b : Bool). cond b (Some i) None) (lt-ltb i n h))) (h, refl)
      | no h ↦ subst (λ (o : Option ℕ). SomeIff o (i < n) i) (sym (e ∙ ap (λ (b : Bool). cond b (Some i) None) (le-ltb i n (omega arith)))) h
    ]
