-- An array made by `from_fn`. Assumes nothing.
use mathlib.Core.Path.{◌≡◌, refl, sym, ap, subst, ◌∙◌}
use mathlib.Core.List.{List}
use Prim.Native.Nat.{ℕ, zero, suc, ◌+◌, ◌<◌, ◌≤◌}
use native.Mathlib.Decide.{ℕ_discrete}
use native.Mathlib.Omega.{arith}
use denote.Param.Members.{Mut, Called}
use lib.ListN.{get_or}
use Rattle.std.specs.Array.{IsFromFnResultFrom, IsFromFnResult}
use Rattle.laws.specs.Tabulate.{tabulate}
use Rattle.laws.proofs.Tabulate.{is-tabulate}

-- each call gives v of its index and leaves the closure f as it was
module _ {F B : Type 0} (g : Mut F (ℕ × Unit {0}) B) (d : B) (v : ℕ → B) (n : ℕ) (f : F)
    (gives : (i : ℕ) (y : B) (q : F) → i < n → Called g f (i, tt) y q → (y ≡ v i) × (q ≡ f)) where
  from-index : (ys : List B) (i m : ℕ) (p : F) → p ≡ f → i + m ≡ n → IsFromFnResultFrom g p ys i m → (k : ℕ) → i ≤ k → k < n → get_or ys k d ≡ v k
  from-index ys i zero p e s made k low high = absurd (omega arith)
  from-index ys i (suc m) p e s made k low high =
      let call = gives i made.1 made.0 (omega arith) (subst (λ (x : F). Called g x (i, tt) made.1 made.0) e made.3) in
      elim (ℕ_discrete k i) [
        | yes same ↦ ap (λ (j : ℕ). get_or ys j d) same ∙ made.2.1 d ∙ call.0 ∙ ap v (sym same)
        | no other ↦ from-index ys (i + 1) m made.0 call.1 (omega arith) made.4 k (omega (arith, other)) high
      ]

  pub made-tabulate : {ys : List B} → IsFromFnResult g f ys n → ys ≡ tabulate n v
  made-tabulate {ys} made = is-tabulate d n v ys made.long (λ k below. from-index ys 0 n f refl (omega arith) made.each k (omega arith) below)
