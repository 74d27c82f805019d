-- A loop that writes a list in an order of its own: turn q writes the place of q. Assumes nothing.
use mathlib.Core.Path.{◌≡◌, refl, sym, ap, subst, ◌∙◌}
use mathlib.Core.List.{List}
use Prim.Native.Nat.{ℕ, ◌+◌, ◌<◌}
use native.Mathlib.Nat.{not-suc-le-zero}
use native.Mathlib.Decide.{ℕ_discrete}
use native.Mathlib.Omega.{arith}
use lib.ListN.{length, get_or, set, length-set}
use lib.Seq.{get_or-set_same, get_or-set_other}
use Rattle.laws.specs.Scatter.{Scattered}

module _ {A : Type 0} {d : A} {place : ℕ → ℕ} {v : ℕ → A} {l₀ : List A} where
  pub scattered-none : Scattered d place v l₀ 0 l₀
  scattered-none = record { size = refl; done = λ q h. absurd (not-suc-le-zero h); kept = λ k _. refl }

  -- one turn more, at a place that no turn before had
  pub scattered-more : {i : ℕ} {l : List A} {x : A} → place i < length l₀ → ((q : ℕ) → q < i → place q ≡ place i → ⊥) → x ≡ v i
      → Scattered d place v l₀ i l → Scattered d place v l₀ (i + 1) (set l (place i) x)
  scattered-more {i} {l} {x} within new e s =
      record {
        size = length-set l (place i) x ∙ s.size;
        done = λ q h.
            elim (ℕ_discrete q i) [
              | yes p ↦
                  ap (λ (j : ℕ). get_or (set l (place i) x) (place j) d) p ∙ get_or-set_same l (place i) x d (omega (arith, s.size)) ∙ e ∙ ap v (sym p)
              | no p ↦ get_or-set_other l (place i) (place q) x d (λ r. new q (omega arith) r) ∙ s.done q (omega arith)
            ];
        kept = λ k free. get_or-set_other l (place i) k x d (λ r. free i (omega arith) r) ∙ s.kept k (λ q h. free q (omega arith));
      }

  -- after the last turn
  pub scattered-end : {i n : ℕ} {l : List A} → i ≡ n → Scattered d place v l₀ i l → Scattered d place v l₀ n l
  scattered-end {i} {n} {l} e s = subst (λ (m : ℕ). Scattered d place v l₀ m l) e s
