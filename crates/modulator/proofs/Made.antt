-- An array made element by element. Assumes nothing.
use mathlib.Core.Path.{◌≡◌}
use mathlib.Core.List.{List}
use Prim.Native.Nat.{ℕ, ◌<◌}
use denote.Param.Members.{Mut, Called}
use Rattle.std.specs.Array.{IsFromFnResult}
use Rattle.laws.specs.Tabulate.{tabulate}
use Rattle.laws.proofs.Tabulate.{is-tabulate}

pub tabulated : {F : Type 0} {g : Mut F (ℕ × Unit {0}) ℕ} {f : F} {made : List ℕ} {n : ℕ} (entry : ℕ → ℕ) → IsFromFnResult g f made n
    → ((k : ℕ) (p q : F) (v : ℕ) → k < n → Called g p (k, tt) v q → v ≡ entry k) → made ≡ tabulate n entry
tabulated {made = made} {n = n} entry is calls =
    is-tabulate 0 n entry made is.long (λ k h. let call = is.at k 0 h in calls k call.0 call.1 _ h call.2)
