-- Laws of lists of bytes. Assumes nothing.
use mathlib.Core.List.{List, [], ◌∷◌, ◌++◌}
use Prim.Native.Nat.{ℕ, zero, suc, ◌+◌, ◌<◌}
use native.Mathlib.Decide.{dec_lt}
use native.Mathlib.Omega.{arith}
use lib.ListN.{take, drop, get_or-eq_default}
use lib.Seq.{get_or-drop}
use Rattle.laws.specs.Bytes.{Bytes}
use Rattle.laws.specs.Tabulate.{tabulate}
use Rattle.laws.proofs.Tabulate.{length-tabulate, get_d_tabulate}

pub bytes-none : Bytes []
bytes-none i = omega arith

pub bytes-cons : (x : ℕ) (l : List ℕ) → x < 256 → Bytes l → Bytes (x ∷ l)
bytes-cons x l h b zero = h
bytes-cons x l h b (suc i) = b i

pub bytes-append : (l m : List ℕ) → Bytes l → Bytes m → Bytes (l ++ m)
bytes-append [] m bl bm i = bm i
bytes-append (x ∷ l) m bl bm zero = bl 0
bytes-append (x ∷ l) m bl bm (suc i) = bytes-append l m (λ j. bl (suc j)) bm i

pub bytes_take : (n : ℕ) (l : List ℕ) → Bytes l → Bytes (take n l)
bytes_take zero l b i = omega arith
bytes_take (suc n) [] b i = omega arith
bytes_take (suc n) (x ∷ l) b zero = b 0
bytes_take (suc n) (x ∷ l) b (suc i) = bytes_take n l (λ j. b (suc j)) i

pub bytes_drop : (n : ℕ) (l : List ℕ) → Bytes l → Bytes (drop n l)
bytes_drop n l b i = rw (get_or-drop n l i 0) (b (n + i))

pub bytes-tabulate : (n : ℕ) (f : ℕ → ℕ) → ((k : ℕ) → k < n → f k < 256) → Bytes (tabulate n f)
bytes-tabulate n f h i =
    elim (dec_lt i n) [
      | yes l ↦ rw (get_d_tabulate n f i 0 l) (h i l)
      | no l ↦ rw (get_or-eq_default (tabulate n f) 0 {n = i} (omega (arith, length-tabulate n f))) (omega arith)
    ]
