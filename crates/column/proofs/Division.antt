-- The division keeps each root of the polynomial that it divides by. Assumes nothing.
use mathlib.Core.Path.{◌≡◌, sym, ap, ap₂, ◌∙◌}
use mathlib.Core.List.{List, [], ◌∷◌, ◌++◌}
use Prim.Native.Nat.{ℕ, suc, ◌<◌}
use native.Mathlib.Omega.{arith}
use lib.ListN.{length}
use Rattle.laws.specs.Bytes.{Bytes}
use Rattle.galois.specs.Field.{sum, product}
use Rattle.galois.proofs.Sum.{sum-assoc, sum_comm, sum-zero, sum_self, sum-byte, sum-cancel}
use Rattle.galois.proofs.Product.{product-zero, zero-product, product-one}
use Rattle.column.specs.Column.{value_from, sums, scaled, pushed, remainder}
use Rattle.column.proofs.Sums.{length-snoc, length-sums, length-scaled, bytes-snoc, bytes-sums, bytes-scaled}
use Rattle.column.proofs.Value.{value-append, value-sums, value-scaled}

-- ---- one byte into the register

pub length-pushed : (g cs : List ℕ) (d : ℕ) → length cs ≡ length g → length (pushed g cs d) ≡ length g
unfolding pushed
length-pushed g [] d e = e
length-pushed g (c ∷ cs) d e =
    length-sums (cs ++ 0 ∷ []) (scaled (sum d c) g) (length-snoc cs ∙ e ∙ sym (length-scaled (sum d c) g)) ∙ length-snoc cs ∙ e

pub bytes-pushed : (g cs : List ℕ) (d : ℕ) → Bytes cs → Bytes (pushed g cs d)
unfolding pushed
bytes-pushed g [] d h = h
bytes-pushed g (c ∷ cs) d h = bytes-sums (cs ++ 0 ∷ []) (scaled (sum d c) g) (bytes-snoc cs (λ j. h (suc j))) (bytes-scaled (sum d c) g)

-- a root needs a byte
none-is-no-root : (g : List ℕ) (x : ℕ) → 0 ≡ length g → value_from 1 g x ≡ 0 → ⊥
unfolding value_from
none-is-no-root [] x e root = omega arith
none-is-no-root (c ∷ g) x e root = omega arith

-- v is the value of the bytes before: with the register behind them the value stays zero
pushed-keeps : (g cs : List ℕ) (d v x : ℕ) → length cs ≡ length g → Bytes cs → d < 256 → value_from 1 g x ≡ 0 → value_from v cs x ≡ 0
    → value_from (sum (product v x) d) (pushed g cs d) x ≡ 0
unfolding pushed value_from
pushed-keeps g [] d v x e h hd root at = absurd (none-is-no-root g x e root)
pushed-keeps g (c ∷ cs) d v x e h hd root at =
    ap (λ (u : ℕ). value_from u (sums (cs ++ 0 ∷ []) (scaled f g)) x) split
    ∙ value-sums (sum (product v x) c) f (cs ++ 0 ∷ []) (scaled f g) x (length-snoc cs ∙ e ∙ sym (length-scaled f g))
    ∙ ap₂ sum shifted multiple
    ∙ sum_self 0
  where
    f : ℕ
    f = sum d c

    split : sum (product v x) d ≡ sum (sum (product v x) c) f
    split = sym (sum-assoc (product v x) c (sum d c) ∙ ap (sum (product v x)) (ap (sum c) (sum_comm d c) ∙ sum-cancel c d))

    shifted : value_from (sum (product v x) c) (cs ++ 0 ∷ []) x ≡ 0
    shifted =
        value-append (sum (product v x) c) cs (0 ∷ []) x ∙ ap (λ (u : ℕ). sum (product u x) 0) at ∙ sum-zero (product 0 x) ∙ zero-product x

    multiple : value_from f (scaled f g) x ≡ 0
    multiple =
        ap (λ (u : ℕ). value_from u (scaled f g) x) (sym (product-one f (sum-byte hd (h 0))))
        ∙ value-scaled f 1 g x
        ∙ ap (product f) root
        ∙ product-zero f

-- ---- the whole message

pub length-remainder : (g cs ds : List ℕ) → length cs ≡ length g → length (remainder g cs ds) ≡ length g
unfolding remainder
length-remainder g cs [] e = e
length-remainder g cs (d ∷ ds) e = length-remainder g (pushed g cs d) ds (length-pushed g cs d e)

pub bytes-remainder : (g cs ds : List ℕ) → Bytes cs → Bytes (remainder g cs ds)
unfolding remainder
bytes-remainder g cs [] h = h
bytes-remainder g cs (d ∷ ds) h = bytes-remainder g (pushed g cs d) ds (bytes-pushed g cs d h)

pub remainder-keeps : (g cs ds : List ℕ) (v x : ℕ) → length cs ≡ length g → Bytes cs → Bytes ds → value_from 1 g x ≡ 0 → value_from v cs x ≡ 0
    → value_from (value_from v ds x) (remainder g cs ds) x ≡ 0
unfolding remainder value_from
remainder-keeps g cs [] v x e h hd root at = at
remainder-keeps g cs (d ∷ ds) v x e h hd root at =
    remainder-keeps g (pushed g cs d) ds (sum (product v x) d) x (length-pushed g cs d e) (bytes-pushed g cs d h) (λ j. hd (suc j)) root
    (pushed-keeps g cs d v x e h (hd 0) root at)
