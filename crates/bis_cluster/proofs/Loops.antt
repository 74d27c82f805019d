-- A turn of the loop that writes the BIS cluster. Assumes nothing.
use mathlib.Core.Path.{◌≡◌, sym, ap₂, subst, ◌∙◌}
use mathlib.Core.List.{List}
use Prim.Native.Nat.{ℕ, ◌+◌, ◌*◌, ◌/◌, ◌%◌, ◌<◌}
use native.Mathlib.Omega.{arith}
use lib.ListN.{length, set}
use Rattle.laws.specs.Scatter.{Scattered}
use Rattle.laws.proofs.Scatter.{scattered-more, scattered-end}
use Rattle.bis.specs.BisCluster.{bis_byte}
use Rattle.cluster.specs.Multiplex.{bis_index}
use Rattle.cluster.proofs.Multiplex.{bis-index-lt}
use Rattle.cluster.proofs.Places.{bis-index-inj}

module _ (work₀ : List ℕ) (block : List (List ℕ)) where
  -- the first m bytes, written to their places
  abbrev pub BytesPut : ℕ → List ℕ → Type 0
  BytesPut m work = Scattered 0 (λ m. bis_index (m / 3) (m % 3)) (λ m. bis_byte block (m / 3) (m % 3)) work₀ m work

  byte-put : (work : List ℕ) (m x : ℕ) → length work₀ ≡ 76880 → m < 1488 → x ≡ bis_byte block (m / 3) (m % 3) → BytesPut m work
      → BytesPut (m + 1) (set work (bis_index (m / 3) (m % 3)) x)
  byte-put work m x size hm e s =
      scattered-more (omega (arith, bis-index-lt (m / 3) (m % 3) (omega arith) (omega arith)))
      (λ q hq r.
      let same = bis-index-inj (q / 3) (q % 3) (m / 3) (m % 3) (omega arith) (omega arith) (omega arith) (omega arith) r in
      let again : q ≡ m = omega (arith, same.0, same.1) in
      omega arith) e s

  -- the byte in a row and a column, written to its index
  pub bis-turn : (work : List ℕ) (row column x : ℕ) → length work₀ ≡ 76880 → row < 496 → column < 3 → x ≡ bis_byte block row column → BytesPut (3 * row + column) work
      → BytesPut (3 * row + (column + 1)) (set work (bis_index row column) x)
  bis-turn work row column x size hr hc e s =
      let r : (3 * row + column) / 3 ≡ row = omega arith in
      let c : (3 * row + column) % 3 ≡ column = omega arith in
      let put = byte-put work (3 * row + column) x size (omega arith) (e ∙ sym (ap₂ (bis_byte block) r c)) s in
      scattered-end (omega arith) (subst (λ (k : ℕ). BytesPut (3 * row + column + 1) (set work k x)) (ap₂ bis_index r c) put)
