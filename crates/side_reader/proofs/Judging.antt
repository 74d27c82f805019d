-- The side data, byte by byte. Assumes nothing.
use mathlib.Core.Path.{◌≡◌, sym, ap, ◌∙◌}
use mathlib.Core.List.{List, []}
use Prim.Native.Nat.{ℕ, ◌-◌, ◌<◌, ◌≤◌}
use borrow.Author.Tests.{lt-ltb, le-ltb, eq-eqb, ne_eqb}
use lib.ListN.{length, get_or}
use Rattle.laws.proofs.Fill.{Upto, upto_all}
use Rattle.bis.specs.AddressField.{flag_in}
use Rattle.bis.specs.AccessBlock.{row_of_uc, column_of_uc}
use Rattle.bis.specs.Reading.{primary_in, side_byte_in, side_in, side_out}

-- ---- a byte of the side data

pub flag-byte : (block : List (List ℕ)) (k : ℕ) {primary : List ℕ} → k < 16 → primary ≡ primary_in block k → get_or primary 4 0 ≡ side_byte_in block k
flag-byte block k h e = rw (lt-ltb k 16 h) (ap flag_in e)

pub control-byte : (block : List (List ℕ)) (k : ℕ) → 16 ≤ k → get_or (get_or block (column_of_uc (k - 16)) []) (row_of_uc (k - 16)) 0 ≡ side_byte_in block k
control-byte block k h = rw (le-ltb k 16 h)

-- ---- the lent slice

pub side_left : (block : List (List ℕ)) (lent : List ℕ) → (length lent ≡ 592 → ⊥) → lent ≡ side_out block lent
unfolding side_out
side_left block lent h = rw (ne_eqb (length lent) 592 h)

pub side-given : (block : List (List ℕ)) (lent : List ℕ) → length lent ≡ 592 → side_out block lent ≡ side_in block
unfolding side_out
side-given block lent size = rw (eq-eqb (length lent) 592 size)

pub side-filled : (block : List (List ℕ)) (lent : List ℕ) {k : ℕ} {side : List ℕ} → length lent ≡ 592 → 592 ≤ k → Upto 0 (side_byte_in block) 592 k side
    → side ≡ side_out block lent
unfolding side_in
side-filled block lent size h upto = upto_all h upto ∙ sym (side-given block lent size)
