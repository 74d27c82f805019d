-- Three modulation bits for two data bits, and the parity of the ones: each by a test over the rows. Assumes nothing.
use mathlib.Core.Bool.{Bool}
use mathlib.Core.List.{List, ◌∷◌, ◌++◌}
use mathlib.Core.Path.{◌≡◌, ap, ◌∙◌}
use Prim.Native.Nat.{◌+◌, ◌%◌}
use native.Mathlib.Omega.{arith}
use lib.Dec.{eqb, eqb→eq}
use lib.ListN.{length, length-append}
use Rattle.laws.proofs.Finite.{all}
use Rattle.modulation.specs.Modulation.{Two, Three, Row, rows, Modulated, modulate}
use Rattle.modulation.specs.Bits.{data_bits, bits, ones}
use Rattle.modulation.proofs.Bits.{bits-append, data_bits-append, ones-append}
use Rattle.modulation.proofs.Words.{First, row-fact, row-size, modulate-none, next_bit, Word, by-words}

-- a group for each pair
pub size : (b : Bool) (ds : List Two) → length (modulate b ds).groups ≡ length ds
size = by-words (λ b ds. length (modulate b ds).groups ≡ length ds) (λ b. ap (λ (f : Modulated). length f.groups) (modulate-none b)) more
  where
    more : (b : Bool) (d : Two) (ds : List Two) (f : Word b (d ∷ ds)) → length (modulate (next_bit f.row) f.rest).groups ≡ length f.rest
        → length (modulate b (d ∷ ds)).groups ≡ length (d ∷ ds)
    more b d ds f ih =
        omega (
          arith,
          ap (λ (g : Modulated). length g.groups) f.gives,
          length-append f.row.groups (modulate (next_bit f.row) f.rest).groups,
          ap length f.split,
          length-append f.row.pairs f.rest,
          row-size f.first,
        )

-- ---- parity preserve

row-parity : {passes : Row → Bool} {r : Row} → First passes rows r → ones (bits r.groups) % 2 ≡ ones (data_bits r.pairs) % 2
unfolding all
row-parity {r = r} f =
    eqb→eq (ones (bits r.groups) % 2) (ones (data_bits r.pairs) % 2)
    (row-fact (λ r. eqb (ones (bits r.groups) % 2) (ones (data_bits r.pairs) % 2)) tt f)

ones-groups : (a c : List Three) → ones (bits (a ++ c)) ≡ ones (bits a) + ones (bits c)
ones-groups a c = ap ones (bits-append a c) ∙ ones-append (bits a) (bits c)

ones-pairs : (a c : List Two) → ones (data_bits (a ++ c)) ≡ ones (data_bits a) + ones (data_bits c)
ones-pairs a c = ap ones (data_bits-append a c) ∙ ones-append (data_bits a) (data_bits c)

pub parity : (b : Bool) (ds : List Two) → ones (bits (modulate b ds).groups) % 2 ≡ ones (data_bits ds) % 2
parity =
    by-words (λ b ds. ones (bits (modulate b ds).groups) % 2 ≡ ones (data_bits ds) % 2)
    (λ b. ap (λ (f : Modulated). ones (bits f.groups) % 2) (modulate-none b)) more
  where
    more : (b : Bool) (d : Two) (ds : List Two) (f : Word b (d ∷ ds))
        → ones (bits (modulate (next_bit f.row) f.rest).groups) % 2 ≡ ones (data_bits f.rest) % 2
        → ones (bits (modulate b (d ∷ ds)).groups) % 2 ≡ ones (data_bits (d ∷ ds)) % 2
    more b d ds f ih =
        omega (
          arith,
          ap (λ (g : Modulated). ones (bits g.groups)) f.gives,
          ones-groups f.row.groups (modulate (next_bit f.row) f.rest).groups,
          ap (λ (l : List Two). ones (data_bits l)) f.split,
          ones-pairs f.row.pairs f.rest,
          row-parity f.first,
        )
