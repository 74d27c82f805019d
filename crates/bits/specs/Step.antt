-- A step of the image reader (document 01, 'Shape that the source gives'): three bits and the next position.
use Rattle.std.specs.Prelude.{Bool, cond, List, ℕ, ◌+◌, ◌^◌, leb, ltb, length}
use Rattle.bits.specs.declared.Step.{Step}
use Rattle.bits.specs.Bits.{three_at}

-- at least three of the bits b are left from p on
abbrev pub enough : List ℕ → ℕ → Bool
enough b p = leb (p + 3) (length b)

-- the position behind three bits; p itself where that is no position of 64 bits, which takes a slice of 2^61 bytes
abbrev pub behind : ℕ → ℕ
behind p = cond (ltb (p + 3) (2 ^ 64)) (p + 3) p

-- the three bits of b from p on as a number from 0 to 7 and the position behind them; 8 and p with fewer than three bits left
unfoldable pub step_at : List ℕ → ℕ → Step
step_at b p =
    record {
      value = cond (enough b p) (three_at b p) 8;
      next = cond (enough b p) (behind p) p;
    }
