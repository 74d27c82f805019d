-- A PSN as an argument has it: eight hexadecimal digits, the highest first.
use Rattle.std.specs.Prelude.{Bool, cond, List, ℕ, zero, suc, ◌+◌, ◌*◌, ◌-◌, eqb, ltb, leb, length, get_or, Option, Some, None}
use Rattle.laws.specs.First.{first}
use Rattle.address.specs.declared.Psn.{Psn}

-- a digit's value: 0 to 9, A to F, a to f; 16 for any other byte
unfoldable pub digit_of : ℕ → ℕ
digit_of b =
    cond (leb 48 b) (cond (leb b 57) (b - 48) (cond (leb 65 b) (cond (leb b 70) (b - 55) (cond (leb 97 b) (cond (leb b 102) (b - 87) 16) 16)) 16)) 16

-- the number that the first k digits give
unfoldable pub value_to : List ℕ → ℕ → ℕ
value_to text zero = 0
value_to text (suc k) = value_to text k * 16 + digit_of (get_or text k 0)

unfoldable pub no_digit : List ℕ → ℕ → Bool
no_digit text k = leb 16 (digit_of (get_or text k 0))

unfoldable pub psn_of : List ℕ → Option Psn
psn_of text = cond (eqb (length text) 8) (cond (ltb (first 8 (no_digit text)) 8) None (Some (record { 0 = value_to text 8 }))) None
