-- The first # as an argument has it: 0 or 1.
use Rattle.std.specs.Prelude.{Bool, true, false, cond, List, ℕ, eqb, length, get_or, Option, Some, None}

unfoldable pub first_of : List ℕ → Option Bool
first_of text = cond (eqb (length text) 1) (cond (eqb (get_or text 0 0) 48) (Some false) (cond (eqb (get_or text 0 0) 49) (Some true) None)) None
