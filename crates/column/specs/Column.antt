-- 13.7, 13.12, 13.9.2.2: columns of the Reed-Solomon codes. A column is a list of bytes, the first the coefficient of the highest power of x.
use Rattle.std.specs.Prelude.{◌≡◌, Bool, true, false, cond, List, [], ◌∷◌, ◌++◌, ◌↔◌, ℕ, zero, suc, ◌-◌, ◌<◌, eqb, length, drop}
use Rattle.laws.specs.Bytes.{Bytes}
use Rattle.laws.specs.Tabulate.{tabulate}
use Rattle.galois.specs.Field.{α, sum, product, power}

-- the value at x by Horner's rule, where v is the value of the bytes before
unfoldable pub value_from : ℕ → List ℕ → ℕ → ℕ
value_from v [] x = v
value_from v (c ∷ cs) x = value_from (sum (product v x) c) cs x

-- the value of a column at x
unfoldable pub value : List ℕ → ℕ → ℕ
value column x = value_from 0 column x

-- the column has the roots α^0 to α^(r - 1)
abbrev pub Roots : ℕ → List ℕ → Type 0
Roots r column = (i : ℕ) → i < r → value column (power α i) ≡ 0

-- the same, as a test
unfoldable pub has_roots : ℕ → List ℕ → Bool
has_roots zero column = true
has_roots (suc r) column = cond (eqb (value column (power α r)) 0) (has_roots r column) false

-- p is r bytes that, behind the message, give the column its roots
pub record Completes (r : ℕ) (message p : List ℕ) : Type 0 where
  pub size : length p ≡ r
  pub bytes : Bytes p
  pub roots : Roots r (message ++ p)

-- p is the parity of the message: the only such bytes
pub record IsParity (r : ℕ) (message p : List ℕ) : Type 0 where
  pub right : Completes r message p
  pub only : (q : List ℕ) → Completes r message q → q ≡ p

-- whether the bytes behind the first n are p, as an answer
pub record EndsIn (column : List ℕ) (n : ℕ) (p : List ℕ) (answer : Bool) : Type 0 where
  pub same : answer ≡ true → drop n column ≡ p
  pub other : answer ≡ false → drop n column ≡ p → ⊥

-- ---- the generator polynomial, and the parity by division

-- the sum of two columns of one length
unfoldable pub sums : List ℕ → List ℕ → List ℕ
sums [] ys = []
sums (x ∷ xs) [] = []
sums (x ∷ xs) (y ∷ ys) = sum x y ∷ sums xs ys

-- a times a column
unfoldable pub scaled : ℕ → List ℕ → List ℕ
scaled a [] = []
scaled a (c ∷ cs) = product a c ∷ scaled a cs

-- x - a times a column
unfoldable pub times_root : ℕ → List ℕ → List ℕ
times_root a cs = sums (cs ++ 0 ∷ []) (0 ∷ scaled a cs)

-- formulas 30, 33, 37: the product of x - α^i for i below r
unfoldable pub generator : ℕ → List ℕ
generator zero = 1 ∷ []
generator (suc r) = times_root (power α r) (generator r)

-- q(x) g(x): each coefficient of q times g, at its place, and the sum of these. The product has one coefficient less than both together.
unfoldable pub multiplied : List ℕ → List ℕ → List ℕ
multiplied [] g = tabulate (length g - 1) (λ _. 0)
multiplied (c ∷ q) g = sums (scaled c g ++ tabulate (length q) (λ _. 0)) (0 ∷ multiplied q g)

-- the column, as a polynomial, is a multiple of g(x) (13.7, 13.9.2.2, 13.12: of the generator). A column of at least as
-- many bytes as the generator has roots is one exactly where it has them (proofs/Multiple: right-multiple, multiple-right).
pub record MultipleOf (g column : List ℕ) : Type 0 where
  pub quotient : List ℕ
  pub bytes : Bytes quotient
  pub product : column ≡ multiplied quotient g

-- what is promised of a parity, whatever the message's length: p is the only r bytes that, behind it, give the column its roots, and of all r
-- bytes exactly p makes it a multiple of the generator
pub record ParityExactly (r : ℕ) (message p : List ℕ) : Type 0 where
  pub is-parity : IsParity r message p
  pub multiples : (q : List ℕ) → length q ≡ r → Bytes q → MultipleOf (generator r) (message ++ q) ↔ (q ≡ p)

-- One byte into the register that divides by the polynomial 1 ∷ g: it moves by one place, and the byte that comes out, with d, takes that
-- multiple of g off.
unfoldable pub pushed : List ℕ → List ℕ → ℕ → List ℕ
pushed g [] d = []
pushed g (c ∷ cs) d = sums (cs ++ 0 ∷ []) (scaled (sum d c) g)

-- the bytes of a message into the register, one after the other
unfoldable pub remainder : List ℕ → List ℕ → List ℕ → List ℕ
remainder g register [] = register
remainder g register (d ∷ ds) = remainder g (pushed g register d) ds

-- the remainder of the message, times x^r, divided by the generator; the only r bytes with which the column has the roots α^0 to α^(r - 1), and
-- with which it is a multiple of the generator (proofs/Multiple: parity-exactly)
unfoldable pub parity : ℕ → List ℕ → List ℕ
parity r message = remainder (drop 1 (generator r)) (tabulate r (λ _. 0)) message
