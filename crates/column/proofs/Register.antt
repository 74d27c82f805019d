-- The register of the division, in loops: place by place as a byte goes in, and byte by byte over the message. Assumes nothing.
use mathlib.Core.Path.{◌≡◌, refl, sym, ap, ap₂, ◌∙◌}
use mathlib.Core.List.{List, [], ◌∷◌, ◌++◌}
use Prim.Native.Nat.{ℕ, ◌+◌, ◌<◌, ◌≤◌}
use native.Mathlib.Numerals.{add-one}
use native.Mathlib.Omega.{arith}
use lib.ListN.{length, get_or, set, take, drop, get_or-eq_default}
use lib.Seq.{take-add, take_all, drop-cons, get_or-set_other}
use Rattle.laws.specs.Tabulate.{tabulate}
use Rattle.laws.proofs.Tabulate.{length-tabulate, is-tabulate}
use Rattle.laws.proofs.Fill.{Upto, upto-none, upto-more, upto_all}
use Rattle.laws.specs.Bytes.{Bytes}
use Rattle.galois.specs.Field.{sum, product}
use Rattle.galois.specs.Tables.{AreTables, product_by}
use Rattle.galois.proofs.Lookup.{product-table}
use Rattle.galois.proofs.Sum.{zero-sum}
use Rattle.column.specs.Column.{scaled, generator, pushed, remainder, parity}
use Rattle.column.proofs.Sums.{length-snoc, length-scaled, snoc-at, sums_at, scaled_at}
use Rattle.column.proofs.Division.{length-pushed}

-- ---- a byte goes in

pushed_at : (g cs : List ℕ) (d i : ℕ) → length g ≡ length cs → 0 < length cs
    → get_or (pushed g cs d) i 0 ≡ sum (get_or cs (i + 1) 0) (product (sum d (get_or cs 0 0)) (get_or g i 0))
unfolding pushed
pushed_at g [] d i e h = absurd (omega arith)
pushed_at g (c ∷ cs) d i e h =
    sums_at (cs ++ 0 ∷ []) (scaled (sum d c) g) i (length-snoc cs ∙ sym e ∙ sym (length-scaled (sum d c) g))
    ∙ ap₂ sum (snoc-at cs i ∙ ap (λ (k : ℕ). get_or (c ∷ cs) k 0) (sym (add-one i))) (scaled_at (sum d c) g i)

-- p and l are the field's tables; f is the byte that comes out, with the one that goes in; the first j places are those after the byte, and the
-- others as they were
pub record Moved (p l g was : List ℕ) (byte f j : ℕ) (now : List ℕ) : Type 0 where
  pub tables : AreTables p l
  pub bytes : Bytes g
  pub same : length g ≡ length was
  pub small : f < 256
  pub out : f ≡ sum byte (get_or was 0 0)
  pub done : Upto 0 (λ k. get_or (pushed g was byte) k 0) (length was) j now
  pub rest : (k : ℕ) → j ≤ k → get_or now k 0 ≡ get_or was k 0

pub moved_none : {p l g was : List ℕ} {byte f : ℕ} → AreTables p l → Bytes g → length g ≡ length was → f < 256 → f ≡ sum byte (get_or was 0 0)
    → Moved p l g was byte f 0 was
moved_none tables bytes same small out =
    record {
      tables = tables;
      bytes = bytes;
      same = same;
      small = small;
      out = out;
      done = upto-none refl;
      rest = λ k h. refl;
    }

-- m is the product of f and the coefficient at j
module _ {p l g was now : List ℕ} {byte f j m : ℕ} (times : m ≡ product_by p l f (get_or g j 0)) (moved : Moved p l g was byte f j now) where
  after : j < length was → sum (get_or was (j + 1) 0) m ≡ get_or (pushed g was byte) j 0
  after h =
      ap (sum (get_or was (j + 1) 0))
      (product-table moved.tables moved.small (moved.bytes j) times ∙ ap (λ (u : ℕ). product u (get_or g j 0)) moved.out)
      ∙ sym (pushed_at g was byte j moved.same (omega arith))

  pub moved-next : {next : ℕ} → j + 1 < length was → next ≡ sum (get_or now (j + 1) 0) m → Moved p l g was byte f (j + 1) (set now j next)
  moved-next {next} h e =
      record {
        tables = moved.tables;
        bytes = moved.bytes;
        same = moved.same;
        small = moved.small;
        out = moved.out;
        done = upto-more (omega arith) (e ∙ ap (λ (u : ℕ). sum u m) (moved.rest (j + 1) (omega arith)) ∙ after (omega arith)) moved.done;
        rest = λ k h. get_or-set_other now j k next 0 (λ q. omega (arith, q)) ∙ moved.rest k (omega arith);
      }

  -- past the last place the register was 0
  pub moved-last : j + 1 ≡ length was → set now j m ≡ pushed g was byte
  moved-last h =
      upto_all (omega arith) (upto-more (omega arith) right moved.done)
      ∙ sym (is-tabulate 0 (length was) (λ k. get_or (pushed g was byte) k 0) (pushed g was byte) size (λ k h. refl))
    where
      right : m ≡ get_or (pushed g was byte) j 0
      right =
          sym (zero-sum m) ∙ ap (λ (u : ℕ). sum u m) (sym (get_or-eq_default was 0 {n = j + 1} (omega arith))) ∙ after (omega arith)

      size : length (pushed g was byte) ≡ length was
      size = length-pushed g was byte (sym moved.same) ∙ moved.same

-- ---- the message goes in

pub remainder-append : (g register ds es : List ℕ) → remainder g register (ds ++ es) ≡ remainder g (remainder g register ds) es
unfolding remainder
remainder-append g register [] es = refl
remainder-append g register (d ∷ ds) es = remainder-append g (pushed g register d) ds es

-- the register holds the remainder of the first i bytes
pub record Divided (g message : List ℕ) (i : ℕ) (now : List ℕ) : Type 0 where
  pub within : i ≤ length message
  pub size : length now ≡ length g
  pub right : now ≡ remainder g (tabulate (length g) (λ _. 0)) (take i message)

module _ {g : List ℕ} (message entry : List ℕ) (same : length g ≡ length entry) where
  pub divided-none : {now : List ℕ} → now ≡ tabulate (length entry) (λ _. 0) → Divided g message 0 now
  unfolding remainder
  divided-none {now} cleared =
      record {
        within = omega arith;
        size = ap length cleared ∙ length-tabulate (length entry) (λ _. 0) ∙ sym same;
        right = cleared ∙ ap (λ (n : ℕ). tabulate n (λ _. 0)) (sym same);
      }

  pub divided-all : {now : List ℕ} {i : ℕ} → length message ≤ i → Divided g message i now
      → now ≡ remainder g (tabulate (length entry) (λ _. 0)) message
  divided-all {now} {i} h divided =
      divided.right ∙ ap₂ (λ (n : ℕ) (l : List ℕ). remainder g (tabulate n (λ _. 0)) l) same (take_all i message h)

-- n bytes more
pub divided-more : {g message now next : List ℕ} {i : ℕ} (n : ℕ) → i + n ≤ length message → length next ≡ length g
    → next ≡ remainder g now (take n (drop i message)) → Divided g message i now → Divided g message (i + n) next
divided-more {g} {message} {now} {next} {i} n h size e divided =
    record {
      within = h;
      size = size;
      right =
          e
          ∙ ap (λ (l : List ℕ). remainder g l (take n (drop i message))) divided.right
          ∙ sym (remainder-append g (tabulate (length g) (λ _. 0)) (take i message) (take n (drop i message)))
          ∙ ap (remainder g (tabulate (length g) (λ _. 0))) (sym (take-add i n message));
    }

pub divided-next : {g message now next : List ℕ} {i : ℕ} → i < length message → next ≡ pushed g now (get_or message i 0)
    → Divided g message i now → Divided g message (i + 1) next
unfolding remainder
divided-next {g} {message} {now} {next} {i} h e divided =
    divided-more 1 (omega arith) (ap length e ∙ length-pushed g now (get_or message i 0) divided.size)
    (e ∙ ap (remainder g now) (sym (ap (take 1) (drop-cons message i 0 h)))) divided

-- ---- the parity

pub divided-parity : {r n : ℕ} {g out : List ℕ} (message : List ℕ) → g ≡ drop 1 (generator r) → n ≡ r → out ≡ remainder g (tabulate n (λ _. 0)) message
    → out ≡ parity r message
unfolding parity
divided-parity {r} {n} {g} {out} message e size right =
    right ∙ ap₂ (λ (k : ℕ) (l : List ℕ). remainder l (tabulate k (λ _. 0)) message) size e
