-- The laws of address fields: each way of writing one, and what is read in one. Assumes nothing.
use mathlib.Core.Path.{◌≡◌, refl, sym, ap, ◌∙◌}
use mathlib.Core.Bool.{Bool, true, false, cond}
use mathlib.Core.List.{List, [], ◌∷◌, ◌++◌}
use Prim.Native.Nat.{ℕ, zero, suc, ◌-◌, ◌/◌, ◌%◌, ◌^◌, ◌<◌}
use native.Mathlib.Omega.{arith}
use lib.ListN.{length, get_or, take, length-append}
use lib.Seq.{get_or-take, length-take-le}
use Rattle.laws.specs.Bytes.{Bytes}
use Rattle.laws.specs.Tabulate.{tabulate}
use Rattle.laws.proofs.Bytes.{bytes-append, bytes-tabulate}
use Rattle.laws.proofs.Finite.{all, equal-below, bounded-below}
use Rattle.laws.proofs.Tabulate.{is-tabulate, get_d_tabulate, length-tabulate}
use Rattle.big_endian.specs.Words.{word_of, four_bytes}
use Rattle.big_endian.proofs.Words.{word_back, four-bytes-back}
use Rattle.column.specs.Column.{generator, MultipleOf, has_roots, parity}
use Rattle.column.proofs.Parity.{parity-length, parity-bytes, parity-test, test-column}
use Rattle.column.proofs.Multiple.{parity-multiple}
use Rattle.bis.specs.AddressField.{reordered, information, primary_field, is_inverted, inverted_at, partly_inverted, address_field, restored, aun_in, flag_in}

-- ---- the order of bits

pub reordered-lt : (high : ℕ) → high < 256 → reordered high < 256
unfolding all
reordered-lt = bounded-below 256 256 reordered tt

restored-lt : (paf0 : ℕ) → paf0 < 256 → restored paf0 < 256
unfolding all
restored-lt = bounded-below 256 256 restored tt

pub restored-reordered : (high : ℕ) → high < 256 → restored (reordered high) ≡ high
unfolding all
restored-reordered = equal-below 256 (λ h. restored (reordered h)) (λ h. h) tt

pub reordered-restored : (paf0 : ℕ) → paf0 < 256 → reordered (restored paf0) ≡ paf0
unfolding all
reordered-restored = equal-below 256 (λ p. reordered (restored p)) (λ p. p) tt

-- ---- the information bytes

pub information-bytes : (aun flag : ℕ) → flag < 256 → Bytes (information aun flag)
information-bytes aun flag hf zero = reordered-lt (aun / 2 ^ 24 % 256) (omega arith)
information-bytes aun flag hf (suc zero) = omega arith
information-bytes aun flag hf (suc (suc zero)) = omega arith
information-bytes aun flag hf (suc (suc (suc zero))) = omega arith
information-bytes aun flag hf (suc (suc (suc (suc zero)))) = hf
information-bytes aun flag hf (suc (suc (suc (suc (suc i))))) = omega arith

-- high is PAF0
pub information-is : (aun flag high : ℕ) (bytes : List ℕ) → bytes ≡ four_bytes aun → high ≡ reordered (get_or bytes 0 0)
    → high ∷ get_or bytes 1 0 ∷ get_or bytes 2 0 ∷ get_or bytes 3 0 ∷ flag ∷ [] ≡ information aun flag
information-is aun flag high bytes e h = rw (h, e)

four : (p : List ℕ) → length p ≡ 4 → p ≡ get_or p 0 0 ∷ get_or p 1 0 ∷ get_or p 2 0 ∷ get_or p 3 0 ∷ []
unfolding tabulate
four p size = is-tabulate 0 4 (λ k. get_or p k 0) p size (λ k h. refl)

-- i and p are the information bytes and their parity
pub primary-is : (aun flag : ℕ) (i p : List ℕ) → i ≡ information aun flag → p ≡ parity 4 i
    → get_or i 0 0 ∷ get_or i 1 0 ∷ get_or i 2 0 ∷ get_or i 3 0 ∷ get_or i 4 0 ∷ get_or p 0 0 ∷ get_or p 1 0 ∷ get_or p 2 0 ∷ get_or p 3 0 ∷ []
    ≡ primary_field aun flag
unfolding primary_field
primary-is aun flag i p ei ep =
    let right : p ≡ parity 4 (information aun flag) = ep ∙ ap (parity 4) ei in
    let size : length p ≡ 4 = ap length right ∙ parity-length 4 (information aun flag) in
    rw (ei, ← right, ← four p size)

-- ---- partial inversion

pub inverted-is : (f : List ℕ) (a b c d : ℕ) → a ≡ 255 - get_or f 2 0 → b ≡ 255 - get_or f 3 0 → c ≡ 255 - get_or f 5 0 → d ≡ 255 - get_or f 6 0
    → get_or f 0 0 ∷ get_or f 1 0 ∷ a ∷ b ∷ get_or f 4 0 ∷ c ∷ d ∷ get_or f 7 0 ∷ get_or f 8 0 ∷ [] ≡ partly_inverted f
unfolding partly_inverted tabulate
inverted-is f a b c d ha hb hc hd = cc

inverted-twice : (b : Bool) (byte : ℕ) → byte < 256 → cond b (255 - cond b (255 - byte) byte) (cond b (255 - byte) byte) ≡ byte
inverted-twice true byte h = omega arith
inverted-twice false byte h = refl

inverted-byte : (b : Bool) (byte : ℕ) → byte < 256 → cond b (255 - byte) byte < 256
inverted-byte true byte h = omega arith
inverted-byte false byte h = h

pub length-inverted : (f : List ℕ) → length (partly_inverted f) ≡ 9
unfolding partly_inverted
length-inverted f = length-tabulate 9 (λ x. inverted_at x (get_or f x 0))

pub bytes-inverted : (f : List ℕ) → Bytes f → Bytes (partly_inverted f)
unfolding partly_inverted
bytes-inverted f bytes = bytes-tabulate 9 (λ x. inverted_at x (get_or f x 0)) (λ x h. inverted-byte (is_inverted x) (get_or f x 0) (bytes x))

-- partial inversion undoes itself
pub inverted-back : (f : List ℕ) → length f ≡ 9 → Bytes f → partly_inverted (partly_inverted f) ≡ f
unfolding partly_inverted
inverted-back f size bytes =
    sym (is-tabulate 0 9 (λ x. inverted_at x (get_or (tabulate 9 (λ x. inverted_at x (get_or f x 0))) x 0)) f size
    (λ x h. sym (ap (inverted_at x) (get_d_tabulate 9 (λ x. inverted_at x (get_or f x 0)) x 0 h) ∙ inverted-twice (is_inverted x) (get_or f x 0) (bytes x))))

-- ---- what is read in a primary address field

module _ (aun flag : ℕ) where
  pub aun-back : aun < 2 ^ 32 → aun_in (primary_field aun flag) ≡ aun
  unfolding primary_field
  aun-back h =
      ap (λ (a : ℕ). word_of a (aun / 2 ^ 16 % 256) (aun / 2 ^ 8 % 256) (aun % 256)) (restored-reordered (aun / 2 ^ 24 % 256) (omega arith))
      ∙ word_back aun h

  pub flag-back : flag_in (primary_field aun flag) ≡ flag
  unfolding primary_field
  flag-back = refl

  length-primary : length (primary_field aun flag) ≡ 9
  unfolding primary_field
  length-primary = let i = information aun flag in omega (arith, length-append i (parity 4 i), parity-length 4 i)

  pub length-field : length (address_field aun flag) ≡ 9
  unfolding address_field
  length-field = length-inverted (primary_field aun flag)

module _ (aun flag : ℕ) (hf : flag < 256) where
  bytes-primary : Bytes (primary_field aun flag)
  unfolding primary_field
  bytes-primary =
      let i = information aun flag in
      bytes-append i (parity 4 i) (information-bytes aun flag hf) (parity-bytes 4 i)

  pub primary-roots : has_roots 4 (primary_field aun flag) ≡ true
  unfolding primary_field
  primary-roots = parity-test 4 (information aun flag) (information-bytes aun flag hf)

  pub primary-multiple : MultipleOf (generator 4) (primary_field aun flag)
  unfolding primary_field
  primary-multiple = parity-multiple 4 (information aun flag) (information-bytes aun flag hf)

  pub bytes-field : Bytes (address_field aun flag)
  unfolding address_field
  bytes-field = bytes-inverted (primary_field aun flag) bytes-primary

  -- the inversion undone
  pub primary-back : partly_inverted (address_field aun flag) ≡ primary_field aun flag
  unfolding address_field
  primary-back = inverted-back (primary_field aun flag) (length-primary aun flag) bytes-primary

-- ---- nothing else is read as an address field

module _ (f : List ℕ) (size : length f ≡ 9) (bytes : Bytes f) where
  information-in : take 5 f ≡ information (aun_in f) (flag_in f)
  unfolding tabulate
  information-in =
      let back = four-bytes-back (restored (get_or f 0 0)) (get_or f 1 0) (get_or f 2 0) (get_or f 3 0) (restored-lt (get_or f 0 0) (bytes 0)) (bytes 1) (bytes 2) (bytes 3) in
      is-tabulate 0 5 (λ k. get_or f k 0) (take 5 f) (length-take-le 5 f (omega arith)) (λ k h. get_or-take 5 f k 0 h)
      ∙ ap (λ (high : ℕ). high ∷ get_or f 1 0 ∷ get_or f 2 0 ∷ get_or f 3 0 ∷ flag_in f ∷ []) (sym (reordered-restored (get_or f 0 0) (bytes 0)))
      ∙ sym (ap (λ (l : List ℕ). reordered (get_or l 0 0) ∷ get_or l 1 0 ∷ get_or l 2 0 ∷ get_or l 3 0 ∷ flag_in f ∷ []) back)

  pub primary-only : has_roots 4 f ≡ true → f ≡ primary_field (aun_in f) (flag_in f)
  unfolding primary_field
  primary-only roots =
      test-column 4 (omega arith) 5 f bytes size roots
      ∙ ap (λ (i : List ℕ). i ++ parity 4 i) information-in

pub field-only : (f : List ℕ) → length f ≡ 9 → Bytes f → has_roots 4 (partly_inverted f) ≡ true
    → f ≡ address_field (aun_in (partly_inverted f)) (flag_in (partly_inverted f))
unfolding address_field
field-only f size bytes roots =
    sym (inverted-back f size bytes)
    ∙ ap partly_inverted (primary-only (partly_inverted f) (length-inverted f) (bytes-inverted f bytes) roots)
