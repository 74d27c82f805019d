-- What loops over bytes keep: the register holds the code of the bytes passed. Assumes nothing.
use mathlib.Core.Path.{◌≡◌, sym, ap, ◌∙◌}
use mathlib.Core.List.{List, [], ◌∷◌, ◌++◌}
use Prim.Native.Nat.{ℕ, suc, ◌+◌, ◌-◌, ◌<◌, ◌≤◌}
use native.Mathlib.Omega.{arith}
use lib.ListN.{length, get_or, take, drop, length-drop}
use lib.Seq.{take-add, take-suc, take_all, get_or-drop}
use Rattle.laws.specs.Tabulate.{tabulate}
use Rattle.bits.specs.Bits.{bits_of, number}
use Rattle.big_endian.specs.Words.{eight_bytes}
use Rattle.edc.specs.Edc.{edc_of}
use Rattle.edc.proofs.Division.{leaves-self, leaves-one}
use Rattle.edc.proofs.Detection.{edc-leaves}

pub none_passed : 0 ≡ edc_of []
unfolding bits_of number tabulate
none_passed = leaves-one (leaves-self 0 (omega arith)) (edc-leaves [])

pub eight-of-list : (l : List ℕ) (n eight next : ℕ) → eight_bytes eight ≡ take 8 (drop n l) → next ≡ edc_of (take n l ++ eight_bytes eight) → next ≡ edc_of (take (n + 8) l)
eight-of-list l n eight next e f = f ∙ ap edc_of (ap (λ (m : List ℕ). take n l ++ m) e ∙ sym (take-add n 8 l))

-- the bytes from n on are taken one by one
module _ (l : List ℕ) (n : ℕ) where
  abbrev pub rest : List ℕ
  rest = take (length l - n) (drop n l)

  rest-whole : rest ≡ drop n l
  rest-whole = take_all (length l - n) (drop n l) (omega (arith, length-drop n l))

  rest-length : length rest ≡ length l - n
  rest-length = ap length rest-whole ∙ length-drop n l

  pub byte-of-rest : (i next : ℕ) → i < length rest → next ≡ edc_of (take (n + i) l ++ (get_or rest i 0 ∷ [])) → next ≡ edc_of (take (n + (i + 1)) l)
  byte-of-rest i next h f =
      let byte : get_or rest i 0 ≡ get_or l (n + i) 0 = ap (λ (m : List ℕ). get_or m i 0) rest-whole ∙ get_or-drop n l i 0 in
      let more : n + (i + 1) ≡ suc (n + i) = omega arith in
      rw (more, take-suc l (n + i) 0 (omega (arith, rest-length)), ← byte) f

  pub rest-passed : (i register : ℕ) → length rest ≤ i → register ≡ edc_of (take (n + i) l) → register ≡ edc_of l
  rest-passed i register h e = e ∙ ap edc_of (take_all (n + i) l (omega (arith, rest-length)))
