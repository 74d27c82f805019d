-- A piece of a text is found behind its bars, and put byte by byte. Assumes nothing.
use mathlib.Core.Bool.{cond}
use mathlib.Core.List.{List, [], ◌∷◌, ◌++◌}
use mathlib.Core.Path.{◌≡◌, refl, sym, ap, ◌∙◌}
use Prim.Native.Nat.{ℕ, zero, suc, ◌+◌, ◌-◌, ◌≤◌, ◌<◌}
use native.Mathlib.Numerals.{add-one}
use native.Mathlib.Omega.{arith}
use borrow.Author.Tests.{eq-eqb, ne_eqb}
use lib.Dec.{eqb}
use lib.ListN.{length, get_or, drop}
use lib.Seq.{drop-cons, drop-length}
use Rattle.texts.specs.declared.Text.{Text}
use Rattle.texts.specs.Text.{byte_added, added}
use Rattle.texts.specs.Numbers.{decimal}
use Rattle.texts.specs.Pieces.{shown, piece, PieceBehind}
use Rattle.texts.proofs.Texts.{added_more}

-- nothing is left of a text that is passed
none_left : (bars n i : ℕ) (l : List ℕ) → i ≡ length l → piece bars n (drop i l) ≡ []
unfolding piece
none_left bars n i l e = ap (λ (j : ℕ). piece bars n (drop j l)) e ∙ ap (piece bars n) (drop-length l) ∙ none bars
  where
    none : (k : ℕ) → piece k n [] ≡ []
    none zero = refl
    none (suc k) = refl

-- ---- the bars in front of a piece

module _ {l : List ℕ} {k i bars : ℕ} (p : PieceBehind l k i bars) where
  pub bars-fewer : {fewer : ℕ} → i < length l → (bars ≡ 0 → ⊥) → fewer ≡ cond (eqb (get_or l i 0) 124) (bars - 1) bars → PieceBehind l k (i + 1) fewer
  unfolding piece
  bars-fewer {fewer} h some e = record { within = omega arith; rest = λ n. ap (λ (b : ℕ). piece b n (drop (i + 1) l)) e ∙ rw add-one (step n bars some) ∙ ap (piece bars n) (sym (drop-cons l i 0 h)) ∙ p.rest n }
    where
      step : (n b : ℕ) → (b ≡ 0 → ⊥) → piece (cond (eqb (get_or l i 0) 124) (b - 1) b) n (drop (suc i) l) ≡ piece b n (get_or l i 0 ∷ drop (suc i) l)
      step n zero s = absurd (s refl)
      step n (suc b) s = let one_less : suc b - 1 ≡ b = omega arith in rw one_less

  pub bars-none : bars ≡ 0 → PieceBehind l k i 0
  bars-none e = record { within = p.within; rest = λ n. ap (λ (b : ℕ). piece b n (drop i l)) (sym e) ∙ p.rest n }

  -- there is no such piece
  pub bars-end : length l ≤ i → PieceBehind l k (length l) 0
  bars-end h =
      let e : i ≡ length l = omega (arith, p.within) in
      record { within = omega arith; rest = λ n. none_left 0 n (length l) l refl ∙ sym (none_left bars n i l e) ∙ p.rest n }

-- ---- its bytes

pub shown-number : (text t : Text) (n b : ℕ) → b ≡ 42 → t ≡ added text (decimal n) → t ≡ added text (shown n b)
shown-number text t n b e h = h ∙ rw (eq-eqb b 42 e)

pub shown-byte : (text t : Text) (n b : ℕ) → (b ≡ 42 → ⊥) → t ≡ byte_added text b → t ≡ added text (shown n b)
unfolding added
shown-byte text t n b e h = h ∙ rw (ne_eqb b 42 e)

-- in a loop: of `left`, which begins with the piece, what is left from i on is put behind what is done
pub record Putting (text : Text) (l : List ℕ) (k n : ℕ) (done : Text) (left : List ℕ) (i : ℕ) : Type 0 where
  pub within : i ≤ length left
  pub rest : added done (piece 0 n (drop i left)) ≡ added text (piece k n l)

module _ {text : Text} {l : List ℕ} {k n : ℕ} {done : Text} {left : List ℕ} {i : ℕ} (p : Putting text l k n done left i) where
  front : i < length left → piece 0 n (drop i left) ≡ cond (eqb (get_or left i 0) 124) [] (shown n (get_or left i 0) ++ piece 0 n (drop (suc i) left))
  unfolding piece
  front h = ap (piece 0 n) (drop-cons left i 0 h)

  pub put-more : {next : Text} → i < length left → (get_or left i 0 ≡ 124 → ⊥) → next ≡ added done (shown n (get_or left i 0)) → Putting text l k n next left (i + 1)
  put-more {next} h other e = record {
    within = omega arith;
    rest =
        ap (λ (t : Text). added t (piece 0 n (drop (i + 1) left))) e
        ∙ added_more done (shown n (get_or left i 0)) (piece 0 n (drop (i + 1) left))
        ∙ rw add-one (ap (added done) (sym (front h ∙ rw (ne_eqb (get_or left i 0) 124 other))))
        ∙ p.rest;
  }

  pub put-bar : i < length left → get_or left i 0 ≡ 124 → done ≡ added text (piece k n l)
  unfolding added
  put-bar h bar =
      let ended : piece 0 n (drop i left) ≡ [] = front h ∙ rw (eq-eqb (get_or left i 0) 124 bar) in
      sym (ap (added done) ended) ∙ p.rest

  pub put_all : length left ≤ i → done ≡ added text (piece k n l)
  unfolding added
  put_all h = let e : i ≡ length left = omega (arith, p.within) in sym (ap (added done) (none_left 0 n i left e)) ∙ p.rest
