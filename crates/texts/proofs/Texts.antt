-- A text that bytes are put behind. Assumes nothing.
use mathlib.Core.Path.{◌≡◌, refl, sym, ap, ◌∙◌}
use mathlib.Core.List.{List, [], ◌∷◌, ◌++◌, append_assoc, append-nil}
use Prim.Native.Nat.{ℕ, suc, ◌+◌, ◌-◌, ◌≤◌, ◌<◌}
use native.Mathlib.Numerals.{add-one}
use native.Mathlib.Omega.{arith}
use borrow.Author.Tests.{le-ltb, lt-ltb}
use lib.ListN.{length, set, get_or, drop, length-append}
use lib.Seq.{drop-cons, drop-length}
use Rattle.texts.specs.declared.Text.{Text}
use Rattle.laws.specs.Zeros.{zeros}
use Rattle.texts.specs.Text.{text_of, blank_text, byte_added, added}

-- ---- one byte

pub push-none : (text : Text) (b : ℕ) → 256 ≤ text.size → text ≡ byte_added text b
unfolding byte_added
push-none text b h = simp (le-ltb _ _ h)

pub push-one : (text : Text) (b : ℕ) → text.size < 256 → record { bytes = set text.bytes text.size b; size = text.size + 1 } ≡ byte_added text b
unfolding byte_added
push-one text b h = simp (lt-ltb _ _ h)

-- ---- several

pub added_more : (text : Text) (a b : List ℕ) → added (added text a) b ≡ added text (a ++ b)
unfolding added
added_more text [] b = refl
added_more text (x ∷ a) b = added_more (byte_added text x) a b

-- two pieces, and three
pub added-two : (text : Text) (a b : List ℕ) (t u : Text) → t ≡ added text a → u ≡ added t b → u ≡ added text (a ++ b)
added-two text a b t u ht hu = hu ∙ ap (λ (x : Text). added x b) ht ∙ added_more text a b

pub added-three : (text : Text) (a b d : List ℕ) (t u v : Text) → t ≡ added text a → u ≡ added t b → v ≡ added u d → v ≡ added text (a ++ b ++ d)
added-three text a b d t u v ht hu hv = added-two text (a ++ b) d u v (added-two text a b t u ht hu) hv

-- in a loop: the rest of the bytes, from i on, is put behind what is done
pub record Behind (text : Text) (more : List ℕ) (done : Text) (i : ℕ) : Type 0 where
  pub within : i ≤ length more
  pub rest : added done (drop i more) ≡ added text more

pub behind_more : {text : Text} {more : List ℕ} {done next : Text} {i : ℕ} → Behind text more done i → i < length more → next ≡ byte_added done (get_or more i 0)
    → Behind text more next (i + 1)
unfolding added
behind_more {text} {more} {done} {next} {i} b h e = record {
  within = omega arith;
  rest = ap (λ (t : Text). added t (drop (i + 1) more)) e ∙ rw add-one (ap (added done) (sym (drop-cons more i 0 h))) ∙ b.rest;
}

pub behind-all : {text : Text} {more : List ℕ} {done : Text} {i : ℕ} → Behind text more done i → length more ≤ i → done ≡ added text more
unfolding added
behind-all {text} {more} {done} {i} b h =
    let e : i ≡ length more = omega (arith, b.within) in
    sym (ap (added done) (ap (λ (k : ℕ). drop k more) e ∙ drop-length more)) ∙ b.rest

-- ---- a text whose bytes have room

set-behind : (a : List ℕ) (b : ℕ) (n : ℕ) → set (a ++ zeros (suc n)) (length a) b ≡ (a ++ (b ∷ [])) ++ zeros n
unfolding zeros
set-behind [] b n = refl
set-behind (x ∷ a) b n = ap (λ (l : List ℕ). x ∷ l) (set-behind a b n)

-- a byte behind a text
pushed-text : (a : List ℕ) (b : ℕ) → length a < 256 → byte_added (text_of a) b ≡ text_of (a ++ (b ∷ []))
unfolding byte_added text_of
pushed-text a b h =
    let size : length (a ++ (b ∷ [])) ≡ length a + 1 = length-append a (b ∷ []) in
    let room : 256 - length a ≡ suc (256 - (length a + 1)) = omega arith in
    let bytes : set (a ++ zeros (256 - length a)) (length a) b ≡ (a ++ (b ∷ [])) ++ zeros (256 - length (a ++ (b ∷ []))) =
    ap (λ (n : ℕ). set (a ++ zeros n) (length a) b) room ∙ set-behind a b (256 - (length a + 1)) ∙ ap (λ (n : ℕ). (a ++ (b ∷ [])) ++ zeros (256 - n)) (sym size) in
    simp (lt-ltb _ _ h) (λ i. record { bytes = bytes i; size = sym size i })

added-text : (a more : List ℕ) → length a + length more ≤ 256 → added (text_of a) more ≡ text_of (a ++ more)
unfolding added
added-text a [] h = ap text_of (sym (append-nil a))
added-text a (b ∷ more) h =
    ap (λ (t : Text). added t more) (pushed-text a b (omega arith))
    ∙ added-text (a ++ (b ∷ [])) more (simp length-append (omega arith))
    ∙ ap text_of (append_assoc a (b ∷ []) more)

-- what is put behind nothing
pub from-blank : (bytes : List ℕ) (t : Text) → length bytes ≤ 256 → t ≡ added blank_text bytes → t ≡ text_of bytes
unfolding blank_text text_of
from-blank bytes t h e = e ∙ added-text [] bytes (omega arith)
