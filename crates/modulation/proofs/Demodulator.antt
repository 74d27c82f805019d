-- A demodulator: from the groups of a frame, # of the next sync and the bit before, word by word, the data bits. It gives those that
-- were modulated; so modulation loses nothing, and whether data bits exist is told by modulating again. Assumes nothing.
use mathlib.Core.Bool.{Bool, true, ◌||◌, false≢true}
use mathlib.Core.List.{List, [], ◌∷◌, ◌++◌}
use mathlib.Core.Logic.{◌↔◌}
use mathlib.Core.Path.{◌≡◌, refl, sym, ap, ◌∙◌}
use Prim.Native.Nat.{ℕ, zero, suc, ◌-◌, ◌≤◌}
use native.Mathlib.Nat.{not-suc-le-zero}
use native.Mathlib.Omega.{arith}
use lib.ListN.{length, drop}
use lib.Seq.{drop-append_seam}
use Rattle.modulation.specs.Modulation.{Two, Three, Row, When, always, after_one, after-zero, before-010, at-end, row_at, Modulated, terminates, modulate}
use Rattle.modulation.specs.Demodulator.{agrees, row_read, demodulate_from, demodulate}
use Rattle.modulation.proofs.Size.{size}
use Rattle.modulation.proofs.Words.{Word, drop-behind, next_bit, row-size, modulate-none, by-words}
use Rattle.modulation.proofs.Reading.{row-agrees, row-read}

skip : (hash : Bool) (gs : List Three) (k : ℕ) (b : Bool) → demodulate_from hash gs k b ≡ demodulate_from hash (drop k gs) 0 b
unfolding demodulate_from
skip hash [] zero b = refl
skip hash [] (suc k) b = refl
skip hash (g ∷ gs) zero b = refl
skip hash (g ∷ gs) (suc k) b = skip hash gs k b

-- the word of row r in front
pub word-front : (b hash : Bool) (gs : List Three) (r : Row) → row_at (row_read b hash gs) ≡ r → 1 ≤ length gs → 1 ≤ length r.groups
    → demodulate_from hash gs 0 b ≡ r.pairs ++ demodulate_from hash (drop (length r.groups) gs) 0 (next_bit r)
unfolding demodulate_from
word-front b hash [] r e hg hr = absurd (not-suc-le-zero hg)
word-front b hash (g ∷ gs) r e hg hr =
    ap (λ (s : Row). s.pairs ++ demodulate_from hash gs (length s.groups - 1) (next_bit s)) e
    ∙ ap (λ (l : List Two). r.pairs ++ l)
    (skip hash gs (length r.groups - 1) (next_bit r) ∙ ap (λ (l : List Three). demodulate_from hash l 0 (next_bit r)) (drop-behind g gs (length r.groups) hr))

-- behind a terminating word nothing is left
pub hash-behind : (w : When) (b c hash : Bool) (gs : List Three) → agrees w b gs ≡ true → demodulate_from (terminates w || hash) gs 0 c ≡ demodulate_from hash gs 0 c
unfolding demodulate_from
hash-behind always b c hash gs e = refl
hash-behind after_one b c hash gs e = refl
hash-behind after-zero b c hash gs e = refl
hash-behind before-010 b c hash gs e = refl
hash-behind at-end b c hash [] e = refl
hash-behind at-end b c hash (g ∷ gs) e = absurd (false≢true e)

none-back : (b : Bool) → demodulate b (modulate b []) ≡ []
unfolding demodulate_from
none-back b = ap (demodulate b) (modulate-none b)

-- the data bits come back
pub comes_back : (b : Bool) (ds : List Two) → demodulate b (modulate b ds) ≡ ds
comes_back = by-words (λ b ds. demodulate b (modulate b ds) ≡ ds) none-back more
  where
    more : (b : Bool) (d : Two) (ds : List Two) (f : Word b (d ∷ ds)) → demodulate (next_bit f.row) (modulate (next_bit f.row) f.rest) ≡ f.rest
        → demodulate b (modulate b (d ∷ ds)) ≡ d ∷ ds
    more b d ds f ih =
        let r = f.row in
        let rest = modulate (next_bit r) f.rest in
        let hash = terminates r.when || rest.terminated in
        word-front b (modulate b (d ∷ ds)).terminated (modulate b (d ∷ ds)).groups r (ap row_at (row-read b (d ∷ ds) f) ∙ f.first.is)
        (omega (arith, size b (d ∷ ds))) (omega (arith, row-size f.first))
        ∙ ap (λ (g : Modulated). r.pairs ++ demodulate_from g.terminated (drop (length r.groups) g.groups) 0 (next_bit r)) f.gives
        ∙ ap (λ (l : List Three). r.pairs ++ demodulate_from hash l 0 (next_bit r)) (drop-append_seam r.groups rest.groups)
        ∙ ap (λ (l : List Two). r.pairs ++ l) (hash-behind r.when b (next_bit r) rest.terminated rest.groups (row-agrees b (d ∷ ds) f) ∙ ih)
        ∙ sym f.split

-- equal modulation bits and an equal end come from equal data bits
pub injective : (b : Bool) (ds es : List Two) → modulate b ds ≡ modulate b es → ds ≡ es
injective b ds es e = sym (comes_back b ds) ∙ ap (demodulate b) e ∙ comes_back b es

-- some data bits give f if and only if those of the demodulator do
pub readable : (b : Bool) (f : Modulated) → ((ds : List Two) × (modulate b ds ≡ f)) ↔ (modulate b (demodulate b f) ≡ f)
readable b f = (
  λ p. ap (λ (g : Modulated). modulate b (demodulate b g)) (sym p.1) ∙ ap (modulate b) (comes_back b p.0) ∙ p.1,
  λ e. (demodulate b f, e),
)
