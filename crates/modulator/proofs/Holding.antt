-- The accumulator: the number of the bits that are not put yet, with zeros for what waits. Assumes nothing.
use mathlib.Core.Bool.{Bool, true, false, cond}
use mathlib.Core.List.{List, [], ◌∷◌, ◌++◌, append_assoc, append-nil}
use mathlib.Core.Path.{◌≡◌, refl, sym, ap, ap₂, subst, subst₂, ◌∙◌}
use Prim.Native.Nat.{ℕ, zero, suc, ◌+◌, ◌*◌, ◌/◌, ◌%◌, ◌^◌, ◌<◌, ◌≤◌}
use native.Mathlib.Omega.{arith}
use borrow.Author.Tests.{eq-eqb, ne_eqb}
use lib.Dec.{eqb}
use lib.ListN.{length, take-append-drop, take, drop, length-append, length-drop}
use lib.Seq.{length-take-le, get_or-drop}
use lib.Pow.{shl_lt, high, low}
use Rattle.laws.proofs.Finite.{all, equal-below, bounded-below}
use Rattle.bits.specs.Bits.{Bits, number, bits_of_number}
use Rattle.bits.proofs.Bits.{bits-then}
use Rattle.bits.proofs.Number.{number_lt, bits-of-number}
use Rattle.bits.proofs.Concat.{number_append}
use Rattle.modulation.specs.Modulation.{Two, Modulated}
use Rattle.modulation.specs.Bits.{bits}
use Rattle.modulation.proofs.Bits.{bits-append, length-bits}
use Rattle.modulation.proofs.Fronts.{bits-groups}
use Rattle.modulation.specs.Machine.{stop, put}
use Rattle.modulator.specs.steps.Table.{wait_of, state_bit, waits, stop_entry, nibble_entry, last_entry}
use Rattle.modulation.specs.steps.Pairs.{nibble_pairs}
use Rattle.modulator.proofs.Runs.{shifted, from, Moves, moves-on, nibble-moves}

-- ---- a number cut in two

bits-take : (n : ℕ) (l : List ℕ) → Bits l → Bits (take n l)
bits-take zero l b i = omega arith
bits-take (suc n) [] b i = omega arith
bits-take (suc n) (x ∷ l) b zero = b 0
bits-take (suc n) (x ∷ l) b (suc i) = bits-take n l (λ j. b (suc j)) i

pub bits-drop : (n : ℕ) (l : List ℕ) → Bits l → Bits (drop n l)
bits-drop n l b i = rw (get_or-drop n l i 0) (b (n + i))

-- the first n of the bits l, behind which k are to come, and the others
record Cut (l : List ℕ) (n g k acc : ℕ) : Type 0 where
  front : take n l ≡ bits_of_number n (acc / 2 ^ g)
  size : length (drop n l) + k ≡ g
  rest : acc % 2 ^ g ≡ number (drop n l) * 2 ^ k

cut : (l : List ℕ) (n g k acc : ℕ) → Bits l → length l + k ≡ n + g → k ≤ g → acc ≡ number l * 2 ^ k → Cut l n g k acc
cut l n g k acc b e few held =
    record {
      front =
          sym (ap₂ bits_of_number (sym front-size) (ap (λ (x : ℕ). x / 2 ^ g) whole ∙ high (number (take n l)) g small) ∙ bits-of-number (take n l) (bits-take n l b));
      size = rest-size;
      rest = ap (λ (x : ℕ). x % 2 ^ g) whole ∙ low (number (take n l)) g small;
    }
  where
    front-size : length (take n l) ≡ n
    front-size = length-take-le n l (omega arith)

    rest-size : length (drop n l) + k ≡ g
    rest-size = omega (arith, length-drop n l)

    small : number (drop n l) * 2 ^ k < 2 ^ g
    small = subst (λ (j : ℕ). number (drop n l) * 2 ^ k < 2 ^ j) rest-size (shl_lt (length (drop n l)) k (number_lt (drop n l) (bits-drop n l b)))

    whole : acc ≡ number (take n l) * 2 ^ g + number (drop n l) * 2 ^ k
    whole =
        held
        ∙ sym (shifted (take n l) (drop n l) 0 g k (number (take n l)) (number (drop n l) * 2 ^ k) (omega (arith, rest-size)) (omega arith) refl
        ∙ ap (λ (m : List ℕ). number m * 2 ^ k) (take-append-drop n l))

-- ---- the accumulator

-- behind the bits pre, from state s, the pairs ds lead to t; of the bits so far `done` are put, and acc is the number of the others with
-- zeros for what waits, `lag` bits in all
pub record Holding (pre : List ℕ) (s : ℕ) (ds : List Two) (done : List ℕ) (lag acc t : ℕ) : Type 0 where
  pub value : ℕ
  pub moves : Moves s ds value t
  pub tail : List ℕ
  pub tail-bits : Bits tail
  pub split : pre ++ bits moves.out ≡ done ++ tail
  pub size : length tail + 3 * waits t ≡ lag
  pub held : acc ≡ number tail * 2 ^ (3 * waits t)

first-waits : (s : ℕ) → s < 2 → waits s ≡ 0
unfolding waits
first-waits zero h = refl
first-waits (suc zero) h = refl
first-waits (suc (suc s)) h = absurd (omega arith)

pub few-wait : (s : ℕ) → s < 20 → waits s < 6
unfolding all waits
few-wait s h = bounded-below 20 6 waits tt s h

pub stop-sized : (s : ℕ) → s < 20 → length (stop (wait_of s) (state_bit s)).groups ≡ waits s
unfolding all waits
stop-sized s h = equal-below 20 (λ s. length (stop (wait_of s) (state_bit s)).groups) waits tt s h

end-half : (n : ℕ) (b : Bool) → (2 * n + cond b 1 0) / 2 ≡ n
end-half n true = omega arith
end-half n false = omega arith

end-odd : (n : ℕ) (b : Bool) → eqb ((2 * n + cond b 1 0) % 2) 1 ≡ b
end-odd n true = eq-eqb ((2 * n + 1) % 2) 1 (omega arith)
end-odd n false = ne_eqb ((2 * n + 0) % 2) 1 (λ e. omega arith)

-- nothing is put yet
pub hold-none : (pre : List ℕ) (s lag acc : ℕ) → Bits pre → s < 2 → length pre ≡ lag → number pre ≡ acc → Holding pre s [] [] lag acc s
unfolding number
hold-none pre s lag acc b h size value =
    let none = first-waits s h in
    record {
      value = 0;
      moves = record { below = omega arith; out = []; gives = λ rest. refl; sized = omega arith; valued = omega arith };
      tail = pre;
      tail-bits = b;
      split = append-nil pre;
      size = omega arith;
      held = rw none (omega arith);
    }

module _ {pre : List ℕ} {s : ℕ} {ds : List Two} {done : List ℕ} {lag acc t : ℕ} (h : Holding pre s ds done lag acc t) where
  -- more pairs
  pub hold-more : {es : List Two} {v u : ℕ} → Moves t es v u → Holding pre s (ds ++ es) done (lag + 3 * length es) (acc * 2 ^ (3 * length es) + v) u
  unfolding moves-on
  hold-more {es} {v} {u} n =
      let o = bits n.out in
      record {
        value = h.value * 2 ^ (3 * length es) + v;
        moves = moves-on h.moves n;
        tail = h.tail ++ o;
        tail-bits = bits-then h.tail o h.tail-bits (bits-groups n.out);
        split =
            ap (λ (l : List ℕ). pre ++ l) (bits-append h.moves.out n.out)
            ∙ sym (append_assoc pre (bits h.moves.out) o)
            ∙ ap (λ (l : List ℕ). l ++ o) h.split
            ∙ append_assoc done h.tail o;
        size = omega (arith, length-append h.tail o, length-bits n.out, n.sized, h.size);
        held = shifted h.tail o (3 * waits t) (3 * length es) (3 * waits u) acc v (omega (arith, n.sized, length-bits n.out)) h.held n.valued;
      }

  pub hold-lt : acc < 2 ^ lag
  hold-lt =
      subst₂ (λ (x k : ℕ). x < 2 ^ k) (sym h.held) h.size (shl_lt (length h.tail) (3 * waits t) (number_lt h.tail h.tail-bits))

  -- n bits more are put
  pub hold-put : (n g : ℕ) → lag ≡ n + g → 15 ≤ g → Holding pre s ds (done ++ bits_of_number n (acc / 2 ^ g)) g (acc % 2 ^ g) t
  hold-put n g e few =
      let c = cut h.tail n g (3 * waits t) acc h.tail-bits (h.size ∙ e) (omega (arith, few-wait t h.moves.below)) h.held in
      record {
        value = h.value;
        moves = h.moves;
        tail = drop n h.tail;
        tail-bits = bits-drop n h.tail h.tail-bits;
        split =
            h.split
            ∙ ap (λ (l : List ℕ). done ++ l) (sym (take-append-drop n h.tail))
            ∙ sym (append_assoc done (take n h.tail) (drop n h.tail))
            ∙ ap (λ (l : List ℕ). (done ++ l) ++ drop n h.tail) c.front;
        size = c.size;
        held = c.rest;
      }

  -- the frame ends
  abbrev end : Modulated
  end = stop (wait_of t) (state_bit t)

  all-given : from s ds ≡ put h.moves.out end
  all-given = ap (from s) (sym (append-nil ds)) ∙ h.moves.gives []

  end-size : length (h.tail ++ bits end.groups) ≡ lag
  end-size = omega (arith, length-append h.tail (bits end.groups), length-bits end.groups, stop-sized t h.moves.below, h.size)

  end-value : number (h.tail ++ bits end.groups) ≡ acc + stop_entry t / 2
  unfolding stop_entry
  end-value =
      let o = bits end.groups in
      number_append h.tail o
      ∙ ap (λ (k : ℕ). number h.tail * 2 ^ k + number o) (length-bits end.groups ∙ ap (λ (k : ℕ). 3 * k) (stop-sized t h.moves.below))
      ∙ ap₂ ◌+◌ (sym h.held) (sym (end-half (number o) end.terminated))

  end-bits : Bits (h.tail ++ bits end.groups)
  end-bits = bits-then h.tail (bits end.groups) h.tail-bits (bits-groups end.groups)

  tail-end : h.tail ++ bits end.groups ≡ bits_of_number lag (acc + stop_entry t / 2)
  tail-end = sym (bits-of-number (h.tail ++ bits end.groups) end-bits) ∙ ap₂ bits_of_number end-size end-value

  pub hold-end-lt : acc + stop_entry t / 2 < 2 ^ lag
  hold-end-lt = subst₂ (λ (x k : ℕ). x < 2 ^ k) end-value end-size (number_lt (h.tail ++ bits end.groups) end-bits)

  -- what is put and what is held, with what the end decides, are all the bits
  pub hold-bits : pre ++ bits (from s ds).groups ≡ done ++ bits_of_number lag (acc + stop_entry t / 2)
  hold-bits =
      ap (λ (m : Modulated). pre ++ bits m.groups) all-given
      ∙ ap (λ (l : List ℕ). pre ++ l) (bits-append h.moves.out end.groups)
      ∙ sym (append_assoc pre (bits h.moves.out) (bits end.groups))
      ∙ ap (λ (l : List ℕ). l ++ bits end.groups) h.split
      ∙ append_assoc done h.tail (bits end.groups)
      ∙ ap (λ (l : List ℕ). done ++ l) tail-end

  pub hold-end : eqb (stop_entry t % 2) 1 ≡ (from s ds).terminated
  unfolding stop_entry
  hold-end = end-odd (number (bits end.groups)) end.terminated ∙ ap (λ (m : Modulated). m.terminated) (sym all-given)

-- the last two pairs and the end
module _ {pre : List ℕ} {s : ℕ} {ds : List Two} {done : List ℕ} {lag acc t : ℕ} (h : Holding pre s ds done lag acc t) (x : ℕ) (hx : x < 16) where
  more : Holding pre s (ds ++ nibble_pairs x) done (lag + 6) (acc * 64 + nibble_entry t x / 32) (nibble_entry t x % 32)
  more = hold-more h (nibble-moves t x h.moves.below hx)

  last-half : acc * 64 + nibble_entry t x / 32 + stop_entry (nibble_entry t x % 32) / 2 ≡ acc * 64 + last_entry t x / 2
  unfolding last_entry
  last-half = halves acc (nibble_entry t x / 32) (stop_entry (nibble_entry t x % 32))
    where
      halves : (a b c : ℕ) → a * 64 + b + c / 2 ≡ a * 64 + (b * 2 + c) / 2
      halves a b c = omega arith

  pub last-bits : pre ++ bits (from s (ds ++ nibble_pairs x)).groups ≡ done ++ bits_of_number (lag + 6) (acc * 64 + last_entry t x / 2)
  last-bits = hold-bits more ∙ ap (λ (v : ℕ). done ++ bits_of_number (lag + 6) v) last-half

  pub last-lt : acc * 64 + last_entry t x / 2 < 2 ^ (lag + 6)
  last-lt = subst (λ (v : ℕ). v < 2 ^ (lag + 6)) last-half (hold-end-lt more)

  pub last_end : eqb (last_entry t x % 2) 1 ≡ (from s (ds ++ nibble_pairs x)).terminated
  unfolding last_entry
  last_end = ap (λ (v : ℕ). eqb v 1) (odd (nibble_entry t x / 32) (stop_entry (nibble_entry t x % 32))) ∙ hold-end more
    where
      odd : (b c : ℕ) → (b * 2 + c) % 2 ≡ c % 2
      odd b c = omega arith
