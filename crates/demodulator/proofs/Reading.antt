-- A frame's words, one a turn, and the answer. Assumes nothing.
use mathlib.Core.Bool.{Bool}
use mathlib.Core.List.{List, ◌++◌}
use mathlib.Core.Path.{◌≡◌, refl, sym, ap, ap₂, subst, ◌∙◌}
use Prim.Native.Nat.{ℕ, ◌+◌, ◌*◌, ◌/◌, ◌%◌, ◌^◌, ◌<◌}
use native.Mathlib.Decide.{ℕ_discrete, dec_lt}
use native.Mathlib.Omega.{arith}
use lib.Dec.{eqb}
use borrow.Author.Tests.{eq-eqb, eqb-true}
use lib.ListN.{length, get_or, set, take, drop, replicate, length-set, get_or-eq_default}
use lib.Seq.{get_or-set_same, get_or-set_other}
use Rattle.std.specs.Prelude.{Option, Some, None, IfSome, SomeIff}
use Rattle.std.proofs.lemmas.List.{get_or-replicate}
use Rattle.bits.specs.Bits.{bits_of}
use Rattle.bits.proofs.Bits.{length-bits as length-bits_of, bits-bits}
use Rattle.modulation.specs.Modulation.{Two, Three, Modulated, modulate}
use Rattle.modulation.specs.Bits.{pairs, bits, Gives}
use Rattle.modulation.proofs.Bits.{bits-injective, pairs-data_bits}
use Rattle.modulation.proofs.Size.{size}
use Rattle.modulation.specs.steps.Groups.{Inside, groups_at, frame_at}
use Rattle.modulation.proofs.Groups.{length-groups_at, bits-groups_at}
use Rattle.automaton.specs.Automaton.{start, ending, state_after, number_after, accepts, number_read}
use Rattle.automaton.specs.steps.Table.{After}
use Rattle.demodulator_words.specs.steps.Held.{Held, NextWord}
use Rattle.modulation.specs.steps.Words.{bits_in, Words, WordsRead}
use Rattle.automaton.proofs.Complete.{after-append, complete}
use Rattle.automaton.proofs.Sound.{sound}
use Rattle.automaton.proofs.Entries.{number_after_append, number-shift, start_small}
use Rattle.demodulator_words.proofs.Held.{read_number, read-state, held_first}
use Rattle.demodulator_groups.proofs.Windows.{groups-append}
use Rattle.demodulator_groups.proofs.Running.{read-bound}
use Rattle.demodulator.proofs.Words.{joined, joined-none, joined-more, words-bits}

-- the first i words are done, and x is what is held of the next
pub record Reading (b : List ℕ) (at : ℕ) (before : Bool) (ws : List ℕ) (x i : ℕ) : Type 0 where
  pub words : Words ws
  pub held : Held x
  pub state : x % 32 ≡ state_after (start before) (groups_at b at (13 + 23 * i))
  pub number : joined ws i * 70368744177664 + x / 32 ≡ number_after (start before) 0 (groups_at b at (13 + 23 * i))

pub no-words : Words (replicate 29 0)
no-words =
    record {
      size = refl;
      below = λ i.
          elim (dec_lt i 29) [
            | yes h ↦ rw (get_or-replicate {A = ℕ} 29 i 0 0 h) (omega arith)
            | no h ↦ rw (get_or-eq_default {A = ℕ} (replicate 29 0) 0 {n = i} (omega arith)) (omega arith)
          ];
    }

pub reading-none : (b : List ℕ) (at : ℕ) (before : Bool) {x : ℕ} {ws : List ℕ} → Words ws → After (groups_at b at 13) (start before) x → Reading b at before ws x 0
reading-none b at before {x} {ws} words a =
    record {
      words = words;
      held = let bound : x / 32 < 32 * 4 ^ 13 = read-bound 13 small (omega (arith, length-groups_at b at 13)) a in held_first small a (omega (arith, bound));
      state = read-state small a;
      number = ap (λ (j : ℕ). j * 70368744177664 + x / 32) (joined-none ws) ∙ none (x / 32) ∙ read_number small a;
    }
  where
    small : start before < 18
    small = start_small before

    none : (n : ℕ) → 0 * 70368744177664 + n ≡ n
    none n = omega arith

pub words-set : (ws : List ℕ) (i v : ℕ) → i < 29 → Words ws → v < 70368744177664 → Words (set ws i v)
words-set ws i v inside words h = record { size = length-set ws i v ∙ words.size; below = below }
  where
    below : (k : ℕ) → get_or (set ws i v) k 0 < 70368744177664
    below k =
        elim (ℕ_discrete k i) [
          | yes same ↦
              subst (λ (n : ℕ). get_or (set ws i v) n 0 < 70368744177664) (sym same)
              (subst (λ (n : ℕ). n < 70368744177664) (sym (get_or-set_same ws i v 0 (omega (arith, words.size)))) h)
          | no other ↦ subst (λ (n : ℕ). n < 70368744177664) (sym (get_or-set_other ws i k v 0 other)) (words.below k)
        ]

-- one word more
module _ (b : List ℕ) (at : ℕ) {before : Bool} {x i word held : ℕ} {ws : List ℕ} (r : Reading b at before ws x i)
    (next : NextWord (groups_at b (at + 39 + 69 * i) 23) x word held) where
  abbrev s : ℕ
  s = start before

  abbrev gs : List Three
  gs = groups_at b (at + 39 + 69 * i) 23

  abbrev front : List Three
  front = groups_at b at (13 + 23 * i)

  together : front ++ gs ≡ groups_at b at (13 + 23 * (i + 1))
  together =
      let here : at + 3 * (13 + 23 * i) ≡ at + 39 + 69 * i = omega arith in
      let all : 13 + 23 * i + 23 ≡ 13 + 23 * (i + 1) = omega arith in
      ap (λ (p : ℕ). front ++ groups_at b p 23) (sym here) ∙ sym (groups-append b at (13 + 23 * i) 23) ∙ ap (groups_at b at) all

  -- what stands before the word is moved on by it
  moved : number_after s 0 (front ++ gs) ≡ (joined ws i * 70368744177664 + word) * 70368744177664 + held / 32
  moved =
      let p : ℕ = number_after (x % 32) 0 gs in
      let weight : 4 ^ length gs ≡ 70368744177664 = ap (λ (n : ℕ). 4 ^ n) (length-groups_at b (at + 39 + 69 * i) 23) in
      let here : word * 70368744177664 + held / 32 ≡ x / 32 * 70368744177664 + p =
      next.number ∙ number-shift (x % 32) (x / 32) gs ∙ ap (λ (n : ℕ). x / 32 * n + p) weight in
      let all : number_after s 0 (front ++ gs) ≡ (joined ws i * 70368744177664 + x / 32) * 70368744177664 + p =
      number_after_append s 0 front gs
      ∙ ap₂ (λ (t n : ℕ). number_after t n gs) (sym r.state) (sym r.number)
      ∙ number-shift (x % 32) (joined ws i * 70368744177664 + x / 32) gs
      ∙ ap (λ (n : ℕ). (joined ws i * 70368744177664 + x / 32) * n + p) weight in
      omega (arith, here, all)

  pub reading-more : i < 27 → Reading b at before (set ws i word) held (i + 1)
  reading-more h =
      record {
        words = words-set ws i word (omega arith) r.words next.below;
        held = next.holds;
        state = next.state ∙ ap (λ (t : ℕ). state_after t gs) r.state ∙ sym (after-append s front gs) ∙ ap (state_after s) together;
        number =
            ap (λ (n : ℕ). n * 70368744177664 + held / 32) (joined-more ws i word (omega (arith, r.words.size)))
            ∙ sym moved
            ∙ ap (number_after s 0) together;
      }

-- ---- the end

module _ {bytes : List ℕ} {at : ℕ} (before hash : Bool) (inside : Inside bytes at 634) where
  abbrev b : List ℕ
  b = bits_of bytes

  abbrev there : List ℕ
  there = take 1902 (drop at (bits_of bytes))

  abbrev frame : Modulated
  frame = frame_at (bits_of bytes) at 634 hash

  bits_are : bits frame.groups ≡ there
  bits_are = bits-groups_at (bits_of bytes) at 634 (bits-bits bytes) (omega (arith, length-bits_of bytes, inside.enough))

  gives-there : (ds : List Two) → modulate before ds ≡ frame → Gives before ds there hash
  gives-there ds e = record { same_bits = ap (λ (f : Modulated). bits f.groups) e ∙ bits_are; same_end = ap (λ (f : Modulated). f.terminated) e }

  gives-frame : (ds : List Two) → Gives before ds there hash → modulate before ds ≡ frame
  gives-frame ds g =
      λ i. record { groups = bits-injective (modulate before ds).groups frame.groups (g.same_bits ∙ sym bits_are) i; terminated = g.same_end i }

  module _ {x i : ℕ} {ws : List ℕ} (r : Reading (bits_of bytes) at before ws x i) (done : i ≡ 27) where
    abbrev whole : List Three
    whole = groups_at (bits_of bytes) at 634

    all_read : 13 + 23 * i ≡ 634
    all_read = omega arith

    state-is : x % 32 ≡ state_after (start before) whole
    state-is = r.state ∙ ap (λ (n : ℕ). state_after (start before) (groups_at (bits_of bytes) at n)) all_read

    accepted : accepts (start before) whole hash ≡ eqb (ending (x % 32) hash % 2) 0
    accepted = ap (λ (t : ℕ). eqb (ending t hash % 2) 0) (sym state-is)

    abbrev last : ℕ
    last = x / 32 + ending (x % 32) hash / 2

    all-joined : joined (set ws 27 last) 28 ≡ number_read (start before) 0 whole hash
    all-joined =
        joined-more ws 27 last (omega (arith, r.words.size))
        ∙ ap (λ (k : ℕ). joined ws k * 70368744177664 + last) (sym done)
        ∙ flat (joined ws i * 70368744177664) (x / 32) (ending (x % 32) hash / 2)
        ∙ ap₂ (λ (n t : ℕ). n + ending t hash / 2) (r.number ∙ ap (λ (n : ℕ). number_after (start before) 0 (groups_at (bits_of bytes) at n)) all_read) state-is
      where
        flat : (j p q : ℕ) → j + (p + q) ≡ j + p + q
        flat j p q = omega arith

    pub reading-all : {answer : Option (List ℕ)} → SomeIff answer (ending (x % 32) hash % 2 ≡ 0) (set ws 27 last) → IfSome answer Words → WordsRead before there hash answer
    reading-all {answer = Some after} found fit = record { words = fit; found = gives; none = tt }
      where
        gives : Gives before (pairs (bits_in after)) there hash
        gives =
            let s = sound before whole hash (accepted ∙ eq-eqb (ending (x % 32) hash % 2) 0 found.0) in
            let long : length s.ds ≡ 634 =
            sym (size before s.ds) ∙ ap (λ (f : Modulated). length f.groups) s.gives ∙ length-groups_at (bits_of bytes) at 634 in
            let same : joined after 28 ≡ number_read (start before) 0 whole hash = ap (λ (l : List ℕ). joined l 28) found.1 ∙ all-joined in
            let back : s.ds ≡ pairs (bits_in after) = sym (pairs-data_bits s.ds) ∙ ap pairs (words-bits after s.ds fit.below long (s.number ∙ sym same)) in
            subst (λ (ds : List Two). Gives before ds there hash) back (gives-there s.ds s.gives)
    reading-all {answer = None} refused fit = record { words = tt; found = tt; none = none }
      where
        none : (ds : List Two) → Gives before ds there hash → ⊥
        none ds g =
            refused
            (eqb-true (ending (x % 32) hash % 2) 0
            (sym accepted ∙ ap (λ (f : Modulated). accepts (start before) f.groups f.terminated) (sym (gives-frame ds g)) ∙ complete before ds))
