-- The modulator's loop, two bytes a turn, and its end. Assumes nothing.
use mathlib.Core.List.{List, [], ◌++◌, append_assoc}
use mathlib.Core.Path.{◌≡◌, sym, ap, ap₂, subst, subst₂, ◌∙◌}
use Prim.Native.Nat.{ℕ, zero, suc, ◌+◌, ◌*◌, ◌-◌, ◌/◌, ◌%◌, ◌^◌, ◌<◌, ◌≤◌}
use native.Mathlib.Nat.{mod-lt, zero-lt-suc, mod-eq_of_lt}
use native.Mathlib.Omega.{arith}
use lib.Dec.{eqb}
use lib.ListN.{length, take, drop, take-append-drop}
use lib.Seq.{take_all, take-add}
use lib.Pow.{pow_mono}
use Rattle.laws.specs.Tabulate.{tabulate}
use Rattle.bits.specs.Bits.{bits_of, bits_of_number}
use Rattle.bits.proofs.Number.{length-bits-of, number-of-bits}
use Rattle.modulation.specs.Modulation.{Two, Modulated, modulate}
use Rattle.modulation.specs.Bits.{bits}
use Rattle.modulation.proofs.Machine.{machine-is}
use Rattle.modulator.specs.steps.Table.{byte_entry, last_entry}
use Rattle.modulation.specs.steps.Pairs.{nibble_pairs, byte_pairs}
use Rattle.modulator.specs.steps.Put.{Put, FramePut}
use Rattle.modulator.proofs.Runs.{from, byte-moves}
use Rattle.modulator.proofs.Holding.{Holding, hold-none, hold-more, hold-put, hold-lt, last-bits, last-lt, last_end}
use Rattle.bits.proofs.Concat.{number-bits, join-bits}

-- the machine starts with nothing that waits
start_is : (s : ℕ) (ds : List Two) → s < 2 → from s ds ≡ modulate (eqb s 1) ds
start_is zero ds h = machine-is ds _ _
start_is (suc zero) ds h = machine-is ds _ _
start_is (suc (suc s)) ds h = absurd (omega arith)

holding-is : {pre : List ℕ} {s lag acc acc' t t' : ℕ} {ds ds' : List Two} {done done' : List ℕ} → ds ≡ ds' → done ≡ done' → acc ≡ acc' → t ≡ t'
    → Holding pre s ds done lag acc t → Holding pre s ds' done' lag acc' t'
holding-is {pre} {s} {lag} {acc} {acc'} {t} {t'} {ds} {ds'} {done} {done'} ed eo ea et h =
    subst₂ (λ (d : List Two) (o : List ℕ). Holding pre s d o lag acc' t') ed eo (subst₂ (Holding pre s ds done lag) ea et h)

-- ---- the loop

-- k turns are done: 8 k of the pairs ds are taken and 3 k bytes put; acc and t are what is held
pub record Turning (first lag : ℕ) (ds : List Two) (out : List ℕ) (k acc t : ℕ) : Type 0 where
  pub within : k ≤ 79
  pub size : length out ≡ 242
  pub holding : Holding (bits_of_number lag first) (first % 2) (take (8 * k) ds) (bits_of (take (3 * k) out)) lag acc t

module _ {first lag : ℕ} {ds : List Two} where
  pub turning-none : {out : List ℕ} {t : ℕ} → length out ≡ 242 → first < 2 ^ lag → t ≡ first % 2 → Turning first lag ds out 0 first t
  unfolding bits_of tabulate
  turning-none {out} {t} size small e =
      record {
        within = omega arith;
        size = size;
        holding =
            subst (Holding (bits_of_number lag first) (first % 2) [] [] lag first) (sym e)
            (hold-none (bits_of_number lag first) (first % 2) lag first (number-bits lag first) (mod-lt first (zero-lt-suc 1)) (length-bits-of lag first) (number-of-bits lag first ∙ mod-eq_of_lt small));
      }

  module _ {out : List ℕ} {k acc t : ℕ} (u : Turning first lag ds out k acc t) where
    -- one byte more is taken
    abbrev one : (x : ℕ) → x < 256
        → Holding (bits_of_number lag first) (first % 2) (take (8 * k) ds ++ byte_pairs x) (bits_of (take (3 * k) out)) (lag + 12) (acc * 4096 + byte_entry t x / 32) (byte_entry t x % 32)
    one x hx = hold-more u.holding (byte-moves t x u.holding.moves.below hx)

    pub turning-small : lag ≤ 34 → acc < 70368744177664
    turning-small h = omega (arith, hold-lt u.holding, pow_mono {i = lag} {j = 34} h)

    module _ (x e : ℕ) (hx : x < 256) (is : e ≡ byte_entry t x) where
      pub turning-next : {s : ℕ} → s ≡ e % 32 → s < 20
      turning-next es = rw (es, is) (one x hx).moves.below

      pub turning-second : {m : ℕ} → lag ≤ 34 → m ≡ acc * 4096 + e / 32 → m < 70368744177664
      turning-second h em =
          let within : acc * 4096 + byte_entry t x / 32 < 70368744177664 = omega (arith, hold-lt (one x hx), pow_mono {i = lag + 12} {j = 46} (omega arith)) in
          rw (em, is) within

    -- the second byte, and three bytes are put
    pub turning-more : (x y e f : ℕ) {s m v top acc' t' : ℕ} {after : List ℕ} → k < 79 → 15 ≤ lag → take 8 (drop (8 * k) ds) ≡ byte_pairs x ++ byte_pairs y → x < 256 → y < 256
        → e ≡ byte_entry t x → s ≡ e % 32 → f ≡ byte_entry s y → m ≡ acc * 4096 + e / 32 → v ≡ m * 4096 + f / 32 → top ≡ v / 2 ^ lag
        → Put out (3 * k) 3 top after → acc' ≡ v % 2 ^ lag → t' ≡ f % 32
        → Turning first lag ds after (k + 1) acc' t'
    turning-more x y e f {s} {m} {v} {top} {acc'} {t'} {after} h few next hx hy ee es ef em ev et p ea eu =
        record {
          within = omega arith;
          size = p.size ∙ u.size;
          holding = holding-is pairs-are done-are (ap (λ (n : ℕ). n % 2 ^ lag) value ∙ sym ea) (ap (λ (n : ℕ). n % 32) second ∙ sym eu) put;
        }
      where
        two : Holding (bits_of_number lag first) (first % 2) ((take (8 * k) ds ++ byte_pairs x) ++ byte_pairs y) (bits_of (take (3 * k) out)) (lag + 12 + 12)
            ((acc * 4096 + byte_entry t x / 32) * 4096 + byte_entry (byte_entry t x % 32) y / 32) (byte_entry (byte_entry t x % 32) y % 32)
        two = hold-more (one x hx) (byte-moves (byte_entry t x % 32) y (one x hx).moves.below hy)

        second : byte_entry (byte_entry t x % 32) y ≡ f
        second = sym (rw (ef, es, ee))

        value : (acc * 4096 + byte_entry t x / 32) * 4096 + byte_entry (byte_entry t x % 32) y / 32 ≡ v
        value = sym (rw (ev, em, ef, es, ee))

        put : Holding (bits_of_number lag first) (first % 2) ((take (8 * k) ds ++ byte_pairs x) ++ byte_pairs y)
            (bits_of (take (3 * k) out) ++ bits_of_number 24 (((acc * 4096 + byte_entry t x / 32) * 4096 + byte_entry (byte_entry t x % 32) y / 32) / 2 ^ lag)) lag
            (((acc * 4096 + byte_entry t x / 32) * 4096 + byte_entry (byte_entry t x % 32) y / 32) % 2 ^ lag) (byte_entry (byte_entry t x % 32) y % 32)
        put = hold-put two 24 lag (omega arith) few

        done-are : bits_of (take (3 * k) out) ++ bits_of_number 24 (((acc * 4096 + byte_entry t x / 32) * 4096 + byte_entry (byte_entry t x % 32) y / 32) / 2 ^ lag) ≡ bits_of (take (3 * (k + 1)) after)
        done-are =
            let place : 3 * k + 3 ≡ 3 * (k + 1) = omega arith in
            ap (λ (n : ℕ). bits_of (take (3 * k) out) ++ bits_of_number 24 n) (ap (λ (n : ℕ). n / 2 ^ lag) value ∙ sym et)
            ∙ sym p.front
            ∙ ap (λ (n : ℕ). bits_of (take n after)) place

        pairs-are : (take (8 * k) ds ++ byte_pairs x) ++ byte_pairs y ≡ take (8 * (k + 1)) ds
        pairs-are =
            let place : 8 * k + 8 ≡ 8 * (k + 1) = omega arith in
            append_assoc (take (8 * k) ds) (byte_pairs x) (byte_pairs y)
            ∙ ap (λ (l : List Two). take (8 * k) ds ++ l) (sym next)
            ∙ sym (take-add (8 * k) 8 ds)
            ∙ ap (λ (n : ℕ). take n ds) place

    -- the last four bits
    module _ (x : ℕ) (hx : x < 16) where
      pub turning-last : {e v : ℕ} → e ≡ last_entry t x → v ≡ acc * 64 + e / 2 → v < 2 ^ (lag + 6)
      turning-last ee ev = rw (ev, ee) (last-lt u.holding x hx)

      pub turning-all : {e v w : ℕ} {last : ℕ} {after : List ℕ} → 79 ≤ k → lag ≤ 34 → last < 2 ^ (34 - lag) → drop 632 ds ≡ nibble_pairs x → e ≡ last_entry t x → v ≡ acc * 64 + e / 2
          → w ≡ v * 2 ^ (34 - lag) + last → Put out 237 5 w after → FramePut first lag last ds after (eqb (e % 2) 1)
      turning-all {e} {v} {w} {last} {after} h few small ex ee ev ew p =
          record {
            bits_are =
                ap bits_of (sym (take_all 242 after (omega (arith, p.size, u.size))))
                ∙ p.front
                ∙ ap (λ (b : List ℕ). bits_of (take 237 out) ++ b) (ap₂ bits_of_number whole ew ∙ join-bits (lag + 6) (34 - lag) v last (turning-last ee ev) small)
                ∙ sym (append_assoc (bits_of (take 237 out)) (bits_of_number (lag + 6) v) (bits_of_number (34 - lag) last))
                ∙ ap (λ (b : List ℕ). b ++ bits_of_number (34 - lag) last) (sym given)
                ∙ append_assoc (bits_of_number lag first) (bits (modulate (eqb (first % 2) 1) ds).groups) (bits_of_number (34 - lag) last);
            ends = ap (λ (n : ℕ). eqb (n % 2) 1) ee ∙ last_end u.holding x hx ∙ ap (λ (m : Modulated). m.terminated) frame_is;
          }
        where
          turns : k ≡ 79
          turns = omega (arith, u.within)

          whole : 40 ≡ lag + 6 + (34 - lag)
          whole = omega arith

          frame_is : from (first % 2) (take (8 * k) ds ++ nibble_pairs x) ≡ modulate (eqb (first % 2) 1) ds
          frame_is =
              start_is (first % 2) (take (8 * k) ds ++ nibble_pairs x) (mod-lt first (zero-lt-suc 1))
              ∙ ap (modulate (eqb (first % 2) 1)) (ap₂ (λ (n : ℕ) (l : List Two). take (8 * n) ds ++ l) turns (sym ex) ∙ take-append-drop 632 ds)

          given : bits_of_number lag first ++ bits (modulate (eqb (first % 2) 1) ds).groups ≡ bits_of (take 237 out) ++ bits_of_number (lag + 6) v
          given =
              ap (λ (m : Modulated). bits_of_number lag first ++ bits m.groups) (sym frame_is)
              ∙ last-bits u.holding x hx
              ∙ ap₂ (λ (n a : ℕ). bits_of (take (3 * n) out) ++ bits_of_number (lag + 6) a) turns (ap (λ (n : ℕ). acc * 64 + n / 2) (sym ee) ∙ sym ev)
