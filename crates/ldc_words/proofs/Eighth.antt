-- Eighths of the LDC block: where their code words stand, a turn of each loop on them, and what the steps on all eight make. Assumes nothing.
use mathlib.Core.Path.{◌≡◌, refl, sym, ap, ap₂, subst, ◌∙◌}
use mathlib.Core.Bool.{Bool, not}
use mathlib.Core.List.{List, ◌++◌}
use Prim.Native.Nat.{ℕ, ◌+◌, ◌*◌, ◌-◌, ◌/◌, ◌%◌, ◌<◌, ◌≤◌}
use native.Mathlib.Nat.{not-suc-le-zero}
use native.Mathlib.Decide.{dec_lt, ℕ_discrete}
use native.Mathlib.Omega.{arith}
use lib.Bits.{bit_xor}
use lib.ListN.{length, get_or, set, take, drop, length-append, length-drop, get_or-append}
use lib.Seq.{ext_get_or, get_or-take, get_or-drop, get_or-append-add, length-take-le}
use Rattle.laws.specs.First.{first}
use Rattle.laws.specs.Scatter.{Scattered}
use Rattle.laws.proofs.Finite.{all, all₂, equal-below₂}
use Rattle.laws.proofs.Fill.{Upto, upto-part}
use Rattle.laws.proofs.First.{first-ext}
use Rattle.laws.proofs.Scatter.{scattered-more}
use Rattle.laws.proofs.Tabulate.{length-tabulate, get_d_tabulate, is-tabulate, tabulate-ext}
use Rattle.column.specs.Column.{parity, has_roots}
use Rattle.column.proofs.Parity.{parity-length}
use Rattle.sector.specs.DataFrame.{edc_right}
use Rattle.scrambling.specs.Scrambling.{scrambled}
use Rattle.scrambling.proofs.Stream.{length-scrambled, get_d-scrambled}
use Rattle.ldc.specs.declared.Place.{Place}
use Rattle.ldc.specs.LdcBlock.{data_byte, information, code_word}
use Rattle.ldc.specs.Places.{ldc_place, word_in, data_in, frame_in}
use Rattle.ldc.proofs.CodeWords.{length-frame-in}
use Rattle.ldc.proofs.Interleaving.{place-column-lt}
use Rattle.cluster.specs.Multiplex.{ldc_index, ldc_in}
use Rattle.cluster.specs.steps.Places.{word_index}
use Rattle.cluster.specs.Reading.{wrong_word, data_frame_in, wrong_sector, user_byte_in}
use Rattle.ldc_words.specs.steps.Eighth.{RunOf, BytesTaken, BytesPut, WordsTaken, WordsPut, LdcPut, eighth_word, eighth_frame, information_of, completed, completed_words, frames_of, wrong_of, wrong_frame, user_of}
use Rattle.cluster.proofs.Places.{word-index-lt, word-index-inj}

-- ---- a run of 19 columns

-- a column's place in a row of the ECC cluster
abbrev offset : ℕ → ℕ
offset c = c + c / 38

early : (c i : ℕ) → c < 152 → i < 38 - c % 38 → offset c + i ≡ offset ((c + i) % 152)
early c i hc hi = omega arith

-- from the next multiple of 38 on, around
behind : (q k : ℕ) → q < 4 → k < 19 → offset ((38 * (q + 1) + k) % 152) ≡ offset (38 * (q + 1) % 152) + k
unfolding all all₂
behind = equal-below₂ 4 19 (λ q k. offset ((38 * (q + 1) + k) % 152)) (λ q k. offset (38 * (q + 1) % 152) + k) tt

regroup : (x i l : ℕ) → l ≤ i → x + i - l ≡ x + (i - l)
regroup x i l h = omega arith

grouped : (a x y i : ℕ) → a + x + y + i ≡ a + (x + y + i)
grouped a x y i = omega arith

moved : (a x y i l : ℕ) → l ≤ i → a + x + y + i - l ≡ a + (x + y + i - l)
moved a x y i l h = omega arith

-- the column behind those that are left
abbrev next : ℕ → ℕ
next c = (c + (38 - c % 38)) % 152

-- c is 38 q + r, of which 38 - r are left
late-from : (q r i : ℕ) → q < 4 → r < 38 → i < 19 → 38 - r ≤ i → offset ((38 * q + r + (38 - r)) % 152) + i - (38 - r) ≡ offset ((38 * q + r + i) % 152)
late-from q r i hq hr hi h =
    let next : 38 * q + r + (38 - r) ≡ 38 * (q + 1) = omega arith in
    let here : 38 * q + r + i ≡ 38 * (q + 1) + (i - (38 - r)) = omega arith in
    regroup (offset ((38 * q + r + (38 - r)) % 152)) i (38 - r) h
    ∙ ap (λ (x : ℕ). offset (x % 152) + (i - (38 - r))) next
    ∙ sym (behind q (i - (38 - r)) hq (omega arith))
    ∙ ap (λ (x : ℕ). offset (x % 152)) (sym here)

late : (c i : ℕ) → c < 152 → i < 19 → 38 - c % 38 ≤ i → offset ((c + (38 - c % 38)) % 152) + i - (38 - c % 38) ≡ offset ((c + i) % 152)
late c i hc hi h =
    let whole : 38 * (c / 38) + c % 38 ≡ c = omega arith in
    subst (λ (x : ℕ). offset ((x + (38 - c % 38)) % 152) + i - (38 - c % 38) ≡ offset ((x + i) % 152)) whole
    (late-from (c / 38) (c % 38) i (omega arith) (omega arith) hi h)

module _ (e n : ℕ) where
  abbrev column : ℕ
  column = (ldc_place (38 * e) n).column

  column-of : (i : ℕ) → (ldc_place (38 * e + 2 * i) n).column ≡ (column + i) % 152
  column-of i = omega arith

  index_of : (i : ℕ) → word_index (38 * e + 2 * i) n ≡ 310 * n + offset ((column + i) % 152)
  index_of i =
      let even : 2 * n + (38 * e + 2 * i) % 2 ≡ 2 * n = omega arith in
      ap₂ ldc_index even (column-of i) ∙ omega arith

  -- the odd code word stands a row below
  odd_index : (i : ℕ) → word_index (38 * e + (2 * i + 1)) n ≡ word_index (38 * e + 2 * i) n + 155
  odd_index i =
      let odd : (38 * e + (2 * i + 1)) % 2 ≡ (38 * e + 2 * i) % 2 + 1 = omega arith in
      let half : (38 * e + (2 * i + 1)) / 2 ≡ (38 * e + 2 * i) / 2 = omega arith in
      ap₂ (λ (r h : ℕ). ldc_index (2 * n + r) ((h + 152 - 3 * n % 152) % 152)) odd half ∙ omega arith

  -- the run that begins at the column where `locate` finds byte n of the first code word
  pub run_of : (p : Place) → n < 248 → p ≡ ldc_place (38 * e) n
      → RunOf e n (38 - p.column % 38) (310 * n + p.column + p.column / 38) (310 * n + next p.column + next p.column / 38)
  run_of p hn eq = subst (λ (q : Place). RunOf e n (38 - q.column % 38) (310 * n + q.column + q.column / 38) (310 * n + next q.column + next q.column / 38)) (sym eq)
      (record {
        inside = (omega (arith, hc), omega (arith, hc));
        early = λ i hi h. grouped (310 * n) column (column / 38) i ∙ ap (◌+◌ (310 * n)) (early column i hc h) ∙ sym (index_of i);
        late = λ i hi h. moved (310 * n) (next column) (next column / 38) i (38 - column % 38) h ∙ ap (◌+◌ (310 * n)) (late column i hc hi h) ∙ sym (index_of i);
      })
    where
      hc : column < 152
      hc = place-column-lt (38 * e) n

-- both lie inside the cluster
pub run_inside : (e n i k : ℕ) → e < 8 → n < 248 → i < 19 → k ≡ word_index (38 * e + 2 * i) n → k + 155 < 76880
run_inside e n i k he hn hi at = omega (arith, at, odd_index e n i, word-index-lt (38 * e + (2 * i + 1)) n (omega arith) hn)

-- what `locate` answers is a column of the LDC cluster
pub located : (p : Place) (L N : ℕ) → p ≡ ldc_place L N → p.column < 152
located p L N at = subst (λ (q : Place). q.column < 152) (sym at) (place-column-lt L N)

-- ---- a turn of each loop

-- bytes n of code words 2 i and 2 i + 1, taken from index k and the row below
pub taken-turn : (work before words : List ℕ) (e n i k : ℕ) → length before ≡ 9424 → n < 248 → i < 19 → k ≡ word_index (38 * e + 2 * i) n
    → Scattered 0 (λ j. 248 * j + n) (λ j. get_or work (word_index (38 * e + j) n) 0) before (2 * i) words
    → Scattered 0 (λ j. 248 * j + n) (λ j. get_or work (word_index (38 * e + j) n) 0) before (2 * (i + 1)) (set (set words (496 * i + n) (get_or work k 0)) (496 * i + 248 + n) (get_or work (k + 155) 0))
taken-turn work before words e n i k size hn hi at s = rw (count, even, odd)
    (scattered-more (omega arith) (λ q hq r. omega arith) (ap (λ (x : ℕ). get_or work (x + 155) 0) at ∙ ap (λ (x : ℕ). get_or work x 0) (sym (odd_index e n i)))
    (scattered-more (omega arith) (λ q hq r. omega arith) (ap (λ (x : ℕ). get_or work x 0) at) s))
  where
    count : 2 * (i + 1) ≡ 2 * i + 1 + 1
    count = omega arith

    even : 496 * i + n ≡ 248 * (2 * i) + n
    even = omega arith

    odd : 496 * i + 248 + n ≡ 248 * (2 * i + 1) + n
    odd = omega arith

-- the same, put there
pub put-turn : (words before work : List ℕ) (e n i k : ℕ) → length before ≡ 76880 → e < 8 → n < 248 → i < 19 → k ≡ word_index (38 * e + 2 * i) n
    → Scattered 0 (λ j. word_index (38 * e + j) n) (λ j. get_or words (248 * j + n) 0) before (2 * i) work
    → Scattered 0 (λ j. word_index (38 * e + j) n) (λ j. get_or words (248 * j + n) 0) before (2 * (i + 1)) (set (set work k (get_or words (496 * i + n) 0)) (k + 155) (get_or words (496 * i + 248 + n) 0))
put-turn words before work e n i k size he hn hi at s = rw (count, at, sym (odd_index e n i))
    (scattered-more (within (2 * i + 1) (omega arith)) (other (2 * i + 1) (omega arith)) (ap (λ (x : ℕ). get_or words x 0) odd)
    (scattered-more (within (2 * i) (omega arith)) (other (2 * i) (omega arith)) (ap (λ (x : ℕ). get_or words x 0) even) s))
  where
    count : 2 * (i + 1) ≡ 2 * i + 1 + 1
    count = omega arith

    even : 496 * i + n ≡ 248 * (2 * i) + n
    even = omega arith

    odd : 496 * i + 248 + n ≡ 248 * (2 * i + 1) + n
    odd = omega arith

    within : (j : ℕ) → j < 38 → word_index (38 * e + j) n < length before
    within j hj = omega (arith, word-index-lt (38 * e + j) n (omega arith) hn)

    other : (j : ℕ) → j < 38 → (q : ℕ) → q < j → word_index (38 * e + q) n ≡ word_index (38 * e + j) n → ⊥
    other j hj q hq r = let same = (word-index-inj (38 * e + q) n (38 * e + j) n (omega arith) hn (omega arith) hn r).0 in omega arith

-- byte n of each code word more
pub words-taken-none : (work words : List ℕ) (e : ℕ) → length words ≡ 9424 → WordsTaken work e 0 words
words-taken-none work words e size = record { size = size; bytes = λ j n hj hn. absurd (not-suc-le-zero hn) }

pub words-taken-more : (work before after : List ℕ) (e n : ℕ) → n < 248 → WordsTaken work e n before → BytesTaken work e n before after → WordsTaken work e (n + 1) after
words-taken-more work before after e n hn w b =
    record {
      size = b.taken.size ∙ w.size;
      bytes = λ j m hj hm.
          elim (ℕ_discrete m n) [
            | yes same ↦ ap (λ (x : ℕ). get_or after (248 * j + x) 0) same ∙ b.taken.done j hj ∙ ap (λ (x : ℕ). get_or work (word_index (38 * e + j) x) 0) (sym same)
            | no other ↦ b.taken.kept (248 * j + m) (λ q hq r. omega arith) ∙ w.bytes j m hj (omega arith)
          ];
    }

pub words-taken-end : (work words : List ℕ) (e n count : ℕ) → count ≤ n → WordsTaken work e n words → WordsTaken work e count words
words-taken-end work words e n count h w = record { size = w.size; bytes = λ j m hj hm. w.bytes j m hj (omega arith) }

pub words-put-none : (words work : List ℕ) (e : ℕ) → WordsPut words e 0 work work
words-put-none words work e = record { size = refl; bytes = λ j n hj hn. absurd (not-suc-le-zero hn); kept = λ L n hL hn. refl }

pub words-put-more : (words before now after : List ℕ) (e n : ℕ) → e < 8 → n < 248 → WordsPut words e n before now → BytesPut words e n now after → WordsPut words e (n + 1) before after
words-put-more words before now after e n he hn w b =
    record {
      size = b.put.size ∙ w.size;
      bytes = λ j m hj hm.
          elim (ℕ_discrete m n) [
            | yes same ↦ ap (λ (x : ℕ). get_or after (word_index (38 * e + j) x) 0) same ∙ b.put.done j hj ∙ ap (λ (x : ℕ). get_or words (248 * j + x) 0) (sym same)
            | no other ↦ b.put.kept (word_index (38 * e + j) m) (apart (38 * e + j) m (omega arith) (omega arith) (λ q hq same. omega arith)) ∙ w.bytes j m hj (omega arith)
          ];
      kept = λ L m hL hm. b.put.kept (word_index L m) (λ q hq r. let same = (word-index-inj L m (38 * e + q) n (omega arith) hm (omega arith) hn r).0 in omega arith) ∙ w.kept L m hL hm;
    }
  where
    apart : (L m : ℕ) → L < 304 → m < 248 → ((q : ℕ) → q < 38 → m ≡ n → ⊥) → (q : ℕ) → q < 38 → word_index L m ≡ word_index (38 * e + q) n → ⊥
    apart L m hL hm other q hq r = other q hq (word-index-inj L m (38 * e + q) n hL hm (omega arith) hn r).1

pub words-put-end : (words before after : List ℕ) (e n : ℕ) → 248 ≤ n → WordsPut words e n before after → WordsPut words e 248 before after
words-put-end words before after e n h w = record { size = w.size; bytes = λ j m hj hm. w.bytes j m hj (omega arith); kept = w.kept }

-- ---- code words and data frames of an eighth

get_d_part : (l : List ℕ) (a m k : ℕ) → k < m → get_or (take m (drop a l)) k 0 ≡ get_or l (a + k) 0
get_d_part l a m k h = get_or-take m (drop a l) k 0 h ∙ get_or-drop a l k 0

length_part : (l : List ℕ) (a m : ℕ) → a + m ≤ length l → length (take m (drop a l)) ≡ m
length_part l a m h = length-take-le m (drop a l) (omega (arith, length-drop a l))

-- the information bytes of code word j, x = 216, copied to their part of m = 216 bytes
pub information-turn : (words frames part : List ℕ) (j x m i : ℕ) → length words ≡ 9424 → j < 38 → x ≡ 216 → m ≡ 216 → i ≡ 216 * (j + 1) → part ≡ take x (drop (248 * j) words)
    → Upto 0 (λ p. get_or words (248 * (p / 216) + p % 216) 0) 8208 (216 * j) frames
    → Upto 0 (λ p. get_or words (248 * (p / 216) + p % 216) 0) 8208 i (take (216 * j) frames ++ (part ++ drop m (drop (216 * j) frames)))
information-turn words frames part j x m i size hj hx hm hi copied u = rw hm (upto-part 216 part (omega arith) (omega arith) (ap (length {A = ℕ}) is ∙ length_part words (248 * j) 216 (omega arith)) byte u)
  where
    is : part ≡ take 216 (drop (248 * j) words)
    is = copied ∙ ap (λ (y : ℕ). take y (drop (248 * j) words)) hx

    byte : (k : ℕ) → k < 216 → get_or part k 0 ≡ get_or words (248 * ((216 * j + k) / 216) + (216 * j + k) % 216) 0
    byte k h =
        let place : 248 * j + k ≡ 248 * ((216 * j + k) / 216) + (216 * j + k) % 216 = omega arith in
        ap (λ (l : List ℕ). get_or l k 0) is ∙ get_d_part words (248 * j) 216 k h ∙ ap (λ (y : ℕ). get_or words y 0) place

-- byte k of information bytes and parity
pub join_first : (information parity : List ℕ) (k : ℕ) → length information ≡ 216 → k < 216 → get_or information k 0 ≡ get_or (information ++ parity) k 0
join_first information parity k size h = sym (get_or-append information parity 0 k (omega arith))

pub join-second : (information parity : List ℕ) (k : ℕ) → length information ≡ 216 → 216 ≤ k → get_or parity (k - 216) 0 ≡ get_or (information ++ parity) k 0
join-second information parity k size h =
    let place : length information + (k - 216) ≡ k = omega arith in
    sym (get_or-append-add information parity (k - 216) 0) ∙ ap (λ (i : ℕ). get_or (information ++ parity) i 0) place

-- and code word j made of them, in its part of m = 248 bytes
pub completed-turn : (frames words part : List ℕ) (j x m i : ℕ) → length frames ≡ 8208 → j < 38 → x ≡ 216 → m ≡ 248 → i ≡ 248 * (j + 1) → part ≡ completed (take x (drop (216 * j) frames))
    → Upto 0 (λ k. get_or (completed (take 216 (drop (216 * (k / 248)) frames))) (k % 248) 0) 9424 (248 * j) words
    → Upto 0 (λ k. get_or (completed (take 216 (drop (216 * (k / 248)) frames))) (k % 248) 0) 9424 i (take (248 * j) words ++ (part ++ drop m (drop (248 * j) words)))
completed-turn frames words part j x m i size hj hx hm hi made u = rw hm (upto-part 248 part (omega arith) (omega arith) (ap (length {A = ℕ}) is ∙ whole) byte u)
  where
    message : List ℕ
    message = take 216 (drop (216 * j) frames)

    is : part ≡ completed message
    is = made ∙ ap (λ (y : ℕ). completed (take y (drop (216 * j) frames))) hx

    whole : length (completed message) ≡ 248
    whole = omega (arith, length-append message (parity 32 message), length_part frames (216 * j) 216 (omega arith), parity-length 32 message)

    byte : (k : ℕ) → k < 248 → get_or part k 0 ≡ get_or (completed (take 216 (drop (216 * ((248 * j + k) / 248)) frames))) ((248 * j + k) % 248) 0
    byte k h =
        let word : j ≡ (248 * j + k) / 248 = omega arith in
        let place : k ≡ (248 * j + k) % 248 = omega arith in
        ap (λ (l : List ℕ). get_or l k 0) is ∙ ap₂ (λ (w i : ℕ). get_or (completed (take 216 (drop (216 * w) frames))) i 0) word place

-- the user bytes of data frame f, its first x = 2,048 bytes unscrambled, to their part of m = 2,048 bytes
pub user-turn : (stream frames part user : List ℕ) (f x m i : ℕ) → length frames ≡ 8208 → f < 4 → x ≡ 2048 → m ≡ 2048 → i ≡ 2048 * (f + 1) → part ≡ scrambled stream (take x (drop (2052 * f) frames))
    → Upto 0 (λ k. get_or (scrambled stream (eighth_frame frames (k / 2048))) (k % 2048) 0) 8192 (2048 * f) user
    → Upto 0 (λ k. get_or (scrambled stream (eighth_frame frames (k / 2048))) (k % 2048) 0) 8192 i (take (2048 * f) user ++ (part ++ drop m (drop (2048 * f) user)))
user-turn stream frames part user f x m i size hf hx hm hi made u = rw hm (upto-part 2048 part (omega arith) (omega arith) (ap length first ∙ length-scrambled stream short ∙ short-size) byte u)
  where
    short : List ℕ
    short = take 2048 (drop (2052 * f) frames)

    first : part ≡ scrambled stream short
    first = made ∙ ap (λ (y : ℕ). scrambled stream (take y (drop (2052 * f) frames))) hx

    short-size : length short ≡ 2048
    short-size = length_part frames (2052 * f) 2048 (omega arith)

    byte : (k : ℕ) → k < 2048 → get_or part k 0 ≡ get_or (scrambled stream (eighth_frame frames ((2048 * f + k) / 2048))) ((2048 * f + k) % 2048) 0
    byte k h =
        let number : f ≡ (2048 * f + k) / 2048 = omega arith in
        let place : k ≡ (2048 * f + k) % 2048 = omega arith in
        ap (λ (l : List ℕ). get_or l k 0) first
        ∙ get_d-scrambled stream short k (omega (arith, short-size))
        ∙ ap (λ (y : ℕ). bit_xor y (get_or stream k 0)) (get_or-take 2048 (drop (2052 * f) frames) k 0 h ∙ sym (get_or-take 2052 (drop (2052 * f) frames) k 0 (omega arith)))
        ∙ sym (get_d-scrambled stream (eighth_frame frames f) k (omega (arith, length_part frames (2052 * f) 2052 (omega arith))))
        ∙ ap₂ (λ (g i : ℕ). get_or (scrambled stream (eighth_frame frames g)) i 0) number place

module _ (work words : List ℕ) (e : ℕ) (he : e < 8) where
  -- code word j as it is read
  pub word_at : WordsTaken work e 248 words → (j : ℕ) → j < 38 → eighth_word words j ≡ word_in (ldc_in work) (38 * e + j)
  unfolding word_in
  word_at w j hj =
      is-tabulate 0 248 (λ N. get_or work (word_index (38 * e + j) N) 0) (eighth_word words j) (length_part words (248 * j) 248 (omega (arith, w.size)))
      (λ N hN. get_d_part words (248 * j) 248 N hN ∙ w.bytes j N hj hN)

  -- the data frames as they are read
  pub frames-taken : WordsTaken work e 216 words → information_of words ≡ frames_of (frame_in (ldc_in work)) e
  unfolding information_of frames_of frame_in
  frames-taken w = tabulate-ext 0 8208 (λ p. get_or words (248 * (p / 216) + p % 216) 0) (λ p. data_byte (frame_in (ldc_in work)) (8208 * e + p)) byte
    where
      byte : (p : ℕ) → p < 8208 → get_or words (248 * (p / 216) + p % 216) 0 ≡ data_byte (frame_in (ldc_in work)) (8208 * e + p)
      byte p h =
          let q : ℕ = 8208 * e + p in
          let word : (2052 * (q / 2052) + q % 2052) / 216 ≡ 38 * e + p / 216 = omega arith in
          let place : (2052 * (q / 2052) + q % 2052) % 216 ≡ p % 216 = omega arith in
          w.bytes (p / 216) (p % 216) (omega arith) (omega arith)
          ∙ sym (get_d_tabulate 2052 (λ k. data_in (ldc_in work) (2052 * (q / 2052) + k)) (q % 2052) 0 (omega arith) ∙ ap₂ (λ (L N : ℕ). get_or work (word_index L N) 0) word place)

module _ (frames : ℕ → List ℕ) (e : ℕ) where
  length-frames : length (frames_of frames e) ≡ 8208
  unfolding frames_of
  length-frames = length-tabulate 8208 (λ p. data_byte frames (8208 * e + p))

  get_d-frames : (p : ℕ) → p < 8208 → get_or (frames_of frames e) p 0 ≡ data_byte frames (8208 * e + p)
  unfolding frames_of
  get_d-frames p h = get_d_tabulate 8208 (λ p. data_byte frames (8208 * e + p)) p 0 h

  -- data frame f of the eighth
  pub frame_at : (f : ℕ) → f < 4 → length (frames (4 * e + f)) ≡ 2052 → eighth_frame (frames_of frames e) f ≡ frames (4 * e + f)
  frame_at f hf size =
      ext_get_or 0 (eighth_frame (frames_of frames e) f) (frames (4 * e + f)) (length_part (frames_of frames e) (2052 * f) 2052 (omega (arith, length-frames)) ∙ sym size)
      (λ k h. byte k (omega (arith, length_part (frames_of frames e) (2052 * f) 2052 (omega (arith, length-frames)))))
    where
      byte : (k : ℕ) → k < 2052 → get_or (eighth_frame (frames_of frames e) f) k 0 ≡ get_or (frames (4 * e + f)) k 0
      byte k h =
          let number : (8208 * e + (2052 * f + k)) / 2052 ≡ 4 * e + f = omega arith in
          let place : (8208 * e + (2052 * f + k)) % 2052 ≡ k = omega arith in
          get_d_part (frames_of frames e) (2052 * f) 2052 k h
          ∙ get_d-frames (2052 * f + k) (omega arith)
          ∙ ap₂ (λ (F i : ℕ). get_or (frames F) i 0) number place

  -- the information bytes of code word j
  information-at : (j : ℕ) → j < 38 → take 216 (drop (216 * j) (frames_of frames e)) ≡ information frames (38 * e + j)
  unfolding information
  information-at j hj =
      is-tabulate 0 216 (λ i. data_byte frames (216 * (38 * e + j) + i)) (take 216 (drop (216 * j) (frames_of frames e))) (length_part (frames_of frames e) (216 * j) 216 (omega (arith, length-frames)))
      (λ i h.
      let place : 8208 * e + (216 * j + i) ≡ 216 * (38 * e + j) + i = omega arith in
      get_d_part (frames_of frames e) (216 * j) 216 i h
      ∙ get_d-frames (216 * j + i) (omega arith)
      ∙ ap (data_byte frames) place)

  completed-at : (j n : ℕ) → j < 38 → n < 248 → get_or (completed_words (frames_of frames e)) (248 * j + n) 0 ≡ get_or (code_word frames (38 * e + j)) n 0
  unfolding completed_words code_word
  completed-at j n hj hn =
      let word : (248 * j + n) / 248 ≡ j = omega arith in
      let place : (248 * j + n) % 248 ≡ n = omega arith in
      get_d_tabulate 9424 (λ k. get_or (completed (take 216 (drop (216 * (k / 248)) (frames_of frames e)))) (k % 248) 0) (248 * j + n) 0 (omega arith)
      ∙ ap₂ (λ (w i : ℕ). get_or (completed (take 216 (drop (216 * w) (frames_of frames e)))) i 0) word place
      ∙ ap (λ (m : List ℕ). get_or (completed m) n 0) (information-at j hj)

-- ---- all eight, written

pub ldc-put-none : (frames : ℕ → List ℕ) (work : List ℕ) → LdcPut frames 0 work work
ldc-put-none frames work = record { size = refl; words = λ L N hL hN. absurd (not-suc-le-zero hL) }

pub ldc-put-more : (frames : ℕ → List ℕ) (four words before now after : List ℕ) (e : ℕ) → e < 8 → four ≡ frames_of frames e → words ≡ completed_words four
    → WordsPut words e 248 now after → LdcPut frames (38 * e) before now → LdcPut frames (38 * (e + 1)) before after
ldc-put-more frames four words before now after e he made complete put d =
    record { size = put.size ∙ d.size; words = λ L N hL hN. elim (dec_lt L (38 * e)) [ yes l ↦ put.kept L N l hN ∙ d.words L N l hN | no l ↦ new L N (omega arith) hL hN ] }
  where
    new : (L N : ℕ) → 38 * e ≤ L → L < 38 * (e + 1) → N < 248 → get_or after (word_index L N) 0 ≡ get_or (code_word frames L) N 0
    new L N low high hN =
        let j : ℕ = L - 38 * e in
        let whole : 38 * e + j ≡ L = omega arith in
        ap (λ (l : ℕ). get_or after (word_index l N) 0) (sym whole)
        ∙ put.bytes j N (omega arith) hN
        ∙ ap (λ (l : List ℕ). get_or l (248 * j + N) 0) (complete ∙ ap completed_words made)
        ∙ completed-at frames e j N (omega arith) hN
        ∙ ap (λ (l : ℕ). get_or (code_word frames l) N 0) whole

pub ldc-put-end : (frames : ℕ → List ℕ) (before after : List ℕ) (e : ℕ) → 8 ≤ e → LdcPut frames (38 * e) before after → LdcPut frames 304 before after
ldc-put-end frames before after e h d = record { size = d.size; words = λ L N hL hN. d.words L N (omega arith) hN }

-- ---- all eight, read

-- code word j, of x = 248 bytes, judged
pub word-judged : (words : List ℕ) (j x : ℕ) (r t : Bool) → x ≡ 248 → r ≡ has_roots 32 (take x (drop (248 * j) words)) → r ≡ t → wrong_of words j ≡ not t
unfolding wrong_of
word-judged words j x r t size judged is = ap not (sym (judged ∙ ap (λ (y : ℕ). has_roots 32 (take y (drop (248 * j) words))) size) ∙ is)

-- data frame f, of x = 2,052 bytes, judged
pub frame-judged : (stream frames : List ℕ) (f x : ℕ) (r t : Bool) → x ≡ 2052 → r ≡ edc_right (scrambled stream (take x (drop (2052 * f) frames))) → r ≡ t → wrong_frame stream frames f ≡ not t
unfolding wrong_frame
frame-judged stream frames f x r t size judged is = ap not (sym (judged ∙ ap (λ (y : ℕ). edc_right (scrambled stream (take y (drop (2052 * f) frames)))) size) ∙ is)

pub words-judged : (work words : List ℕ) (e r : ℕ) → e < 8 → WordsTaken work e 248 words → r ≡ first 38 (wrong_of words) → r ≡ first 38 (λ j. wrong_word work (38 * e + j))
unfolding wrong_of wrong_word
words-judged work words e r he w h = h ∙ first-ext 38 (wrong_of words) (λ j. wrong_word work (38 * e + j)) (λ j hj. ap (λ (l : List ℕ). not (has_roots 32 l)) (word_at work words e he w j hj))

module _ (stream work four : List ℕ) (e : ℕ) (taken : four ≡ frames_of (frame_in (ldc_in work)) e) where
  data-frame-at : (f : ℕ) → f < 4 → scrambled stream (eighth_frame four f) ≡ data_frame_in stream work (4 * e + f)
  unfolding data_frame_in
  data-frame-at f hf = ap (λ (l : List ℕ). scrambled stream (eighth_frame l f)) taken ∙ ap (scrambled stream) (frame_at (frame_in (ldc_in work)) e f hf (length-frame-in (ldc_in work) (4 * e + f)))

  pub frames-judged : (r : ℕ) → r ≡ first 4 (wrong_frame stream four) → r ≡ first 4 (λ f. wrong_sector stream work (4 * e + f))
  unfolding wrong_frame wrong_sector
  frames-judged r h = h ∙ first-ext 4 (wrong_frame stream four) (λ f. wrong_sector stream work (4 * e + f)) (λ f hf. ap (λ (l : List ℕ). not (edc_right l)) (data-frame-at f hf))

  pub user-byte-at : (k : ℕ) → k < 8192 → get_or (user_of stream four) k 0 ≡ user_byte_in stream work (8192 * e + k)
  unfolding user_of
  user-byte-at k h =
      let number : 4 * e + k / 2048 ≡ (8192 * e + k) / 2048 = omega arith in
      let place : k % 2048 ≡ (8192 * e + k) % 2048 = omega arith in
      get_d_tabulate 8192 (λ k. get_or (scrambled stream (eighth_frame four (k / 2048))) (k % 2048) 0) k 0 h
      ∙ ap (λ (l : List ℕ). get_or l (k % 2048) 0) (data-frame-at (k / 2048) (omega arith))
      ∙ ap₂ (λ (F i : ℕ). get_or (data_frame_in stream work F) i 0) number place

  -- the user bytes of the eighth, to their part of m = 8,192 bytes
  pub users-turn : (part user : List ℕ) (m i : ℕ) → e < 8 → m ≡ 8192 → i ≡ 8192 * (e + 1) → part ≡ user_of stream four
      → Upto 0 (user_byte_in stream work) 65536 (8192 * e) user → Upto 0 (user_byte_in stream work) 65536 i (take (8192 * e) user ++ (part ++ drop m (drop (8192 * e) user)))
  users-turn part user m i he hm hi made u = rw hm (upto-part 8192 part (omega arith) (omega arith) (ap (length {A = ℕ}) made ∙ length-user) (λ k h. ap (λ (l : List ℕ). get_or l k 0) made ∙ user-byte-at k h) u)
    where
      length-user : length (user_of stream four) ≡ 8192
      length-user = unfold user_of in length-tabulate 8192 (λ k. get_or (scrambled stream (eighth_frame four (k / 2048))) (k % 2048) 0)
