-- What is promised of ECC clusters, on their definitions: one that was made is read back, with right columns, nothing else is read, and so a cluster
-- determines its user bytes, its PSN and its side data; under one PSN the user bytes hang on its code words alone. Assumes nothing.
use mathlib.Core.Path.{◌≡◌, sym, ap, ap₂, subst, ◌∙◌}
use mathlib.Core.Logic.{◌↔◌}
use mathlib.Core.Bool.{Bool, true, false, not}
use mathlib.Core.List.{List, [], ◌++◌}
use Prim.Native.Nat.{ℕ, ◌+◌, ◌*◌, ◌/◌, ◌%◌, ◌<◌}
use native.Mathlib.Omega.{arith}
use borrow.Author.Tests.{not-false}
use lib.ListN.{length, get_or, take, drop, length-drop}
use lib.Seq.{ext_get_or, get_or-take, get_or-drop, length-take-le}
use Rattle.laws.specs.Bytes.{Bytes}
use Rattle.laws.specs.Tabulate.{tabulate}
use Rattle.laws.proofs.Bytes.{bytes_take, bytes_drop, bytes-tabulate}
use Rattle.laws.proofs.First.{first-none, first-all}
use Rattle.laws.proofs.Same.{some-unlike}
use Rattle.laws.proofs.Tabulate.{length-tabulate, get_d_tabulate, is-tabulate, tabulate-ext}
use Rattle.column.specs.Column.{parity, has_roots}
use Rattle.column.specs.Distance.{Right}
use Rattle.column.proofs.Roots.{has-roots}
use Rattle.answer.specs.declared.Answer.TheVariants.{Done}
use Rattle.address.specs.Judged.{judged}
use Rattle.sector.specs.DataFrame.{data_frame, edc_right}
use Rattle.scrambling.specs.Scrambling.{scrambling_of, scrambled}
use Rattle.sector.proofs.Frame.{length-sector, bytes-sector, sector-back, frame_right, get_d-user, sector-accepted}
use Rattle.scrambling.proofs.Stream.{length-scrambled, bytes-scrambled, bytes-scrambling}
use Rattle.ldc.specs.LdcCluster.{shifted, ldc_byte}
use Rattle.ldc.specs.LdcBlock.{data_byte, information, code_word}
use Rattle.ldc.specs.Places.{ldc_place, at, word_in, data_in, frame_in}
use Rattle.ldc.proofs.CodeWords.{bytes_word, words_back, frames-back, word-roots, length-word-in, bytes-word-in, same-words, cluster-back, length-frame-in, bytes-frame-in}
use Rattle.ldc.proofs.Interleaving.{place-row-lt, place-column-lt, shifted-word-lt}
use Rattle.address.specs.declared.Psn.{Psn}
use Rattle.bis.specs.declared.PsnFound.{PsnFound}
use Rattle.bis.specs.declared.PsnFound.TheVariants.{Found}
use Rattle.bis.specs.AccessBlock.{Side}
use Rattle.bis.specs.BisBlock.{bis_block}
use Rattle.bis.specs.Reading as BisReading
use Rattle.bis.specs.Reading.{wrong_column, first_wrong_column}
use Rattle.bis.proofs.Blocks.{written-block}
use Rattle.bis.proofs.Statements as Bis
use Rattle.cluster.specs.EccCluster.{User, sector_of, frames, ecc_cluster}
use Rattle.cluster.specs.Multiplex.{ldc_index, multiplexed, ldc_in, column_in, bis_in}
use Rattle.cluster.specs.Reading.{ldc_column, wrong_word, first_wrong_word, data_frame_in, wrong_sector, first_wrong_sector, user_byte_in, user_in, Reads}
use Rattle.cluster.proofs.Multiplex.{bytes-multiplexed, length-multiplexed, ldc-back, bis-back, block-column, is-block-in, multiplexed-back, multiplexed-ext}

-- ---- code words and data frames depend on the 496 rows and 152 columns alone

module _ (ldc ldc' : ℕ → ℕ → ℕ) (agree : (row column : ℕ) → row < 496 → column < 152 → ldc row column ≡ ldc' row column) where
  same_at : (L N : ℕ) → N < 248 → at ldc (ldc_place L N) ≡ at ldc' (ldc_place L N)
  same_at L N h = agree (ldc_place L N).row (ldc_place L N).column (place-row-lt L N h) (place-column-lt L N)

  same_word : (L : ℕ) → word_in ldc L ≡ word_in ldc' L
  unfolding word_in
  same_word L = tabulate-ext 0 248 (λ N. at ldc (ldc_place L N)) (λ N. at ldc' (ldc_place L N)) (λ N h. same_at L N h)

  same-frame : (F : ℕ) → frame_in ldc F ≡ frame_in ldc' F
  unfolding frame_in
  same-frame F =
      tabulate-ext 0 2052 (λ k. data_in ldc (2052 * F + k)) (λ k. data_in ldc' (2052 * F + k))
      (λ k _. same_at ((2052 * F + k) / 216) ((2052 * F + k) % 216) (omega arith))

-- and they are made of the 32 data frames alone
same-made : (f f' : ℕ → List ℕ) → ((F : ℕ) → F < 32 → f F ≡ f' F) → (row column : ℕ) → ldc_byte f row column ≡ ldc_byte f' row column
unfolding code_word information
same-made f f' agree row column = ap (λ (m : List ℕ). get_or (m ++ parity 32 m) (shifted row column).byte 0) same
  where
    L : ℕ
    L = (shifted row column).word

    same : tabulate 216 (λ i. data_byte f (216 * L + i)) ≡ tabulate 216 (λ i. data_byte f' (216 * L + i))
    same =
        tabulate-ext 0 216 (λ i. data_byte f (216 * L + i)) (λ i. data_byte f' (216 * L + i))
        (λ i h. ap (λ (l : List ℕ). get_or l ((216 * L + i) % 2052) 0) (agree ((216 * L + i) / 2052) (omega (arith, shifted-word-lt row column))))

-- ---- sectors

pub length-sector-of : (user : List ℕ) → length user ≡ 65536 → (F : ℕ) → F < 32 → length (sector_of user F) ≡ 2048
length-sector-of user size F h = length-take-le 2048 (drop (2048 * F) user) (omega (arith, length-drop (2048 * F) user))

bytes-sector-of : (user : List ℕ) → Bytes user → (F : ℕ) → Bytes (sector_of user F)
bytes-sector-of user bytes F = bytes_take 2048 (drop (2048 * F) user) (bytes_drop (2048 * F) user bytes)

get_d-sector-of : (user : List ℕ) (F k : ℕ) → k < 2048 → get_or (sector_of user F) k 0 ≡ get_or user (2048 * F + k) 0
get_d-sector-of user F k h = get_or-take 2048 (drop (2048 * F) user) k 0 h ∙ get_or-drop (2048 * F) user k 0

-- ---- a cluster that was made is read back

module _ (user : List ℕ) (psn : ℕ) (side : List ℕ) (is-user : User user) (accepted : judged psn ≡ Done) (is-side : Side side) where
  abbrev work : List ℕ
  work = ecc_cluster user psn side

  abbrev stream : List ℕ
  stream = scrambling_of psn

  bytes-frames : (F : ℕ) → Bytes (frames psn user F)
  bytes-frames F = bytes-sector psn (sector_of user F) (bytes-sector-of user is-user.bytes F)

  made-ldc : (row column : ℕ) → row < 496 → column < 152 → ldc_in work row column ≡ ldc_byte (frames psn user) row column
  unfolding ecc_cluster
  made-ldc row column hr hc = ldc-back (ldc_byte (frames psn user)) (bis_block psn side) row column hr hc

  made-block : bis_in work ≡ bis_block psn side
  unfolding ecc_cluster
  made-block = bis-back (ldc_byte (frames psn user)) (bis_block psn side) (written-block psn side accepted is-side.bytes)

  pub length-cluster : length work ≡ 76880
  unfolding ecc_cluster
  length-cluster = length-multiplexed (ldc_byte (frames psn user)) (bis_block psn side)

  pub bytes-cluster : Bytes work
  unfolding ecc_cluster
  bytes-cluster =
      bytes-multiplexed (ldc_byte (frames psn user)) (bis_block psn side)
      (λ row column hr hc. bytes_word (frames psn user) (shifted row column).word bytes-frames (shifted row column).byte)
      (written-block psn side accepted is-side.bytes)

  -- code word L, as it is read, is the one that was made
  pub word_made : (L : ℕ) → L < 304 → ldc_column work L ≡ code_word (frames psn user) L
  word_made L h = same_word (ldc_in work) (ldc_byte (frames psn user)) made-ldc L ∙ words_back (frames psn user) bytes-frames L h

  made_word : (L : ℕ) → L < 304 → wrong_word work L ≡ false
  unfolding wrong_word
  made_word L h = ap (λ (w : List ℕ). not (has_roots 32 w)) (word_made L h) ∙ ap not (word-roots (frames psn user) L bytes-frames)

  made-frame : (F : ℕ) → F < 32 → data_frame_in stream work F ≡ data_frame (sector_of user F)
  unfolding data_frame_in
  made-frame F h =
      ap (scrambled stream)
      (same-frame (ldc_in work) (ldc_byte (frames psn user)) made-ldc F
      ∙ frames-back (frames psn user) F h (length-sector psn (sector_of user F) (length-sector-of user is-user.size F h)))
      ∙ sector-back psn (sector_of user F)

  made-sector : (F : ℕ) → F < 32 → wrong_sector stream work F ≡ false
  unfolding wrong_sector
  made-sector F h = ap (λ (f : List ℕ). not (edc_right f)) (made-frame F h) ∙ ap not (frame_right (sector_of user F) (length-sector-of user is-user.size F h))

  made-user : user_in stream work ≡ user
  unfolding user_in
  made-user = sym (is-tabulate 0 65536 (user_byte_in stream work) user is-user.size (λ i h. sym (byte i h)))
    where
      byte : (i : ℕ) → i < 65536 → user_byte_in stream work i ≡ get_or user i 0
      byte i h =
          let F = i / 2048 in
          let k = i % 2048 in
          let hF : F < 32 = omega arith in
          let hk : k < 2048 = omega arith in
          let size = length-sector-of user is-user.size F hF in
          let whole : 2048 * F + k ≡ i = omega arith in
          ap (λ (f : List ℕ). get_or f k 0) (made-frame F hF)
          ∙ get_d-user (sector_of user F) k (omega (arith, size))
          ∙ get_d-sector-of user F k hk
          ∙ ap (λ (j : ℕ). get_or user j 0) whole

  pub read-back : Reads work user psn side
  unfolding first_wrong_word first_wrong_sector
  read-back =
      record {
        bis = subst (λ (b : List (List ℕ)). BisReading.Reads b psn side) (sym made-block) (Bis.read-back psn side accepted is-side);
        right-words = first-none 304 (wrong_word work) (record { fails = made_word });
        right-sectors = first-none 32 (wrong_sector stream work) (record { fails = made-sector });
        has-user = made-user;
      }

  -- the columns that are read in it are right: LDC's, and BIS's
  pub ldc-right : (L : ℕ) → L < 304 → Right 32 248 (ldc_column work L)
  unfolding wrong_word
  ldc-right L h =
      record {
        size = length-word-in (ldc_in work) L;
        bytes = bytes-word-in (ldc_in work) (λ row column hr hc. bytes-cluster (ldc_index row column)) L;
        roots = (has-roots 32 (ldc_column work L)).0 (not-false (has_roots 32 (ldc_column work L)) (made_word L h));
      }

  pub bis-right : (C : ℕ) → C < 24 → Right 32 62 (column_in work C)
  unfolding first_wrong_column wrong_column
  bis-right C h =
      subst (Right 32 62) (block-column work C h)
      (record {
        size = (is-block-in work bytes-cluster).size C h;
        bytes = (is-block-in work bytes-cluster).bytes C h;
        roots = (has-roots 32 column).0 (not-false (has_roots 32 column) (first-all 24 (wrong_column (bis_in work)) (omega (arith, read-back.bis.right-columns)) C h));
      })
    where
      column : List ℕ
      column = get_or (bis_in work) C []

-- ---- under one PSN the user bytes hang on the code words alone

same-user : (stream a b : List ℕ) → ((L : ℕ) → L < 304 → ldc_column a L ≡ ldc_column b L) → user_in stream a ≡ user_in stream b
unfolding user_in data_frame_in
same-user stream a b same =
    tabulate-ext 0 65536 (user_byte_in stream a) (user_byte_in stream b)
    (λ i h. ap (λ (f : List ℕ). get_or (scrambled stream f) (i % 2048) 0) (same-words (ldc_in a) (ldc_in b) same (i / 2048) (omega arith)))

-- so, under one PSN, some code word differs where user bytes do
pub other_word : (user user' side side' : List ℕ) (psn : ℕ) → User user → User user' → judged psn ≡ Done → Side side → Side side' → (user ≡ user' → ⊥)
    → (L : ℕ) × (L < 304) × (ldc_column (ecc_cluster user psn side) L ≡ ldc_column (ecc_cluster user' psn side') L → ⊥)
other_word user user' side side' psn hu hu' hp hs hs' different = some-unlike 304 (ldc_column work₁) (ldc_column work₂) unlike
  where
    work₁ : List ℕ
    work₁ = ecc_cluster user psn side

    work₂ : List ℕ
    work₂ = ecc_cluster user' psn side'

    unlike : ((L : ℕ) → L < 304 → ldc_column work₁ L ≡ ldc_column work₂ L) → ⊥
    unlike same =
        different
        (sym (read-back user psn side hu hp hs).has-user
        ∙ same-user (scrambling_of psn) work₁ work₂ same
        ∙ (read-back user' psn side' hu' hp hs').has-user)

-- ---- and nothing else is read

pub record Written (work user : List ℕ) (psn : ℕ) (side : List ℕ) : Type 0 where
  pub is-user : User user
  pub accepted : judged psn ≡ Done
  pub is-side : Side side
  pub whole : work ≡ ecc_cluster user psn side

module _ (work user : List ℕ) (psn : ℕ) (side : List ℕ) (size : length work ≡ 76880) (bytes : Bytes work) (reads : Reads work user psn side) where
  abbrev ldc : ℕ → ℕ → ℕ
  ldc = ldc_in work

  bytes-ldc : (row column : ℕ) → row < 496 → column < 152 → ldc row column < 256
  bytes-ldc row column hr hc = bytes (ldc_index row column)

  read-words : (L : ℕ) → L < 304 → has_roots 32 (word_in ldc L) ≡ true
  unfolding first_wrong_word wrong_word
  read-words L h = not-false (has_roots 32 (word_in ldc L)) (first-all 304 (wrong_word work) (omega (arith, reads.right-words)) L h)

  read-sectors : (F : ℕ) → F < 32 → edc_right (data_frame_in (scrambling_of psn) work F) ≡ true
  unfolding first_wrong_sector wrong_sector
  read-sectors F h =
      not-false (edc_right (data_frame_in (scrambling_of psn) work F)) (first-all 32 (wrong_sector (scrambling_of psn) work) (omega (arith, reads.right-sectors)) F h)

  length-read : length user ≡ 65536
  unfolding user_in
  length-read = sym (ap (length {A = ℕ}) reads.has-user) ∙ length-tabulate 65536 (user_byte_in (scrambling_of psn) work)

  bytes-data : (F : ℕ) → Bytes (data_frame_in (scrambling_of psn) work F)
  unfolding data_frame_in
  bytes-data F = bytes-scrambled (scrambling_of psn) (frame_in ldc F) (bytes-scrambling psn) (bytes-frame-in ldc bytes-ldc F)

  length-data : (F : ℕ) → length (data_frame_in (scrambling_of psn) work F) ≡ 2052
  unfolding data_frame_in
  length-data F = length-scrambled (scrambling_of psn) (frame_in ldc F) ∙ length-frame-in ldc F

  bytes-read : Bytes user
  unfolding user_in
  bytes-read = subst (λ (u : List ℕ). Bytes u) reads.has-user (bytes-tabulate 65536 (user_byte_in (scrambling_of psn) work) (λ i _. bytes-data (i / 2048) (i % 2048)))

  get_d_read : (i : ℕ) → i < 65536 → get_or user i 0 ≡ user_byte_in (scrambling_of psn) work i
  unfolding user_in
  get_d_read i h = sym (ap (λ (u : List ℕ). get_or u i 0) reads.has-user) ∙ get_d_tabulate 65536 (user_byte_in (scrambling_of psn) work) i 0 h

  -- the user bytes of a sector are the first 2,048 of its data frame
  sector-read : (F : ℕ) → F < 32 → take 2048 (data_frame_in (scrambling_of psn) work F) ≡ sector_of user F
  sector-read F h =
      ext_get_or 0 (take 2048 (data_frame_in (scrambling_of psn) work F)) (sector_of user F) (shortened ∙ sym (length-sector-of user length-read F h))
      (λ k l. byte k (omega (arith, shortened)))
    where
      shortened : length (take 2048 (data_frame_in (scrambling_of psn) work F)) ≡ 2048
      shortened = length-take-le 2048 (data_frame_in (scrambling_of psn) work F) (omega (arith, length-data F))

      byte : (k : ℕ) → k < 2048 → get_or (take 2048 (data_frame_in (scrambling_of psn) work F)) k 0 ≡ get_or (sector_of user F) k 0
      byte k hk =
          let number : (2048 * F + k) / 2048 ≡ F = omega arith in
          let place : (2048 * F + k) % 2048 ≡ k = omega arith in
          get_or-take 2048 (data_frame_in (scrambling_of psn) work F) k 0 hk
          ∙ sym (get_d-sector-of user F k hk ∙ get_d_read (2048 * F + k) (omega arith) ∙ ap₂ (λ (f j : ℕ). get_or (data_frame_in (scrambling_of psn) work f) j 0) number place)

  frame-read : (F : ℕ) → F < 32 → frames psn user F ≡ frame_in ldc F
  unfolding data_frame_in
  frame-read F h =
      sym (sector-accepted psn (frame_in ldc F) (length-frame-in ldc F) (bytes-frame-in ldc bytes-ldc F) (read-sectors F h)
      ∙ ap (λ (u : List ℕ). scrambled (scrambling_of psn) (data_frame u)) (sector-read F h))

  pub nothing-else : Written work user psn side
  unfolding ecc_cluster
  nothing-else =
      let block = Bis.nothing-else (bis_in work) psn side (is-block-in work bytes) reads.bis in
      record {
        is-user = record { size = length-read; bytes = bytes-read };
        accepted = block.accepted;
        is-side = block.side-data;
        whole =
            sym (multiplexed-back work size)
            ∙ ap (multiplexed ldc) block.whole
            ∙ multiplexed-ext ldc (ldc_byte (frames psn user)) (bis_block psn side)
            (λ row column hr hc. sym (same-made (frames psn user) (frame_in ldc) frame-read row column ∙ cluster-back ldc bytes-ldc read-words row column hr hc));
      }

-- ---- so a cluster determines what it was made of

found-psn : (p q : ℕ) → ◌≡◌ {A = PsnFound} (Found (record { 0 = p })) (Found (record { 0 = q })) → p ≡ q
found-psn p q e = let same : ◌≡◌ {A = Psn} (record { 0 = p }) (record { 0 = q }) = cc in ap (λ (x : Psn). x.0) same

pub cluster-inj : (user user' side side' : List ℕ) (psn psn' : ℕ) → User user → User user' → judged psn ≡ Done → judged psn' ≡ Done → Side side → Side side'
    → (ecc_cluster user psn side ≡ ecc_cluster user' psn' side') ↔ ((user ≡ user') × (psn ≡ psn') × (side ≡ side'))
cluster-inj user user' side side' psn psn' hu hu' hp hp' hs hs' = (apart, λ same. cc (same.0, same.1, same.2))
  where
    apart : ecc_cluster user psn side ≡ ecc_cluster user' psn' side' → (user ≡ user') × (psn ≡ psn') × (side ≡ side')
    apart e =
        let one = read-back user psn side hu hp hs in
        let other = subst (λ (w : List ℕ). Reads w user' psn' side') (sym e) (read-back user' psn' side' hu' hp' hs') in
        let found = sym one.bis.has-psn ∙ other.bis.has-psn in
        let same : psn ≡ psn' = found-psn psn psn' found in
        (sym one.has-user ∙ ap (λ (p : ℕ). user_in (scrambling_of p) (ecc_cluster user psn side)) same ∙ other.has-user, same, sym one.bis.has-side ∙ other.bis.has-side)
