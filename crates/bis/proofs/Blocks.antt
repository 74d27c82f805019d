-- BIS blocks as a whole: what is read in one that was written, and that one in which nothing is wrong was written. Assumes nothing.
use mathlib.Core.Path.{◌≡◌, sym, ap, ap₂, ◌∙◌}
use mathlib.Core.Bool.{true, not}
use mathlib.Core.List.{List, [], ◌++◌}
use Prim.Native.Nat.{ℕ, ◌+◌, ◌-◌, ◌<◌, ◌≤◌}
use native.Mathlib.Decide.{dec_lt}
use native.Mathlib.Omega.{arith}
use borrow.Author.Tests.{lt-ltb, le-ltb, not-false}
use lib.ListN.{length, get_or, take, drop, length-append, get_or-append}
use lib.Seq.{get_or-take, length-take-le}
use Rattle.laws.specs.Bytes.{Bytes}
use Rattle.laws.proofs.Bytes.{bytes-append, bytes-tabulate}
use Rattle.laws.proofs.Tabulate.{length-tabulate, get_d_tabulate, is-tabulate}
use Rattle.laws.proofs.First.{first-none, first-all}
use Rattle.answer.specs.declared.Answer.TheVariants.{Done}
use Rattle.address.specs.Judged.{judged}
use Rattle.address.specs.Conversions.{aun_of}
use Rattle.column.specs.Column.{generator, MultipleOf, ParityExactly, parity, has_roots}
use Rattle.column.proofs.Parity.{parity-length, parity-bytes, parity-test, test-column}
use Rattle.column.proofs.Multiple.{parity-multiple, multiple-right, column-exactly}
use Rattle.bis.specs.AddressField.{primary_field, partly_inverted, address_field, aun_in, flag_in}
use Rattle.bis.specs.AccessBlock.{Side, field_of, address_fields, row_of_af, column_of_af, field_at, byte_at, row_of_uc, column_of_uc, control_at, access_byte}
use Rattle.bis.specs.BisBlock.{access_column, code_word, bis_block, Block}
use Rattle.bis.specs.Reading.{wrong_column, first_wrong_column, field_in, primary_in, wrong_field, first_wrong_field, IsPsnOf, side_byte_in, side_in}
use Rattle.bis.proofs.Mapping.{field-place, control-place, field-at-lt, byte-at-lt, row_back, column-back, af-row-lt, af-column-lt}
use Rattle.bis.proofs.AddressFields.{aun-back, flag-back, primary-roots, length-field, bytes-field, primary-back, field-only, bytes-inverted}
use Rattle.address.proofs.Accepted.{aun-lt}

-- ---- code words

module _ (fields : List (List ℕ)) (side : List ℕ) (C : ℕ) where
  length-access : length (access_column fields side C) ≡ 30
  unfolding access_column
  length-access = length-tabulate 30 (λ row. access_byte fields side row C)

  -- an information byte
  get_d-word : (row : ℕ) → row < 30 → get_or (code_word fields side C) row 0 ≡ access_byte fields side row C
  unfolding code_word access_column
  get_d-word row h =
      get_or-append (access_column fields side C) (parity 32 (access_column fields side C)) 0 row (omega (arith, length-access))
      ∙ get_d_tabulate 30 (λ row. access_byte fields side row C) row 0 h

-- ---- a block that was written

module _ (psn : ℕ) (side : List ℕ) (accepted : judged psn ≡ Done) (bytes : Bytes side) where
  get_d-fields : (y : ℕ) → y < 16 → get_or (address_fields psn side) y [] ≡ address_field (aun_of psn y) (get_or side y 0)
  unfolding address_fields field_of
  get_d-fields y h = get_d_tabulate 16 (field_of psn side) y [] h

  bytes-fields : (y : ℕ) → y < 16 → Bytes (get_or (address_fields psn side) y [])
  bytes-fields y h = rw (get_d-fields y h) (bytes-field (aun_of psn y) (get_or side y 0) (bytes y))

  access-byte-lt : (row C : ℕ) → C < 24 → access_byte (address_fields psn side) side row C < 256
  access-byte-lt row C h =
      elim (dec_lt row 6) [
        | yes l ↦ rw (lt-ltb row 6 l) (bytes-fields (field_at row C) (field-at-lt row C l h) (byte_at row C))
        | no l ↦ rw (le-ltb row 6 (omega arith)) (bytes (16 + control_at row C))
      ]

  bytes-access : (C : ℕ) → C < 24 → Bytes (access_column (address_fields psn side) side C)
  unfolding access_column
  bytes-access C h = bytes-tabulate 30 (λ row. access_byte (address_fields psn side) side row C) (λ row l. access-byte-lt row C h)

  column-is : (C : ℕ) → C < 24 → get_or (bis_block psn side) C [] ≡ code_word (address_fields psn side) side C
  unfolding bis_block
  column-is C h = get_d_tabulate 24 (code_word (address_fields psn side) side) C [] h

  pub written-block : Block (bis_block psn side)
  unfolding bis_block code_word
  written-block =
      record {
        columns = length-tabulate 24 (code_word (address_fields psn side) side);
        size = λ C h. ap (length {A = ℕ}) (column-is C h)
            ∙ omega (
              arith,
              length-append (access_column (address_fields psn side) side C) (parity 32 (access_column (address_fields psn side) side C)),
              length-access (address_fields psn side) side C,
              parity-length 32 (access_column (address_fields psn side) side C),
            );
        bytes = λ C h.
            rw (column-is C h)
            (bytes-append (access_column (address_fields psn side) side C) (parity 32 (access_column (address_fields psn side) side C)) (bytes-access C h)
            (parity-bytes 32 (access_column (address_fields psn side) side C)));
      }

  pub written-columns : first_wrong_column (bis_block psn side) ≡ 24
  unfolding first_wrong_column wrong_column code_word
  written-columns =
      first-none 24 (wrong_column (bis_block psn side))
      (record {
        fails = λ C h.
            ap (λ (c : List ℕ). not (has_roots 32 c)) (column-is C h)
            ∙ ap not (parity-test 32 (access_column (address_fields psn side) side C) (bytes-access C h));
      })

  written-multiples : (C : ℕ) → C < 24 → MultipleOf (generator 32) (code_word (address_fields psn side) side C)
  unfolding code_word
  written-multiples C h = parity-multiple 32 (access_column (address_fields psn side) side C) (bytes-access C h)

  pub column-multiple : (C : ℕ) → C < 24 → MultipleOf (generator 32) (get_or (bis_block psn side) C [])
  column-multiple C h = rw (column-is C h) (written-multiples C h)

  -- and its last 32 bytes are the only ones that make it one
  pub written-parity : (C : ℕ) → C < 24 → ParityExactly 32 (take 30 (get_or (bis_block psn side) C [])) (drop 30 (get_or (bis_block psn side) C []))
  written-parity C h =
      column-exactly 32 (omega arith) 30 (get_or (bis_block psn side) C []) (written-block.bytes C h) (written-block.size C h)
      (multiple-right 32 (get_or (bis_block psn side) C []) (column-multiple C h))

  -- an information byte of the block
  byte-is : (C row : ℕ) → C < 24 → row < 30 → get_or (get_or (bis_block psn side) C []) row 0 ≡ access_byte (address_fields psn side) side row C
  byte-is C row hC h = ap (λ (c : List ℕ). get_or c row 0) (column-is C hC) ∙ get_d-word (address_fields psn side) side C row h

  -- the address fields are where they were put
  field_is : (y : ℕ) → y < 16 → field_in (bis_block psn side) y ≡ address_field (aun_of psn y) (get_or side y 0)
  unfolding field_in
  field_is y h =
      sym (is-tabulate 0 9 (λ x. get_or (get_or (bis_block psn side) (column_of_af x y) []) (row_of_af x y) 0) (address_field (aun_of psn y) (get_or side y 0))
      (length-field (aun_of psn y) (get_or side y 0))
      (λ x hx. sym (at x hx)))
    where
      at : (x : ℕ) → x < 9 → get_or (get_or (bis_block psn side) (column_of_af x y) []) (row_of_af x y) 0 ≡ get_or (address_field (aun_of psn y) (get_or side y 0)) x 0
      at x hx =
          let row = af-row-lt x y hx h in
          byte-is (column_of_af x y) (row_of_af x y) (af-column-lt x y hx h) (omega arith)
          ∙ field-place (address_fields psn side) side x y hx h
          ∙ ap (λ (f : List ℕ). get_or f x 0) (get_d-fields y h)

  primary-is-there : (y : ℕ) → y < 16 → primary_in (bis_block psn side) y ≡ primary_field (aun_of psn y) (get_or side y 0)
  unfolding primary_in
  primary-is-there y h = ap partly_inverted (field_is y h) ∙ primary-back (aun_of psn y) (get_or side y 0) (bytes y)

  pub written-fields : first_wrong_field (bis_block psn side) ≡ 16
  unfolding first_wrong_field wrong_field
  written-fields =
      first-none 16 (wrong_field (bis_block psn side))
      (record {
        fails = λ y h.
            ap (λ (f : List ℕ). not (has_roots 4 f)) (primary-is-there y h)
            ∙ ap not (primary-roots (aun_of psn y) (get_or side y 0) (bytes y));
      })

  pub written-psn : IsPsnOf (bis_block psn side) psn
  written-psn =
      record {
        accepted = accepted;
        auns = λ y h. ap aun_in (primary-is-there y h) ∙ aun-back (aun_of psn y) (get_or side y 0) (aun-lt psn accepted y h);
      }

  pub written-side : length side ≡ 592 → side_in (bis_block psn side) ≡ side
  unfolding side_in
  written-side size = sym (is-tabulate 0 592 (side_byte_in (bis_block psn side)) side size (λ k h. sym (at k h)))
    where
      at : (k : ℕ) → k < 592 → side_byte_in (bis_block psn side) k ≡ get_or side k 0
      at k h =
          elim (dec_lt k 16) [
            | yes l ↦ rw (lt-ltb k 16 l) (ap flag_in (primary-is-there k l) ∙ flag-back (aun_of psn k) (get_or side k 0))
            | no l ↦
                let whole : 16 + (k - 16) ≡ k = omega arith in
                rw (le-ltb k 16 (omega arith))
                (byte-is (column_of_uc (k - 16)) (row_of_uc (k - 16)) (omega arith) (omega arith)
                ∙ control-place (address_fields psn side) side (k - 16)
                ∙ ap (λ (j : ℕ). get_or side j 0) whole)
          ]

-- ---- the side data of any block

module _ (block : List (List ℕ)) where
  get_d-side : (k : ℕ) → k < 592 → get_or (side_in block) k 0 ≡ side_byte_in block k
  unfolding side_in
  get_d-side k h = get_d_tabulate 592 (side_byte_in block) k 0 h

  flag_is : (y : ℕ) → y < 16 → get_or (side_in block) y 0 ≡ flag_in (primary_in block y)
  flag_is y h = get_d-side y (omega arith) ∙ rw (lt-ltb y 16 h)

  control-is : (C row : ℕ) → C < 24 → 6 ≤ row → row < 30 → get_or (side_in block) (16 + control_at row C) 0 ≡ get_or (get_or block C []) row 0
  control-is C row hC l h =
      let k = 16 + control_at row C in
      let column : column_of_uc (k - 16) ≡ C = omega arith in
      let place : row_of_uc (k - 16) ≡ row = omega arith in
      get_d-side k (omega arith) ∙ rw (le-ltb k 16 (omega arith)) (ap₂ (λ (c r : ℕ). get_or (get_or block c []) r 0) column place)

module _ (block : List (List ℕ)) (is : Block block) where
  length-field-in : (y : ℕ) → length (field_in block y) ≡ 9
  unfolding field_in
  length-field-in y = length-tabulate 9 (λ x. get_or (get_or block (column_of_af x y) []) (row_of_af x y) 0)

  bytes-field-in : (y : ℕ) → y < 16 → Bytes (field_in block y)
  unfolding field_in
  bytes-field-in y h =
      bytes-tabulate 9 (λ x. get_or (get_or block (column_of_af x y) []) (row_of_af x y) 0) (λ x hx. is.bytes (column_of_af x y) (af-column-lt x y hx h) (row_of_af x y))

  side-byte-lt : (k : ℕ) → k < 592 → side_byte_in block k < 256
  unfolding primary_in
  side-byte-lt k h =
      elim (dec_lt k 16) [
        | yes l ↦ rw (lt-ltb k 16 l) (bytes-inverted (field_in block k) (bytes-field-in k l) 4)
        | no l ↦ rw (le-ltb k 16 (omega arith)) (is.bytes (column_of_uc (k - 16)) (omega arith) (row_of_uc (k - 16)))
      ]

  pub side-in : Side (side_in block)
  unfolding side_in
  side-in = record { size = length-tabulate 592 (side_byte_in block); bytes = bytes-tabulate 592 (side_byte_in block) side-byte-lt }

-- ---- a block in which nothing is wrong

module _ (block : List (List ℕ)) (is : Block block) (psn : ℕ) (right-columns : first_wrong_column block ≡ 24) (right-fields : first_wrong_field block ≡ 16) (is-psn : IsPsnOf block psn) where
  column-roots : (C : ℕ) → C < 24 → has_roots 32 (get_or block C []) ≡ true
  unfolding first_wrong_column wrong_column
  column-roots C h = not-false (has_roots 32 (get_or block C [])) (first-all 24 (wrong_column block) (omega (arith, right-columns)) C h)

  field-roots : (y : ℕ) → y < 16 → has_roots 4 (primary_in block y) ≡ true
  unfolding first_wrong_field wrong_field
  field-roots y h = not-false (has_roots 4 (primary_in block y)) (first-all 16 (wrong_field block) (omega (arith, right-fields)) y h)

  -- each address field is that of the PSN and of its flag byte
  field-in-is : (y : ℕ) → y < 16 → field_in block y ≡ get_or (address_fields psn (side_in block)) y []
  unfolding primary_in address_fields field_of
  field-in-is y h =
      field-only (field_in block y) (length-field-in block is y) (bytes-field-in block is y h) (field-roots y h)
      ∙ ap₂ address_field (is-psn.auns y h) (sym (flag_is block y h))
      ∙ sym (get_d_tabulate 16 (field_of psn (side_in block)) y [] h)

  -- each byte of the access block is where it would be put
  access-is : (C row : ℕ) → C < 24 → row < 30 → get_or (get_or block C []) row 0 ≡ access_byte (address_fields psn (side_in block)) (side_in block) row C
  unfolding field_in
  access-is C row hC h =
      elim (dec_lt row 6) [
        | yes l ↦
            let y = field_at row C in
            let x = byte_at row C in
            rw (lt-ltb row 6 l)
            (ap₂ (λ (c r : ℕ). get_or (get_or block c []) r 0) (sym (column-back row C l hC)) (sym (row_back row C l hC))
            ∙ sym (get_d_tabulate 9 (λ x. get_or (get_or block (column_of_af x y) []) (row_of_af x y) 0) x 0 (byte-at-lt row C l hC))
            ∙ ap (λ (f : List ℕ). get_or f x 0) (field-in-is y (field-at-lt row C l hC)))
        | no l ↦ rw (le-ltb row 6 (omega arith)) (sym (control-is block C row hC (omega arith) h))
      ]

  message-is : (C : ℕ) → C < 24 → take 30 (get_or block C []) ≡ access_column (address_fields psn (side_in block)) (side_in block) C
  unfolding access_column
  message-is C h =
      is-tabulate 0 30 (λ row. access_byte (address_fields psn (side_in block)) (side_in block) row C) (take 30 (get_or block C []))
      (length-take-le 30 (get_or block C []) (omega (arith, is.size C h)))
      (λ row l. get_or-take 30 (get_or block C []) row 0 l ∙ access-is C row h l)

  pub block-is : block ≡ bis_block psn (side_in block)
  unfolding bis_block code_word
  block-is =
      is-tabulate [] 24 (code_word (address_fields psn (side_in block)) (side_in block)) block is.columns
      (λ C h.
      test-column 32 (omega arith) 30 (get_or block C []) (is.bytes C h) (is.size C h) (column-roots C h)
      ∙ ap (λ (m : List ℕ). m ++ parity 32 m) (message-is C h))
