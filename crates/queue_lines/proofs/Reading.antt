-- A text, byte by byte, and what is printed of it. Assumes nothing.
use mathlib.Core.Path.{◌≡◌, refl, sym, ap, ap₂, ◌∙◌}
use mathlib.Core.List.{List, [], ◌∷◌, ◌++◌, map, append-nil, append_assoc}
use Prim.Native.Nat.{ℕ, ◌-◌}
use native.Mathlib.Omega.{arith}
use lib.ListN.{length}
use lib.Seq.{take-append_seam}
use Rattle.laws.specs.Zeros.{zeros}
use Rattle.texts.specs.declared.Text.{Text}
use Rattle.texts.specs.Text.{text_of, blank_text}
use Rattle.order_queue.specs.declared.Queue.{Queue}
use Rattle.order_queue.specs.declared.Handled.{Handled}
use Rattle.order_queue.specs.Queue.{empty_queue, handled}
use Rattle.queue_report.specs.Said.{handled_text}
use Rattle.queue_lines.specs.declared.RecordLine.{RecordLine}
use Rattle.queue_lines.specs.declared.RecordsRead.{RecordsRead}
use Rattle.queue_lines.specs.Lines.{lines_of, record_on, said_of, text_said}
use Rattle.queue_lines.specs.steps.Reading.{HoldsRecordLine, unbroken, shown_bytes, HasRead}
use Rattle.queue_lines.proofs.Lines.{unbroken-more, line-ended, line-last}

-- ---- what is shown

shown-blank : {text : Text} → text ≡ blank_text → shown_bytes text ≡ []
unfolding blank_text
shown-blank e = ap shown_bytes e

shown-text : {text : Text} (l : List ℕ) → text ≡ text_of l → shown_bytes text ≡ l
unfolding text_of
shown-text l e = ap shown_bytes e ∙ take-append_seam l (zeros (256 - length l))

-- ---- a byte more

pub nothing_read : {line : RecordLine} {queue : Queue} → HoldsRecordLine [] line → queue ≡ empty_queue → HasRead [] [] (record { line = line; queue = queue })
unfolding unbroken text_said
nothing_read holds e = record { begun = []; one_line = refl; line = holds; whole = λ rest. ap (λ (q : Queue). said_of q (map record_on (lines_of rest))) (sym e) }

-- what the end of a line promises: h is what is left of the record on it
abbrev pub HandlesLine : RecordsRead → Handled → Type 0
HandlesLine read h = (begun : List ℕ) → HoldsRecordLine begun read.line → h ≡ handled read.queue (record_on begun)

-- what a byte promises
abbrev pub TakesByte : RecordsRead → ℕ → Text → RecordsRead → Type 0
TakesByte read b text next = (bytes printed : List ℕ) → HasRead bytes printed read → HasRead (bytes ++ (b ∷ [])) (printed ++ shown_bytes text) next

module _ (read : RecordsRead) (b : ℕ) where
  -- of a line
  pub byte-taken : {line : RecordLine} {text : Text} → (b ≡ 10 → ⊥) → ((begun : List ℕ) → HoldsRecordLine begun read.line → HoldsRecordLine (begun ++ (b ∷ [])) line) → text ≡ blank_text
      → TakesByte read b text (record { line = line; queue = read.queue })
  byte-taken {text = text} other add ht bytes printed has =
      let same : printed ≡ printed ++ shown_bytes text = sym (ap (λ (l : List ℕ). printed ++ l) (shown-blank ht) ∙ append-nil printed) in
      record {
        begun = has.begun ++ (b ∷ []);
        one_line = unbroken-more has.begun b other has.one_line;
        line = add has.begun has.line;
        whole = λ rest.
            ap text_said (append_assoc bytes (b ∷ []) rest)
            ∙ has.whole (b ∷ rest)
            ∙ ap₂ (λ (l m : List ℕ). l ++ said_of read.queue (map record_on (lines_of m))) same (sym (append_assoc has.begun (b ∷ []) rest));
      }

  -- the line feed
  pub feed-taken : {line : RecordLine} {h : Handled} {text : Text} → b ≡ 10 → HoldsRecordLine [] line → HandlesLine read h → text ≡ text_of (handled_text h) → TakesByte read b text (record { line = line; queue = h.queue })
  unfolding said_of unbroken
  feed-taken {h = h} {text = text} feed holds ends ht bytes printed has =
      let is : handled read.queue (record_on has.begun) ≡ h = sym (ends has.begun has.line) in
      let shown : shown_bytes text ≡ handled_text h = shown-text (handled_text h) ht in
      record {
        begun = [];
        one_line = refl;
        line = holds;
        whole = λ rest.
            let records = map record_on (lines_of rest) in
            ap text_said (append_assoc bytes (b ∷ []) rest)
            ∙ has.whole (b ∷ rest)
            ∙ ap (λ (l : List (List ℕ)). printed ++ said_of read.queue (map record_on l)) (line-ended has.begun rest b feed has.one_line)
            ∙ ap (λ (x : Handled). printed ++ (handled_text x ++ said_of x.queue records)) is
            ∙ sym (append_assoc printed (handled_text h) (said_of h.queue records))
            ∙ ap (λ (l : List ℕ). (printed ++ l) ++ said_of h.queue records) (sym shown);
      }

-- ---- the end

none-begun : (l : List ℕ) → length l ≡ 0 → lines_of l ≡ []
unfolding lines_of
none-begun [] e = refl
none-begun (b ∷ l) e = absurd (omega (arith, e))

module _ (read : RecordsRead) (bytes printed : List ℕ) (has : HasRead bytes printed read) where
  here : text_said bytes ≡ printed ++ said_of read.queue (map record_on (lines_of has.begun))
  here =
      ap text_said (sym (append-nil bytes))
      ∙ has.whole []
      ∙ ap (λ (l : List ℕ). printed ++ said_of read.queue (map record_on (lines_of l))) (append-nil has.begun)

  -- no line is begun
  pub no-last-line : {text : Text} → read.line.size ≡ 0 → text ≡ blank_text → text_said bytes ≡ printed ++ shown_bytes text
  unfolding said_of
  no-last-line none ht =
      here
      ∙ ap (λ (l : List (List ℕ)). printed ++ said_of read.queue (map record_on l)) (none-begun has.begun (omega (arith, none, has.line.size)))
      ∙ ap (λ (l : List ℕ). printed ++ l) (sym (shown-blank ht))

  -- one is
  pub last_line : {h : Handled} {text : Text} → (read.line.size ≡ 0 → ⊥) → HandlesLine read h → text ≡ text_of (handled_text h) → text_said bytes ≡ printed ++ shown_bytes text
  unfolding said_of
  last_line {h} some ends ht =
      let is : handled read.queue (record_on has.begun) ≡ h = sym (ends has.begun has.line) in
      here
      ∙ ap (λ (l : List (List ℕ)). printed ++ said_of read.queue (map record_on l)) (line-last has.begun has.one_line (λ e. some (omega (arith, e, has.line.size))))
      ∙ ap (λ (x : Handled). printed ++ (handled_text x ++ [])) is
      ∙ ap (λ (l : List ℕ). printed ++ l) (append-nil (handled_text h) ∙ sym (shown-text (handled_text h) ht))
