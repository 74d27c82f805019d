-- A file, byte by byte. Assumes nothing.
use mathlib.Core.Path.{◌≡◌, refl, sym, ap, subst, ◌∙◌}
use mathlib.Core.Bool.{Bool, cond}
use mathlib.Core.List.{List, [], ◌∷◌, ◌++◌, append-nil, append_assoc}
use Prim.Native.Nat.{ℕ, suc, ◌+◌, ◌^◌, ◌<◌, ◌≤◌}
use native.Mathlib.Numerals.{add-one}
use native.Mathlib.Omega.{arith}
use borrow.Author.Tests.{eq-eqb, ne_eqb}
use lib.ListN.{length, get_or, take, length-append}
use lib.Seq.{length-take-le, take_all, take-suc}
use Rattle.std.specs.Prelude.{Option}
use Rattle.address.specs.declared.Psn.{Psn}
use Rattle.sheet_file.specs.declared.Line.{Line}
use Rattle.sheet_file.specs.declared.SheetEntries.{SheetEntries}
use Rattle.sheet_file.specs.declared.SheetFile.{SheetFile}
use Rattle.sheet_file.specs.File.{lines_from, trimmed, Entry, entry_on, entries_from, file_entries}
use Rattle.sheet_file.specs.steps.Reading.{shown_psn, HoldsLine, HoldsEntries, IsEntry, HasRead}
use Rattle.sheet_file.proofs.Lines.{line-psn}

-- ---- a line ends

entry-none : (n : ℕ) (text : List ℕ) → length text ≡ 0 → entry_on n text ≡ []
entry-none n [] e = refl
entry-none n (b ∷ text) e = absurd (omega (arith, e))

entry-one : (n : ℕ) (text : List ℕ) → (length text ≡ 0 → ⊥) → entry_on n text ≡ record { before = n; text = text } ∷ []
entry-one n [] h = absurd (h refl)
entry-one n (b ∷ text) h = refl

-- what the end of a line promises: held are the entries and the line before it, r the entries behind it
abbrev Ends : SheetEntries → Line → ℕ → SheetEntries → Type 0
Ends held line before r =
    (list : List Entry) (begun : List ℕ) → before < 2 ^ 63 → HoldsEntries list held → HoldsLine begun line → HoldsEntries (list ++ entry_on before (trimmed begun)) r

pub ends-blank : {held : SheetEntries} {line : Line} {before : ℕ} → line.size ≡ 0 → Ends held line before held
ends-blank {held} {line} {before} none list begun h entries holds =
    let nothing = entry-none before (trimmed begun) (omega (arith, none, holds.size)) in
    subst (λ (l : List Entry). HoldsEntries l held) (sym (ap (λ (l : List Entry). list ++ l) nothing ∙ append-nil list)) entries

-- psn is what stands on the line, number is the line's
pub ends-entry : {held r : SheetEntries} {line : Line} {before number : ℕ} {psn : Option Psn}
    → (line.size ≡ 0 → ⊥) → psn ≡ shown_psn line.text line.size → (before < 2 ^ 63 → number ≡ before + 1)
    → ((list : List Entry) (entry : Entry) → HoldsEntries list held → IsEntry entry psn number → HoldsEntries (list ++ (entry ∷ [])) r)
    → Ends held line before r
ends-entry {held} {r} {line} {before} some hp hn add list begun h entries holds =
    let one = entry-one before (trimmed begun) (λ e. some (omega (arith, e, holds.size))) in
    subst (λ (l : List Entry). HoldsEntries (list ++ l) r) (sym one)
    (add list (record { before = before; text = trimmed begun }) entries (record { own-psn = hp ∙ line-psn holds; own_line = omega (arith, hn h) }))

-- ---- a byte more

-- what a byte promises
abbrev pub Steps : SheetFile → ℕ → SheetFile → Type 0
Steps file b r = (bytes : List ℕ) → length bytes < 2 ^ 63 → HasRead bytes file → HasRead (bytes ++ (b ∷ [])) r

module _ (file : SheetFile) (b : ℕ) where
  later : (bytes rest : List ℕ) → file_entries ((bytes ++ (b ∷ [])) ++ rest) ≡ file_entries (bytes ++ (b ∷ rest))
  later bytes rest = ap file_entries (append_assoc bytes (b ∷ []) rest)

  -- of a line
  pub steps_on : {line : Line} → (b ≡ 10 → ⊥) → ((begun : List ℕ) → HoldsLine begun file.line → HoldsLine (begun ++ (b ∷ [])) line)
      → Steps file b (record { line = line; before = file.before; entries = file.entries })
  unfolding lines_from
  steps_on other add bytes h read =
      record {
        ended = read.ended;
        begun = read.begun ++ (b ∷ []);
        before = omega (arith, read.before, length-append bytes (b ∷ []));
        line = add read.begun read.line;
        entries = read.entries;
        whole = λ rest.
            later bytes rest
            ∙ read.whole (b ∷ rest)
            ∙ ap (λ (t : Bool). read.ended ++ entries_from file.before (cond t (read.begun ∷ lines_from [] rest) (lines_from (read.begun ++ (b ∷ [])) rest))) (ne_eqb b 10 other);
      }

  -- the line feed
  pub steps-end : {line : Line} {held : SheetEntries} {n : ℕ} → b ≡ 10 → HoldsLine [] line → (file.before < 2 ^ 63 → n ≡ file.before + 1) → Ends file.entries file.line file.before held
      → Steps file b (record { line = line; before = n; entries = held })
  unfolding lines_from entries_from
  steps-end {n = n} feed line hn ends bytes h read =
      let small : file.before < 2 ^ 63 = omega (arith, read.before, h) in
      let more = entry_on file.before (trimmed read.begun) in
      record {
        ended = read.ended ++ more;
        begun = [];
        before = omega (arith, read.before, hn small, length-append bytes (b ∷ []));
        line = line;
        entries = ends read.ended read.begun small read.entries read.line;
        whole = λ rest.
            later bytes rest
            ∙ read.whole (b ∷ rest)
            ∙ ap (λ (t : Bool). read.ended ++ entries_from file.before (cond t (read.begun ∷ lines_from [] rest) (lines_from (read.begun ++ (b ∷ [])) rest))) (eq-eqb b 10 feed)
            ∙ sym (append_assoc read.ended more (entries_from (suc file.before) (lines_from [] rest)))
            ∙ ap (λ (m : ℕ). (read.ended ++ more) ++ entries_from m (lines_from [] rest)) (sym (add-one file.before) ∙ sym (hn small));
      }

-- ---- many bytes

-- in a loop: the first i of l are read
pub record PartRead (file₀ : SheetFile) (l : List ℕ) (file : SheetFile) (i : ℕ) : Type 0 where
  pub within : i ≤ length l
  pub so_far : (front : List ℕ) → length front + length l ≤ 2 ^ 63 → HasRead front file₀ → HasRead (front ++ take i l) file

pub reads_none : (file : SheetFile) (l : List ℕ) → PartRead file l file 0
reads_none file l = record { within = omega arith; so_far = λ front h read. subst (λ (bytes : List ℕ). HasRead bytes file) (sym (append-nil front)) read }

pub reads_more : {file₀ file next : SheetFile} {l : List ℕ} {i : ℕ} → PartRead file₀ l file i → i < length l → Steps file (get_or l i 0) next → PartRead file₀ l next (i + 1)
reads_more {file₀} {file} {next} {l} {i} reads h step =
    record {
      within = omega arith;
      so_far = λ front short read.
          let size : length (front ++ take i l) < 2 ^ 63 = omega (arith, length-append front (take i l), length-take-le i l reads.within) in
          let bytes : (front ++ take i l) ++ (get_or l i 0 ∷ []) ≡ front ++ take (i + 1) l =
          append_assoc front (take i l) (get_or l i 0 ∷ []) ∙ ap (λ (m : List ℕ). front ++ m) (sym (take-suc l i 0 h) ∙ ap (λ (j : ℕ). take j l) (sym (add-one i))) in
          subst (λ (m : List ℕ). HasRead m next) bytes (step (front ++ take i l) size (reads.so_far front short read));
    }

pub reads_all : {file₀ file : SheetFile} {l : List ℕ} {i : ℕ} → PartRead file₀ l file i → length l ≤ i
    → (front : List ℕ) → length front + length l ≤ 2 ^ 63 → HasRead front file₀ → HasRead (front ++ l) file
reads_all {file₀} {file} {l} {i} reads h front short read = subst (λ (m : List ℕ). HasRead (front ++ m) file) (take_all i l h) (reads.so_far front short read)

-- ---- the end

pub ends-file : (file : SheetFile) {held : SheetEntries} → Ends file.entries file.line file.before held
    → (bytes : List ℕ) → length bytes < 2 ^ 63 → HasRead bytes file → HoldsEntries (file_entries bytes) held
unfolding lines_from entries_from
ends-file file {held} ends bytes h read =
    let more = entry_on file.before (trimmed read.begun) in
    let all : file_entries bytes ≡ read.ended ++ more =
    ap file_entries (sym (append-nil bytes)) ∙ read.whole [] ∙ ap (λ (l : List Entry). read.ended ++ l) (append-nil more) in
    subst (λ (l : List Entry). HoldsEntries l held) (sym all) (ends read.ended read.begun (omega (arith, read.before, h)) read.entries read.line)
