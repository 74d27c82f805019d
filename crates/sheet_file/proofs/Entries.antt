-- Entries, one by one. Assumes nothing.
use mathlib.Core.Path.{◌≡◌, refl, sym, ap, ◌∙◌}
use mathlib.Core.Bool.{Bool, true, false, cond}
use mathlib.Core.List.{List, [], ◌∷◌, ◌++◌}
use Prim.Native.Nat.{ℕ, suc, ◌+◌, ◌<◌, ◌≤◌}
use native.Mathlib.Omega.{arith}
use lib.ListN.{length, get_or, set, length-set, length-append, get_or-append}
use lib.Seq.{get_or-append-add}
use Rattle.laws.proofs.Fill.{upto-more}
use Rattle.std.specs.Prelude.{Option, Some, None}
use Rattle.std.specs.Option.{unwrap_or}
use Rattle.address.specs.declared.Psn.{Psn}
use Rattle.notation.specs.Psn.{psn_of}
use Rattle.sheet_file.specs.declared.SheetEntries.{SheetEntries}
use Rattle.sheet_file.specs.File.{Entry, line_of, is_number, number_in, wrong_line, file_entry}
use Rattle.sheet_file.specs.steps.Reading.{wrong_after, HoldsEntries, IsEntry}

-- ---- the first line that is no PSN

-- an entry more
wrong-more : (list : List Entry) (entry : Entry) → wrong_line (list ++ (entry ∷ [])) ≡ wrong_after (wrong_line list) (line_of entry) (psn_of entry.text)
unfolding wrong_line
wrong-more [] entry = refl
wrong-more (e ∷ list) entry = by (is_number (psn_of e.text)) (wrong-more list entry)
  where
    by : (t : Bool) → wrong_line (list ++ (entry ∷ [])) ≡ wrong_after (wrong_line list) (line_of entry) (psn_of entry.text)
        → cond t (wrong_line (list ++ (entry ∷ []))) (Some (line_of e)) ≡ wrong_after (cond t (wrong_line list) (Some (line_of e))) (line_of entry) (psn_of entry.text)
    by true rest = rest
    by false rest = refl

-- ---- the entries

-- what is kept of it is its number, or 0
pub psn-kept : (psn : Option Psn) {p : Psn} → p ≡ unwrap_or psn (record { 0 = 0 }) → p.0 ≡ number_in psn
psn-kept (Some psn) e = ap (λ (p : Psn). p.0) e
psn-kept None e = ap (λ (p : Psn). p.0) e

-- an entry of the longer list
module _ (list : List Entry) (entry : Entry) where
  longer : length (list ++ (entry ∷ [])) ≡ suc (length list)
  longer = omega (arith, length-append list (entry ∷ []))

  old-at : (i : ℕ) → i < length list → file_entry (list ++ (entry ∷ [])) i ≡ file_entry list i
  old-at i h = get_or-append list (entry ∷ []) (record { before = 0; text = [] }) i h

  new-at : (i : ℕ) → i ≡ length list → file_entry (list ++ (entry ∷ [])) i ≡ entry
  new-at i e = ap (file_entry (list ++ (entry ∷ []))) {y = length list + 0} (omega (arith, e)) ∙ get_or-append-add list (entry ∷ []) 0 (record { before = 0; text = [] })

  -- what is kept of each entry, f, with that of the new one set behind the others
  kept-behind : {A : Type 0} (d : A) (f : Entry → A) (l : List A) (n : ℕ) (v : A) → n ≡ length list → n < 64 → length l ≡ 64 → v ≡ f entry
      → ((i : ℕ) → i < length list → get_or l i d ≡ f (file_entry list i)) → (i : ℕ) → i < length (list ++ (entry ∷ [])) → get_or (set l n v) i d ≡ f (file_entry (list ++ (entry ∷ [])) i)
  kept-behind {A} d f l n v all h room new old i within =
      (upto-more {d = d} {f = λ k. f (file_entry (list ++ (entry ∷ [])) k)} {n = 64} {i = n} {l = l} {v = v} h (new ∙ sym (ap f (new-at n all)))
      (record { within = omega (arith, h); size = room; below = λ k lt. old k (omega (arith, lt, all)) ∙ sym (ap f (old-at k (omega (arith, lt, all)))) })
      ).below i (omega (arith, within, longer, all))

  module _ {held : SheetEntries} {psn : Option Psn} {line : ℕ} {wrong : Option ℕ} (holds : HoldsEntries list held) (is : IsEntry entry psn line) (hw : wrong ≡ wrong_after held.wrong line psn) where
    is-wrong : wrong ≡ wrong_line (list ++ (entry ∷ []))
    is-wrong =
        hw
        ∙ (λ i. wrong_after (holds.wrong i) (is.own_line i) (is.own-psn i))
        ∙ sym (wrong-more list entry)

    -- there is no room for it
    pub entry_past : 64 ≤ held.count → HoldsEntries (list ++ (entry ∷ [])) (record { psns = held.psns; lines = held.lines; count = 65; wrong = wrong })
    entry_past h =
        let many : 64 ≤ length list = omega (arith, h, holds.count) in
        record {
          psns-room = holds.psns-room;
          lines-room = holds.lines-room;
          count = omega (arith, many, longer);
          psns = λ i lt _. holds.psns i lt (omega arith) ∙ sym (ap (λ (e : Entry). number_in (psn_of e.text)) (old-at i (omega arith)));
          lines = λ i lt _. holds.lines i lt (omega arith) ∙ sym (ap line_of (old-at i (omega arith)));
          wrong = is-wrong;
        }

    pub entry_more : (p : Psn) → p.0 ≡ number_in psn → held.count < 64
        → HoldsEntries (list ++ (entry ∷ [])) (record { psns = set held.psns held.count p; lines = set held.lines held.count line; count = held.count + 1; wrong = wrong })
    entry_more p hp h =
        record {
          psns-room = length-set held.psns held.count p ∙ holds.psns-room;
          lines-room = length-set held.lines held.count line ∙ holds.lines-room;
          count = omega (arith, all, longer, h);
          psns = λ i lt within.
              ap (λ (q : Psn). q.0)
              (kept-behind (record { 0 = 0 }) (λ e. record { 0 = number_in (psn_of e.text) }) held.psns held.count p all h holds.psns-room (λ j. record { 0 = (hp ∙ ap number_in is.own-psn) j })
              (λ k old j. record { 0 = holds.psns k (omega (arith, old, all, h)) old j }) i within);
          lines = λ i lt within.
              kept-behind 0 line_of held.lines held.count line all h holds.lines-room is.own_line (λ k old. holds.lines k (omega (arith, old, all, h)) old) i within;
          wrong = is-wrong;
        }
      where
        all : held.count ≡ length list
        all = omega (arith, holds.count, h)
