-- The verdict, test by test. Assumes nothing.
use mathlib.Core.Path.{◌≡◌, refl, sym, ap, ap₂, ◌∙◌}
use mathlib.Core.Bool.{Bool, true, false, cond}
use mathlib.Core.List.{List}
use Prim.Native.Nat.{ℕ}
use lib.ListN.{length}
use Rattle.answer.specs.declared.Answer.{Answer}
use Rattle.answer.specs.declared.Answer.TheVariants.{Done, WrongUser, WrongSide}
use Rattle.answer.specs.Answer.{is_done, and_then}
use Rattle.lengths.specs.Lengths.{sized}
use Rattle.answer.proofs.Tests.{done-is, done-told, then-done}
use Rattle.lengths.proofs.RightLengths.{sized-done, lengths-done}
use Rattle.reader.specs.Outcome.{Lent, Outcome, image_outcome, sizes_answer, wrong_sizes, outcome}
use Rattle.reader.specs.Promise.{RightSlices}
use Rattle.bits.specs.Bits.{bits_of}
use Rattle.verdict.specs.declared.Verdict.{Verdict}
use Rattle.verdict.specs.declared.Verdict.TheVariants.{Refused}
use Rattle.marker.specs.Marked.{marked_read, Marked, marked}
use Rattle.comparison.specs.Compared.{compared}

-- ---- what is given

module _ (user side : ℕ) where
  pub given-done : and_then (sized user 65536 (WrongUser 0)) (sized side 592 WrongSide) ≡ Done → (user ≡ 65536) × (side ≡ 592)
  given-done e =
      let both = then-done (sized user 65536 (WrongUser 0)) (sized side 592 WrongSide) e in
      (sized-done (WrongUser 0) refl both.0, sized-done WrongSide refl both.1)

-- ---- as the code has it: a, p, f and l are what the reader answered and left, d whether a is `Done`

module _ (psn : ℕ) (user side : List ℕ) (o : Outcome) (a : Answer) (p : ℕ) (f : Bool) (l : Lent) (d : Bool) (e : record { answer = a; psn = p; first = f; lent = l } ≡ o) (hd : d ≡ is_done a) where
  pub is-compared : (v : Verdict) → d ≡ true → v ≡ compared psn user side p l.user l.side → record { verdict = v; lent = l } ≡ marked_read psn user side o
  is-compared v t h =
      let done : is_done a ≡ true = sym hd ∙ t in
      let same : v ≡ cond (is_done a) (compared psn user side p l.user l.side) (Refused a) = rw done h in
      (λ i. record { verdict = same i; lent = l }) ∙ ap (marked_read psn user side) e

  pub is-refused : d ≡ false → record { verdict = Refused a; lent = l } ≡ marked_read psn user side o
  is-refused t =
      let done : is_done a ≡ false = sym hd ∙ t in
      let same : Refused a ≡ cond (is_done a) (compared psn user side p l.user l.side) (Refused a) = rw done in
      (λ i. record { verdict = same i; lent = l }) ∙ ap (marked_read psn user side) e

-- what is read has slices of the right lengths
read-sizes : (image : List ℕ) (before : Lent) → (outcome image before).answer ≡ Done → RightSlices before × (length image ≡ 119788)
unfolding outcome
read-sizes image before e = lengths-done _ _ _ _ _ (by (is_done (sizes_answer image before)) refl e)
  where
    by : (t : Bool) → is_done (sizes_answer image before) ≡ t → (outcome image before).answer ≡ Done → sizes_answer image before ≡ Done
    by true s e = done-is (sizes_answer image before) s
    by false s e = sym (ap (λ (t : Bool). (cond t (image_outcome (bits_of image) before) (wrong_sizes (sizes_answer image before) before)).answer) s) ∙ e

pub sizes : (image : List ℕ) (before : Lent) {a : Answer} {p : ℕ} {h : Bool} (l : Lent) {d : Bool} → record { answer = a; psn = p; first = h; lent = l } ≡ outcome image before → d ≡ is_done a → d ≡ true
    → RightSlices before × (length image ≡ 119788)
sizes image before l e hd t = read-sizes image before (done-told (ap (λ (o : Outcome). o.answer) e) hd t)

-- one, two and g are what the tests of what is given answered, d whether g is `Done`
module _ (user side : ℕ) {one two g : Answer} {d : Bool} (h1 : one ≡ sized user 65536 (WrongUser 0)) (h2 : two ≡ sized side 592 WrongSide) (hg : g ≡ and_then one two) (hd : d ≡ is_done g) where
  is-given : g ≡ and_then (sized user 65536 (WrongUser 0)) (sized side 592 WrongSide)
  is-given = hg ∙ ap₂ and_then h1 h2

  pub given-right : d ≡ true → (user ≡ 65536) × (side ≡ 592)
  given-right t = given-done user side (done-told is-given hd t)

module _ (psn : ℕ) (user side image : List ℕ) (before : Lent) (one two g : Answer) (d : Bool)
    (h1 : one ≡ sized (length user) 65536 (WrongUser 0)) (h2 : two ≡ sized (length side) 592 WrongSide) (hg : g ≡ and_then one two) (hd : d ≡ is_done g) where
  abbrev given : Answer
  given = and_then (sized (length user) 65536 (WrongUser 0)) (sized (length side) 592 WrongSide)

  same : g ≡ given
  same = is-given (length user) (length side) h1 h2 hg hd

  told : (t : Bool) → d ≡ t → is_done given ≡ t
  told t e = sym (ap is_done same) ∙ sym hd ∙ e

  pub is-marked : (m : Marked) → d ≡ true → m ≡ marked_read psn user side (outcome image before) → m ≡ marked psn user side image before
  unfolding marked
  is-marked m t h = h ∙ sym (ap (λ (u : Bool). cond u (marked_read psn user side (outcome image before)) (record { verdict = Refused given; lent = before })) (told true t))

  pub is-wrong : d ≡ false → record { verdict = Refused g; lent = before } ≡ marked psn user side image before
  unfolding marked
  is-wrong t =
      (λ i. record { verdict = Refused (same i); lent = before })
      ∙ sym (ap (λ (u : Bool). cond u (marked_read psn user side (outcome image before)) (record { verdict = Refused given; lent = before })) (told false t))
