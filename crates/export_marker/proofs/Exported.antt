-- What is returned are the parts of the marker's verdict. Assumes nothing.
use mathlib.Core.Path.{◌≡◌, refl, sym, ap, ◌∙◌}
use mathlib.Core.Logic.{◌↔◌}
use Prim.Native.Nat.{ℕ}
use Rattle.reader.specs.Outcome as reader
use Rattle.verdict.specs.declared.Verdict.{Verdict}
use Rattle.verdict.specs.declared.Verdict.TheVariants.{Pass, Refused, OtherPsn, OtherUser, OtherSide}
use Rattle.verdict.specs.Verdict.{kind_of, refusal_in, own_psn, place_in}
use Rattle.marker.specs.Marked as marker
use Rattle.answer_numbers.specs.declared.Marking.{Marking}
use Rattle.export_marker.specs.Exported.{marked_numbers}

pass-is : (v : Verdict) → kind_of v ≡ 0 → v ≡ Pass
pass-is Pass e = refl
pass-is (Refused a) e = cc
pass-is (OtherPsn psn) e = cc
pass-is (OtherUser n) e = cc
pass-is (OtherSide n) e = cc

-- what holds exactly of a pass holds exactly where the verdict is 0
same-pass : (kind : ℕ) (v : Verdict) (P : Type 0) → kind ≡ kind_of v → (v ≡ Pass) ↔ P → (kind ≡ 0) ↔ P
same-pass kind v P hk h = (λ e. h.0 (pass-is v (sym hk ∙ e)), λ p. hk ∙ ap kind_of (h.1 p))

pub same-marking : {r : Marking} {v : Verdict} {lent : reader.Lent} {m : marker.Marked} {F P : Type 0}
    → r ≡ record { verdict = kind_of v; number = refusal_in v; psn = own_psn v; place = place_in v }
    → (record { verdict = v; lent = lent } ≡ m) × (F → (v ≡ Pass) ↔ P)
    → (record { verdict = r.verdict; number = r.number; psn = r.psn; place = r.place; lent = lent } ≡ marked_numbers m) × (F → (r.verdict ≡ 0) ↔ P)
same-marking {r} {v} {lent} {P = P} hr h = (
  ap (λ (r : Marking). record { verdict = r.verdict; number = r.number; psn = r.psn; place = r.place; lent = lent }) hr ∙ ap marked_numbers h.0,
  λ f. same-pass r.verdict v P (ap (λ (r : Marking). r.verdict) hr) (h.1 f),
)
