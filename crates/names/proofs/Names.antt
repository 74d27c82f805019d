-- `.part` behind a name. Assumes nothing.
use mathlib.Core.Path.{◌≡◌, sym, ap, ◌∙◌}
use mathlib.Core.List.{List, ◌++◌, append_assoc}
use Prim.Native.Nat.{ℕ, ◌+◌, ◌-◌, ◌<◌, ◌≤◌}
use native.Mathlib.Omega.{arith}
use borrow.Author.Tests.{le-leb, lt-leb}
use borrow.Rule.Slice.PartMut.{put_mid}
use lib.ListN.{length, take, drop}
use Rattle.std.proofs.lemmas.List.{drop-drop}
use Rattle.names.specs.Names.{part_ending, part_added}

module _ (before : List ℕ) (n : ℕ) where
  pub no_room : length before < n + 5 → before ≡ part_added before n
  unfolding part_added
  no_room h = rw (lt-leb (n + 5) (length before) h)

  pub with-part : (size : ℕ) (part : List ℕ) → size ≡ n + 5 → size ≤ length before → part ≡ part_ending → put_mid n (size - n) before part ≡ part_added before n
  unfolding part_added
  with-part size part s h e =
      let five : size - n ≡ 5 = omega (arith, s) in
      rw (le-leb (n + 5) (length before) (omega (arith, s, h)), e, five)
      (sym (append_assoc (take n before) part_ending (drop (n + 5) before) ∙ ap (λ (l : List ℕ). take n before ++ (part_ending ++ l)) (sym (drop-drop 5 n before))))
