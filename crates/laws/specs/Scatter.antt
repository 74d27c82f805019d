-- A list whose places are written in an order of its own.
use Rattle.std.specs.Prelude.{◌≡◌, List, ℕ, ◌<◌, length, get_or}

-- l, which was l₀, after i turns: v q stands at the place of each q below i, and everything else is as it was
pub record Scattered {A : Type 0} (d : A) (place : ℕ → ℕ) (v : ℕ → A) (l₀ : List A) (i : ℕ) (l : List A) : Type 0 where
  pub size : length l ≡ length l₀
  pub done : (q : ℕ) → q < i → get_or l (place q) d ≡ v q
  pub kept : (k : ℕ) → ((q : ℕ) → q < i → k ≡ place q → ⊥) → get_or l k d ≡ get_or l₀ k d
