-- A text of at most 256 bytes, in an array.
use Rattle.std.specs.Prelude.{cond, List, [], ◌∷◌, ◌++◌, ℕ, ◌+◌, ◌-◌, ltb, length, set}
use Prim.Native.Char.{code}
use Prim.Native.String.{String, [] as empty, ◌∷◌ as ◌then◌}
use Rattle.laws.specs.Zeros.{zeros}
use Rattle.texts.specs.declared.Text.{Text}

-- the bytes of a quoted text
abbrev pub the : String → List ℕ
the empty = []
the (c then s) = code c ∷ the s

-- the bytes of a text, zeros behind them, and how many they are
unfoldable pub text_of : List ℕ → Text
text_of bytes = record { bytes = bytes ++ zeros (256 - length bytes); size = length bytes }

-- ---- how a text is made

unfoldable pub blank_text : Text
blank_text = record { bytes = zeros 256; size = 0 }

-- a byte more; one for which there is no room is left out
unfoldable pub byte_added : Text → ℕ → Text
byte_added text b = cond (ltb text.size 256) (record { bytes = set text.bytes text.size b; size = text.size + 1 }) text

unfoldable pub added : Text → List ℕ → Text
added text [] = text
added text (b ∷ more) = added (byte_added text b) more
