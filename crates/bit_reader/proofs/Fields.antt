-- What whoever holds a reader or a step knows of its numbers: they fit their types. Assumes nothing.
use Prim.Native.Nat.{◌<◌, ◌^◌}
use mathlib.Core.List.{List}
use mir.Val.{Val}
use denote.Laws.{Is}
use denote.Ref.{NamedLft}
use denote.Struct.Laws.{owed}
use Rattle.bits.specs.declared.Step.{Step}
use Rattle.bits.specs.contracts.Step as S
use Rattle.bits.proofs.Step.TheLaws as S'
use Rattle.bit_reader.specs.declared.ImageReader.{ImageReader}
use Rattle.bit_reader.specs.contracts.ImageReader as T
use Rattle.bit_reader.proofs.ImageReader.TheLaws as T'

pub position-fits : (α : NamedLft) (r : ImageReader) (vs : List Val) → Is (T.the_row α) r vs → r.position < 2 ^ 64
position-fits α r vs is = (owed (T.the_type α) (T'.the_laws α) r vs is).1.0.1

pub value-fits : (s : Step) (vs : List Val) → Is S.the_row s vs → s.value < 2 ^ 8
value-fits s vs is = (owed S.the_type S'.the_laws s vs is).0.1

pub next_fits : (s : Step) (vs : List Val) → Is S.the_row s vs → s.next < 2 ^ 64
next_fits s vs is = (owed S.the_type S'.the_laws s vs is).1.0.1
