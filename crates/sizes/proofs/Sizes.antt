-- How the sizes hang together. Assumes nothing.
use mathlib.Core.Path.{◌≡◌, refl}
use Prim.Native.Nat.{◌+◌, ◌*◌}
use Rattle.sizes.specs.Sizes.{user_size, side_size, frame_count, dc_size, row_size, work_size, frame_size, recording_size, image_size}

pub sectors : 32 * 2048 ≡ user_size
sectors = refl

pub side-parts : 16 + 32 * 18 ≡ side_size
side-parts = refl

pub dc-bytes : 4 * frame_count ≡ dc_size
dc-bytes = refl

pub rows : frame_count * row_size ≡ work_size
rows = refl

pub frames : frame_count * frame_size ≡ recording_size
frames = refl

-- the frames, the sync behind them, and two zero bits
pub image-bits : recording_size + 30 + 2 ≡ 8 * image_size
image-bits = refl
