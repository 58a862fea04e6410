-- What playing writes for frames: a Netpbm image for each.
use Rattle.std.specs.Prelude.{ℕ, List, flat_map}
use Rattle.ls_frame.specs.Picture.{Picture}
use Rattle.ls_frame.specs.Canonical.{canonical}

-- the canonical Netpbm images of frames, joined with nothing between them
abbrev pub show : List Picture → List ℕ
show frames = flat_map canonical frames
