-- Where the samples of a component are in memory.
use Rattle.std.specs.Prelude.{◌≡◌, ℕ, ◌*◌, ◌<◌, ◌≤◌, List, length, slice_index}
use Rattle.ls_frame.specs.Picture.{Picture, IsFormed, IsFrame}
use Rattle.ls_frame.specs.View.Numbers.{numbers}
use Rattle.ls_stream.specs.declared.shape.Shape.{Shape}
use Rattle.ls_stream.specs.declared.arranged.Arrangement.{Arrangement}
use Rattle.ls_stream.specs.declared.arranged.Arrangement.TheVariants.{Pixels, Planes}
use Rattle.ls_stream.specs.declared.arranged.Area.{Area}
use Rattle.ls_stream.specs.declared.arranged.ComponentView.{ComponentView}
use Rattle.ls_stream.specs.Components.{component_plane, plane_of}

-- In the order of pixels the samples of a component are among all of them; plane by plane they are a part of them, with no others.
abbrev pub area_of : Arrangement → Shape → ℕ → Area
area_of Pixels shape component = record { start = 0; count = shape.height * shape.width * shape.components; components = shape.components; component = component }
area_of Planes shape component = record { start = component * (shape.height * shape.width); count = shape.height * shape.width; components = 1; component = 0 }

-- the samples of a component of a picture
pub record IsComponentOf (f : Picture) (component : ℕ) (view : ComponentView) : Type 0 where
  pub formed : IsFormed f
  pub width : view.shape.width ≡ f.width
  pub height : view.shape.height ≡ f.height
  pub few : view.shape.components ≤ 3
  pub inside : view.component < view.shape.components
  pub count : length (numbers view.samples) ≡ view.shape.height * (view.shape.width * view.shape.components)
  pub plane : component_plane view.shape.width view.shape.components view.component (numbers view.samples) ≡ plane_of f component
  -- if none of the picture is over maxval, none of these is
  pub small : IsFrame f → (k : ℕ) → slice_index (numbers view.samples) k ≤ f.maxval
