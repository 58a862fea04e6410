-- What a request says of its form.
use Rattle.std.specs.Prelude.{◌≡◌, ℕ, ◌<◌, ◌≤◌}
use Rattle.ls_c.specs.declared.form.JlsrecForm.{JlsrecForm}
use Rattle.ls_c.specs.declared.request.Layout.{Layout}
use Rattle.ls_c.specs.declared.request.Request.{Request}
use Rattle.ls_frame.specs.Picture.{sample_count, most_samples}
use Rattle.ls_frame.specs.Parameters.{IsLegal}
use Rattle.ls_c.specs.Forms.{kind_of, parameters, row_in, height_in, stride_in, reach_of}

-- the request for a picture of this form, laid out so among `count` samples
pub record IsRequest (request : Request) (form : JlsrecForm) (layout : Layout) (count : ℕ) : Type 0 where
  pub kind : request.form.kind ≡ kind_of form.components
  pub width : request.form.width ≡ form.width
  pub height : request.form.height ≡ form.height
  pub maxval : request.form.maxval ≡ form.maxval
  pub some_width : 0 < request.form.width
  pub some_height : 0 < request.form.height
  pub some_maxval : 0 < request.form.maxval
  pub few : sample_count request.form.kind request.form.width request.form.height ≤ most_samples
  pub presets : request.presets ≡ parameters form
  pub legal : IsLegal request.presets
  pub presets_maxval : request.presets.maxval ≡ request.form.maxval
  pub row : request.rows.row ≡ row_in form layout
  pub stride_is : request.rows.stride ≡ stride_in form layout
  pub rows : request.rows.height ≡ height_in form layout
  pub wide : row_in form layout ≤ stride_in form layout
  pub enough : reach_of (row_in form layout) (stride_in form layout) (height_in form layout) ≤ count
