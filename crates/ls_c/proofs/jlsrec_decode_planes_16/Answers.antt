use Rattle.std.proofs.Common.{ℕ, sym, subst}
use Rattle.ls_c.specs.declared.request.Layout.{Layout}
use Rattle.ls_c.specs.Calls.{IsLaidOut}
use Rattle.ls_c.proofs.jlsrec_decode_planes_16.Goals as goal

pub returns : goal.returns
returns c =
    let new = c.decode_laid_out.new in
    subst (λ (layout : Layout). IsLaidOut 65535 c.args.bytes.now layout c.args.samples.now new.samples new.form new.used new.fault c.status_of.result) c.by_planes-layout.ensures
    (subst (λ (status : ℕ). IsLaidOut 65535 c.args.bytes.now c.by_planes-layout.result c.args.samples.now new.samples new.form new.used new.fault status) (sym c.status_of.ensures) c.decode_laid_out.ensures)
