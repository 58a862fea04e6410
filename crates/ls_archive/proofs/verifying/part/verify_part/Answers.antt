use Rattle.std.proofs.Common.{Some, None, inl, inr}
use Rattle.std.proofs.lemmas.Result.{err_from_is_err_and}
use Rattle.ls_archive.proofs.VerifiedPartLemmas.{images-unfailed, streams-unfailed, finds-part, stops-part, fails-part}
use Rattle.ls_archive.proofs.verifying.part.verify_part.Goals as goal

pub returns-in_err-pass_images-clause-stops : goal.returns-in_err-pass_images-clause-stops
returns-in_err-pass_images-clause-stops g c =
    let p = err_from_is_err_and c.from_residual.result c.from_residual.ensures.1 in
    rw (p.1, p.2) (inl c.in_err-pass_images.ensures.stops)

pub returns-in_err-pass_images-clause-io : goal.returns-in_err-pass_images-clause-io
returns-in_err-pass_images-clause-io g c =
    let p = err_from_is_err_and c.from_residual.result c.from_residual.ensures.1 in
    rw (p.1, p.2) (inl (images-unfailed (g.F.Read.remaining c.args.film.now) (g.F.Read.remaining c.pass_images.new.film) c.args.part.first _ c.in_err-pass_images.ensures.stops))

pub returns-in_err-pass_codestreams-clause-stops : goal.returns-in_err-pass_codestreams-clause-stops
returns-in_err-pass_codestreams-clause-stops g c =
    let p = err_from_is_err_and c.from_residual-in_err-pass_codestreams.result c.from_residual-in_err-pass_codestreams.ensures.1 in
    rw (p.1, p.2) (inr (inl (g.F.Read.remaining c.pass_images.new.film, c.in_ok-pass_images.ensures.passed, c.in_err-pass_codestreams.ensures.stops)))

pub returns-in_err-pass_codestreams-clause-io : goal.returns-in_err-pass_codestreams-clause-io
returns-in_err-pass_codestreams-clause-io g c =
    let p = err_from_is_err_and c.from_residual-in_err-pass_codestreams.result c.from_residual-in_err-pass_codestreams.ensures.1 in
    rw (p.1, p.2)
    (inl (streams-unfailed (g.R.Read.remaining c.args.recording.now) (g.R.Read.remaining c.pass_codestreams.new.recording) c.args.part.first _ c.in_err-pass_codestreams.ensures.stops))

pub returns-in-Some-clause-finds : goal.returns-in-Some-clause-finds
returns-in-Some-clause-finds g c =
    rw c.in-Some.is
    (finds-part (g.F.Read.remaining c.args.film.now) (g.F.Read.remaining c.pass_images.new.film) (g.F.Read.remaining c.compare_between.new.film)
    (g.R.Read.remaining c.args.recording.now) (g.R.Read.remaining c.pass_codestreams.new.recording) (g.R.Read.remaining c.compare_between.new.recording)
    c.args.part.first (Some c.in-Some.last) c.in_ok-pass_images.ensures.passed c.in_ok-pass_codestreams.ensures.passed c.compare_between.result c.compare_between.ensures.finds)

pub returns-in-Some-clause-stops : goal.returns-in-Some-clause-stops
returns-in-Some-clause-stops g c =
    rw c.in-Some.is
    (stops-part (g.F.Read.remaining c.args.film.now) (g.F.Read.remaining c.pass_images.new.film) (g.F.Read.remaining c.compare_between.new.film)
    (g.R.Read.remaining c.args.recording.now) (g.R.Read.remaining c.pass_codestreams.new.recording) (g.R.Read.remaining c.compare_between.new.recording)
    c.args.part.first (Some c.in-Some.last) c.in_ok-pass_images.ensures.passed c.in_ok-pass_codestreams.ensures.passed c.compare_between.result c.compare_between.ensures.stops)

pub returns-in-Some-clause-io : goal.returns-in-Some-clause-io
returns-in-Some-clause-io g c =
    fails-part (g.F.Read.remaining c.args.film.now) (g.F.Read.remaining c.pass_images.new.film) (g.F.Read.remaining c.compare_between.new.film)
    (g.R.Read.remaining c.args.recording.now) (g.R.Read.remaining c.pass_codestreams.new.recording) (g.R.Read.remaining c.compare_between.new.recording)
    c.args.part.first (Some c.in-Some.last) c.in_ok-pass_images.ensures.passed c.in_ok-pass_codestreams.ensures.passed c.compare_between.result c.compare_between.ensures.io

pub returns-in-None-clause-finds : goal.returns-in-None-clause-finds
returns-in-None-clause-finds g c =
    rw c.in-None.is
    (finds-part (g.F.Read.remaining c.args.film.now) (g.F.Read.remaining c.pass_images.new.film) (g.F.Read.remaining c.compare_rest.new.film)
    (g.R.Read.remaining c.args.recording.now) (g.R.Read.remaining c.pass_codestreams.new.recording) (g.R.Read.remaining c.compare_rest.new.recording)
    c.args.part.first None c.in_ok-pass_images.ensures.passed c.in_ok-pass_codestreams.ensures.passed c.compare_rest.result c.compare_rest.ensures.finds)

pub returns-in-None-clause-stops : goal.returns-in-None-clause-stops
returns-in-None-clause-stops g c =
    rw c.in-None.is
    (stops-part (g.F.Read.remaining c.args.film.now) (g.F.Read.remaining c.pass_images.new.film) (g.F.Read.remaining c.compare_rest.new.film)
    (g.R.Read.remaining c.args.recording.now) (g.R.Read.remaining c.pass_codestreams.new.recording) (g.R.Read.remaining c.compare_rest.new.recording)
    c.args.part.first None c.in_ok-pass_images.ensures.passed c.in_ok-pass_codestreams.ensures.passed c.compare_rest.result c.compare_rest.ensures.stops)

pub returns-in-None-clause-io : goal.returns-in-None-clause-io
returns-in-None-clause-io g c =
    fails-part (g.F.Read.remaining c.args.film.now) (g.F.Read.remaining c.pass_images.new.film) (g.F.Read.remaining c.compare_rest.new.film)
    (g.R.Read.remaining c.args.recording.now) (g.R.Read.remaining c.pass_codestreams.new.recording) (g.R.Read.remaining c.compare_rest.new.recording)
    c.args.part.first None c.in_ok-pass_images.ensures.passed c.in_ok-pass_codestreams.ensures.passed c.compare_rest.result c.compare_rest.ensures.io
