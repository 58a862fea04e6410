-- The statuses that commands exit with.
use Rattle.std.specs.Prelude.{◌≡◌, ◌⊎◌, ℕ}
use Rattle.ls_archive.specs.declared.verifying.Verdict.{Verdict}
use Rattle.ls_archive.specs.declared.verifying.Verdict.TheVariants.{Same, Differs, Missing, Extra}
use Rattle.ls_console.specs.declared.output.TheConstants.{DONE, FAILED, USAGE}

-- 0 or 1
abbrev pub DoneOrFailed : ℕ → Type 0
DoneOrFailed status = (status ≡ DONE) ⊎ (status ≡ FAILED)

-- or 2, if the words ask for nothing that there is
abbrev pub DoneFailedOrUsage : ℕ → Type 0
DoneFailedOrUsage status = (status ≡ DONE) ⊎ ((status ≡ FAILED) ⊎ (status ≡ USAGE))

-- by what a comparison found
abbrev pub verdict_status : Verdict → ℕ
verdict_status (Same frames) = DONE
verdict_status (Differs number difference) = FAILED
verdict_status (Missing number) = FAILED
verdict_status (Extra number) = FAILED
