-- Readers and writers whose failed calls are counted.
use Rattle.std.specs.Prelude.{ℕ, ◌+◌, ◌-◌, ◌^◌, min, Bool, true, false, Result, Ok, Err, Option, Some, if◌then◌else◌}
use Rattle.ls_frame.specs.declared.device.Counted.{Counted}
use Rattle.ls_frame.specs.declared.device.Failed.{Failed}
use Rattle.ls_frame.specs.declared.device.FeedFault.{FeedFault}
use Rattle.ls_frame.specs.declared.device.FeedFault.TheVariants.{Io, NoMemory}

-- the count of failed calls after one more, at most the greatest `u64`
abbrev pub risen : ℕ → ℕ
risen count = min (count + 1) (2 ^ 64 - 1)

-- the count after a call: one more if the call failed, else the same
abbrev pub count_after : Bool → ℕ → ℕ
count_after failed count = if failed then risen count else count

-- whether a read failed, and not an allocation
abbrev pub is_read_fault : FeedFault → Bool
is_read_fault Io = true
is_read_fault NoMemory = false

abbrev pub failed_read : {X : Type 0} → Result X FeedFault → Bool
failed_read (Ok x) = false
failed_read (Err fault) = is_read_fault fault

-- the last failure after a call: that of the call if it failed, else the one before
abbrev pub last_after : {X : Type 0} → Result X Failed → Option Failed → Option Failed
last_after (Ok x) last = last
last_after (Err failure) last = Some failure

module _ {X : Type 0} where
  -- the value that a `Counted` wraps
  abbrev pub wrapped : Counted X → X
  wrapped c = c.inner

  -- its count of failed calls
  abbrev pub failed_calls : Counted X → ℕ
  failed_calls c = c.failed

  -- the last failure, if any
  abbrev pub last_failed : Counted X → Option Failed
  last_failed c = c.last
