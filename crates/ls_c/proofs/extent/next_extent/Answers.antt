use Rattle.std.proofs.Common.{◌++◌, Some, List, ℕ, get_or, Fits, w8, arith}
use Rattle.std.specs.Prelude.{Option}
use Rattle.std.specs.List.{slice_range}
use Rattle.ls_bits.specs.Bits.{AreBytes}
use Rattle.ls_stream.proofs.FrameReadingLemmas.{are_bytes}
use Rattle.ls_c.proofs.ExtentLemmas.{found_is, too_large_is, not_so}
use Rattle.ls_c.proofs.extent.next_extent.Goals as goal

pub returns-in-Ok-Some : goal.returns-in-Ok-Some
returns-in-Ok-Some c =
    let bytes : List ℕ = c.args.bytes.now in
    let are : AreBytes bytes = are_bytes bytes (λ i. let fits : Fits w8 (get_or bytes i 0) = c.type_inv.bytes i in omega arith) in
    let reader = c.next_stream.new.reader in
    let left : Option (List ℕ) = Some (slice_range reader.chunk.items reader.start reader.end ++ reader.inner.now) in
    found_is bytes _ left c.in-Ok-Some.codestream.items c.len.result are c.in-Ok.ensures (rw c.in-Ok-Some.field-0-is at c.in-Ok-Some.ensures.stream)
    (omega (arith, c.in-Ok-Some.codestream.ok.0))
    (λ told front rest f e s. rw c.in-Ok-Some.field-0-is at (c.in-Ok-Some.ensures.complete told front rest f e s))
    (rw c.in-Ok-Some.field-0-is at c.in-Ok-Some.ensures.fault)

pub returns-in-Err-TooLarge : goal.returns-in-Err-TooLarge
returns-in-Err-TooLarge c =
    too_large_is c.args.bytes.now _ c.in-Ok.ensures (c.in-Err-TooLarge.ensures.endless c.in-Err-TooLarge.field-0-is)
    (λ told front rest f e s. not_so c.in-Err-TooLarge.field-0 c.in-Err-TooLarge.field-0-is (c.in-Err-TooLarge.ensures.complete told front rest f e s))
