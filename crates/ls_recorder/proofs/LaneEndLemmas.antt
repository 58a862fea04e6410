-- How a lane ends, from how its two halves ended.
use Rattle.std.proofs.Common.{◌≡◌, ℕ, ◌≤◌, inl, inr, Bool, true, false, List, [], length, ◌⊎◌, Option, refl, sym, ap, subst, ◌∙◌, arith, IsTrue}
use Rattle.std.specs.Prelude.{Result, Ok, Err, MatchResult, IfOk, IfErr}
use Rattle.std.specs.Io.KnownBytes.{Appends}
use Rattle.std.proofs.KnownBytes.{Appends-nil}
use Rattle.ls_frame.specs.declared.tuning.Tuning.{Tuning}
use Rattle.ls_frame.specs.Picture.{IsFrame}
use Rattle.ls_frame.specs.Netpbm.{IsImageOf}
use Rattle.ls_frame.specs.Faults.{IsBroken, blames_bytes}
use Rattle.ls_frame.specs.View.Devices.{count_after, risen}
use Rattle.ls_frame.specs.View.Known.{WasAtEnd}
use Rattle.ls_film.specs.Film.{most_frames}
use Rattle.ls_film.specs.Coding.{file}
use Rattle.ls_film.proofs.FilmLemmas.{GaveFrames-more, GaveFilm-end, IsBrokenAfter-next, BeginsWithFrames-gave, all-more}
use Rattle.ls_pieces.specs.Orders.{Ordered}
use Rattle.ls_recorder.specs.declared.lane.LaneFault.{LaneFault}
use Rattle.ls_recorder.specs.declared.lane.LaneFault.TheVariants.{Input, Output, NoMemory, Misfit, Lost, NotStarted, TooMany, Tuning as BadTuning}
use Rattle.ls_recorder.specs.View.Lanes.{tuned_file, WroteFront, WroteButWindow, StopsWriting, StopsReading, Records, HasPut, StopsLane, ReadsSo, blames_reader, blames_writer, failed_reader, failed_writer, WasNotStarted}
use Rattle.ls_recorder.specs.View.Halves.{HasRead, HasReadAll, HasReadSome}
use Rattle.ls_recorder.proofs.ReadingLemmas.{HasRead-none, lawful-frames, count-put}
use Rattle.std.proofs.lemmas.List.{take_all}

module _ (tuning : Tuning) (items : List Ordered) (read mid : Option (List ℕ)) (n : ℕ) where
  HasPut-read : (read' written written' : Option (List ℕ)) → HasRead tuning items read mid n → n ≤ most_frames → HasPut tuning items read read' written written'
  HasPut-read read' written written' run few = record {
    frames = run.frames;
    few = omega (arith, run.count, few);
    begins = BeginsWithFrames-gave IsImageOf read mid run.frames run.gave;
    put = run.put;
  }

  wrote-tuned : (start now : Option (List ℕ)) (run : HasRead tuning items read mid n) → Appends start now (file items) → Appends start now (tuned_file tuning run.frames)
  wrote-tuned start now run wrote = subst (λ l. Appends start now (file l)) run.put.0 wrote

  wrote-front : (start now : Option (List ℕ)) → Appends start now (file items) → WroteFront items start now
  wrote-front start now wrote = record {
    count = length items;
    front = omega arith;
    wrote = subst (λ l. Appends start now (file l)) (sym (take_all (length items) items (omega arith))) wrote;
  }

  -- the end of the input
  records-all : (new start now : Option (List ℕ)) → HasRead tuning items read mid n → n ≤ most_frames → WasAtEnd mid new → Appends start now (file items)
      → Records tuning items read new start now n
  records-all new start now run few end wrote = record {
    run = record {
      frames = run.frames;
      count = run.count;
      few = omega (arith, run.count, few);
      lawful = lawful-frames tuning run.frames run.put.1;
      gave = GaveFilm-end IsImageOf read mid new run.frames run.gave end;
      wrote = wrote-tuned start now run wrote;
    };
    put = run.put;
  }

  -- writing stopped
  stops-writing : (new start now : Option (List ℕ)) (fault : LaneFault) → HasRead tuning items read mid n → n ≤ most_frames → StopsWriting items start now fault
      → StopsLane tuning items read new start now fault
  stops-writing new start now (Input m fault) run few why = absurd why
  stops-writing new start now (Output bytes) run few why = (HasPut-read new start now run few, why)
  stops-writing new start now NoMemory run few why = (HasPut-read new start now run few, why)
  stops-writing new start now (Misfit misfit) run few why = (HasPut-read new start now run few, why.0, why.1)
  stops-writing new start now Lost run few why = (HasPut-read new start now run few, why)
  stops-writing new start now NotStarted run few why = absurd why
  stops-writing new start now TooMany run few why = (let size = count-put tuning items read mid n run in absurd (omega arith))
  stops-writing new start now (BadTuning m fault) run few why = absurd why

  -- reading stopped at the next frame, and all before it was written
  stops-reading : (new start now : Option (List ℕ)) (fault : LaneFault) → HasRead tuning items read mid n → n ≤ most_frames → StopsReading tuning mid new n fault
      → Appends start now (file items) → StopsLane tuning items read new start now fault
  stops-reading new start now (Input m fault) run few why wrote = record {
    run = record {
      frames = run.frames;
      count = run.count ∙ sym why.0;
      few = omega (arith, run.count, few);
      lawful = lawful-frames tuning run.frames run.put.1;
      begins = BeginsWithFrames-gave IsImageOf read mid run.frames run.gave;
      broken = IsBrokenAfter-next IsImageOf read mid run.frames (λ rest. IsTrue (blames_bytes fault) → IsBroken rest fault) run.gave (λ told blamed. why.2 blamed told);
      wrote = wrote-tuned start now run wrote;
    };
    put = run.put;
    known = why.1;
  }
  stops-reading new start now (Output count) run few why wrote = absurd why
  stops-reading new start now NoMemory run few why wrote = (HasPut-read new start now run few, wrote-front start now wrote)
  stops-reading new start now (Misfit misfit) run few why wrote = absurd why
  stops-reading new start now Lost run few why wrote = absurd why
  stops-reading new start now NotStarted run few why wrote = absurd why
  stops-reading new start now TooMany run few why wrote = record {
    run = record {
      frames = run.frames;
      last = why.1;
      count = run.count ∙ why.0;
      lawful = all-more IsFrame run.frames why.1 (lawful-frames tuning run.frames run.put.1) why.2;
      gave = GaveFrames-more IsImageOf read mid new run.frames why.1 run.gave why.3;
      wrote = wrote-tuned start now run wrote;
    };
    put = run.put;
  }
  stops-reading new start now (BadTuning m fault) run few why wrote = record {
    frames = run.frames;
    last = why.2;
    count = run.count ∙ sym why.0;
    few = omega (arith, run.count, why.1);
    gave = GaveFrames-more IsImageOf read mid new run.frames why.2 run.gave why.3;
    fault_is = why.4;
    put = run.put;
    wrote = wrote-tuned start now run wrote;
  }

  -- an allocation of the reading half failed
  stops-memory : (new start now : Option (List ℕ)) (fault : LaneFault) → HasRead tuning items read mid n → n ≤ most_frames → fault ≡ NoMemory → Appends start now (file items)
      → StopsLane tuning items read new start now fault
  stops-memory new start now fault run few is wrote = rw is (HasPut-read new start now run few, wrote-front start now wrote)

-- ---- devices

none-or-one : (b : Bool) (old new : ℕ) → new ≡ count_after b old → (new ≡ old) ⊎ (new ≡ risen old)
none-or-one true old new is = inr is
none-or-one false old new is = inl is

reads-reading : (tuning : Tuning) (read read' : Option (List ℕ)) (n : ℕ) (fault : LaneFault) (old new : ℕ) → StopsReading tuning read read' n fault → new ≡ count_after (blames_reader fault) old
    → ReadsSo fault old new
reads-reading tuning read read' n (Input m fault) old new why is = is
reads-reading tuning read read' n (Output bytes) old new why is = absurd why
reads-reading tuning read read' n NoMemory old new why is = inl is
reads-reading tuning read read' n (Misfit misfit) old new why is = absurd why
reads-reading tuning read read' n Lost old new why is = absurd why
reads-reading tuning read read' n NotStarted old new why is = absurd why
reads-reading tuning read read' n TooMany old new why is = is
reads-reading tuning read read' n (BadTuning m fault) old new why is = is

reads-memory : (fault : LaneFault) (old new : ℕ) → fault ≡ NoMemory → new ≡ count_after (blames_reader fault) old → ReadsSo fault old new
reads-memory (Input m fault) old new why is = let clash : ⊥ = cc in absurd clash
reads-memory (Output bytes) old new why is = let clash : ⊥ = cc in absurd clash
reads-memory NoMemory old new why is = inl is
reads-memory (Misfit misfit) old new why is = let clash : ⊥ = cc in absurd clash
reads-memory Lost old new why is = let clash : ⊥ = cc in absurd clash
reads-memory NotStarted old new why is = let clash : ⊥ = cc in absurd clash
reads-memory TooMany old new why is = let clash : ⊥ = cc in absurd clash
reads-memory (BadTuning m fault) old new why is = let clash : ⊥ = cc in absurd clash

-- writing stopped, after a read that may have failed
reads-writing : (items : List Ordered) (start now : Option (List ℕ)) (fault : LaneFault) (b : Bool) (old new : ℕ) → StopsWriting items start now fault → length items ≤ most_frames
    → new ≡ count_after b old → ReadsSo fault old new
reads-writing items start now (Input m fault) b old new why few is = absurd why
reads-writing items start now (Output bytes) b old new why few is = none-or-one b old new is
reads-writing items start now NoMemory b old new why few is = none-or-one b old new is
reads-writing items start now (Misfit misfit) b old new why few is = none-or-one b old new is
reads-writing items start now Lost b old new why few is = none-or-one b old new is
reads-writing items start now NotStarted b old new why few is = absurd why
reads-writing items start now TooMany b old new why few is = absurd (omega arith)
reads-writing items start now (BadTuning m fault) b old new why few is = absurd why

not-writer : (tuning : Tuning) (read read' : Option (List ℕ)) (n : ℕ) (fault : LaneFault) → StopsReading tuning read read' n fault → blames_writer fault ≡ false
not-writer tuning read read' n (Input m fault) why = refl
not-writer tuning read read' n (Output bytes) why = absurd why
not-writer tuning read read' n NoMemory why = refl
not-writer tuning read read' n (Misfit misfit) why = absurd why
not-writer tuning read read' n Lost why = absurd why
not-writer tuning read read' n NotStarted why = absurd why
not-writer tuning read read' n TooMany why = refl
not-writer tuning read read' n (BadTuning m fault) why = refl

-- ---- both halves

module _ {R W : Type 0} (remaining : R → Option (List ℕ)) (failed_reads : R → ℕ) (contents : W → Option (List ℕ)) (failed_writes : W → ℕ)
    (tuning : Tuning) (items : List Ordered) (reader reader' : R) (writer writer' : W) where
  -- what a lane promises of its end
  pub record Ends (result : Result ℕ LaneFault) : Type 0 where
    pub completes : IfOk result (Records tuning items (remaining reader) (remaining reader') (contents writer) (contents writer'))
    pub stops : IfErr result (λ fault. WasNotStarted items reader reader' writer writer' fault
        ⊎ StopsLane tuning items (remaining reader) (remaining reader') (contents writer) (contents writer') fault)
    pub reads : MatchResult result (λ n. failed_reads reader' ≡ failed_reads reader) (λ fault. ReadsSo fault (failed_reads reader) (failed_reads reader'))
    pub writes : failed_writes writer' ≡ count_after (failed_writer result) (failed_writes writer)

  -- what the reading half promises of its end
  abbrev pub ReadSo : Result ℕ LaneFault → Type 0
  ReadSo read = MatchResult read
      (HasReadAll tuning items (remaining reader) (remaining reader'))
      (λ fault. ((fault ≡ NotStarted) × (items ≡ []) × (reader' ≡ reader)) ⊎ HasReadSome tuning items (remaining reader) (remaining reader') fault)

  -- all that was put was written
  pub ends-read : (read : Result ℕ LaneFault) → ReadSo read → failed_reads reader' ≡ count_after (failed_reader read) (failed_reads reader)
      → Appends (contents writer) (contents writer') (file items) → failed_writes writer' ≡ failed_writes writer → (length items ≡ 0 → writer' ≡ writer) → Ends read
  ends-read (Ok n) all reads wrote writes same = record {
    completes = records-all tuning items (remaining reader) all.before n (remaining reader') (contents writer) (contents writer') all.run all.few all.end wrote;
    stops = tt;
    reads = reads;
    writes = writes;
  }
  ends-read (Err fault) (inl none) reads wrote writes same = record {
    completes = tt;
    stops = inl (none.0, none.1, none.2, same (ap length none.1));
    reads = rw none.0 (ap failed_reads none.2);
    writes = rw none.0 writes;
  }
  ends-read (Err fault) (inr some) reads wrote writes same = elim some.why [
    | inl why ↦ record {
      completes = tt;
      stops = inr (stops-reading tuning items (remaining reader) some.before some.n (remaining reader') (contents writer) (contents writer') fault some.run some.few why wrote);
      reads = reads-reading tuning some.before (remaining reader') some.n fault (failed_reads reader) (failed_reads reader') why reads;
      writes = rw (not-writer tuning some.before (remaining reader') some.n fault why) writes;
    }
    | inr why ↦ record {
      completes = tt;
      stops = inr (stops-memory tuning items (remaining reader) some.before some.n (remaining reader') (contents writer) (contents writer') fault some.run some.few why wrote);
      reads = reads-memory fault (failed_reads reader) (failed_reads reader') why reads;
      writes = rw why writes;
    }
  ]

  -- some frames were read and put, however the reading ended
  read-before : (read : Result ℕ LaneFault) → ReadSo read → (n : ℕ) × (before : Option (List ℕ)) × HasRead tuning items (remaining reader) before n × (n ≤ most_frames)
  read-before (Ok n) all = (n, all.before, all.run, all.few)
  read-before (Err fault) (inl none) = (0, remaining reader, HasRead-none tuning items (remaining reader) none.1, omega arith)
  read-before (Err fault) (inr some) = (some.n, some.before, some.run, some.few)

  -- writing stopped
  pub ends-stopped : (read : Result ℕ LaneFault) (fault : LaneFault) → ReadSo read → failed_reads reader' ≡ count_after (failed_reader read) (failed_reads reader)
      → StopsWriting items (contents writer) (contents writer') fault → failed_writes writer' ≡ count_after (blames_writer fault) (failed_writes writer) → Ends (Err fault)
  ends-stopped read fault so reads why writes =
      let all = read-before read so in
      let size = count-put tuning items (remaining reader) all.1 all.0 all.2 in
      record {
        completes = tt;
        stops = inr (stops-writing tuning items (remaining reader) all.1 all.0 (remaining reader') (contents writer) (contents writer') fault all.2 all.3 why);
        reads = reads-writing items (contents writer) (contents writer') fault (failed_reader read) (failed_reads reader) (failed_reads reader') why (omega (arith, size, all.3)) reads;
        writes = writes;
      }

  -- both halves have ended
  pub ends-both : {U : Type 0} (read : Result ℕ LaneFault) (wrote : Result U LaneFault) (result : Result ℕ LaneFault) → MatchResult wrote (λ _. result ≡ read) (λ fault. result ≡ Err fault)
      → ReadSo read → failed_reads reader' ≡ count_after (failed_reader read) (failed_reads reader)
      → MatchResult wrote (λ _. Appends (contents writer) (contents writer') (file items)) (StopsWriting items (contents writer) (contents writer'))
      → failed_writes writer' ≡ count_after (failed_writer wrote) (failed_writes writer) → (length items ≡ 0 → writer' ≡ writer) → Ends result
  ends-both read (Ok u) result is so reads why writes same = subst Ends (sym is) (ends-read read so reads why writes same)
  ends-both read (Err fault) result is so reads why writes same = subst Ends (sym is) (ends-stopped read fault so reads why writes)

-- an allocation failed before anything was read, put or written
pub begins-without-memory : (tuning : Tuning) (items : List Ordered) (read written : Option (List ℕ)) → items ≡ [] → StopsLane tuning items read read written written NoMemory
begins-without-memory tuning items read written none = (
  HasPut-read tuning items read read 0 read written written (HasRead-none tuning items read none) (omega arith),
  record { count = 0; front = omega arith; wrote = Appends-nil written },
)

pub begins-with-window : (items : List Ordered) (window : ℕ) (start : Option (List ℕ)) → items ≡ [] → WroteButWindow items start start window
begins-with-window items window start none = record {
  count = 0;
  within = omega (arith, ap length none);
  wrote = record { few = omega arith; rest = []; wrote = Appends-nil start };
}
