use Rattle.ls_recording.proofs.recording.record_named.Goals as goal

pub returns-in-Ok : goal.returns-in-Ok
returns-in-Ok g c = λ done.
    let recorded = c.record_opened.ensures done in
    record {
      devices = c.in-Ok.opened.devices.items;
      files = recorded.0;
      opened = c.in-Ok.ensures;
      recorded = recorded.1;
    }
