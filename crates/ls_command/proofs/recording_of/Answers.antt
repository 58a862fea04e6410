use Rattle.std.proofs.Common.{refl, sym}
use Rattle.ls_command.proofs.recording_of.Goals as goal

pub returns : goal.returns
returns c = (
  record {
    workers = c.in_ok-size_of.ensures;
    capacity = c.in_ok-size_of-2.ensures;
    window = c.in_ok-size_of-3.ensures;
    into = sym c.get_str.ensures;
    replace = (c.get_flag.ensures.none, c.get_flag.ensures.value, c.get_flag.ensures.other);
    progress = (c.get_flag-2.ensures.none, c.get_flag-2.ensures.value, c.get_flag-2.ensures.other);
    report = sym c.get_str-2.ensures;
    index = (c.get_flag-3.ensures.none, c.get_flag-3.ensures.value, c.get_flag-3.ensures.other);
    times = (c.get_flag-4.ensures.none, c.get_flag-4.ensures.value, c.get_flag-4.ensures.other);
    sync = c.in_ok-size_of-4.ensures;
    keep_open = (c.get_flag-5.ensures.none, c.get_flag-5.ensures.value, c.get_flag-5.ensures.other);
    count = c.count_of.ensures;
    seconds = c.size_of-5.ensures;
  },
  refl,
  refl,
  refl,
)
