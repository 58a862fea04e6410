use Rattle.std.proofs.Common.{◌≡◌, ◌-◌, ◌^◌, min, length, take}
use Rattle.std.specs.Io.KnownBytes.{Appends}
use Rattle.ls_replay.specs.ReplyLines.{reply_lines}
use Rattle.ls_replay.proofs.replies.print_replies.Given as goal

-- the lines so far were written
abbrev pub invariant-loop-reply : goal.invariant-loop-reply
invariant-loop-reply g l = record {
  wrote : Appends (g.W.Write.contents l.fn.writer) (g.W.Write.contents l.writer) (reply_lines (take l.reply-index l.replies));
  written : l.written ≡ min (length (reply_lines (take l.reply-index l.replies))) (2 ^ 64 - 1);
  failures : g.W.Outlet.failed_writes l.writer ≡ g.W.Outlet.failed_writes l.fn.writer;
}
