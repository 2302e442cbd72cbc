use Rattle.std.proofs.Common.{arith}
use Rattle.sheet.proofs.Shown.{too_short, written}
use Rattle.sheet.proofs.sheets.Sheet.reply.Goals as goal

pub returns-then-saturating_sub-lt-REPLY : goal.returns-then-saturating_sub-lt-REPLY
returns-then-saturating_sub-lt-REPLY c =
    too_short c.args.self.now c.args.place c.args.buffer.now c.fault.result (omega arith) c.fault.ensures

pub returns : goal.returns
returns c = written c.args.self.now c.args.place c.args.buffer.now c.write_reply.new.bytes (omega arith) c.write_reply.ensures
