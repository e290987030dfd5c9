use Rattle.std.proofs.Common.{take, drop, sym, take-append-drop}
use Rattle.kmp_base.proofs.transfer.put.Goals as goal

pub returns-then-put_front-bytes-clause-writes : goal.returns-then-put_front-bytes-clause-writes
returns-then-put_front-bytes-clause-writes g c =
    let front = c.put_front.result in
    let bytes = c.args.bytes.now in record {
      whole = tt;
      no_fault = tt;
      part = (take front bytes, drop front bytes, sym (take-append-drop front bytes), c.put_front.ensures.appended);
      cause = c.put_front.ensures.cause c.if-put_front-bytes.true;
      later = c.put_front.ensures.later;
    }
