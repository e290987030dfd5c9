use Rattle.std.proofs.Common.{inr, arith}
use Rattle.kmp_words.proofs.InputLemmas.{meaning_too_long}
use Rattle.kmp_words.proofs.input.load.Goals as goal

pub returns-in-Err-TooLong : goal.returns-in-Err-TooLong
returns-in-Err-TooLong g c =
    let read = rw (c.in-Err-TooLong.field-0-is, c.limit.ensures.value) at c.in-Err-TooLong.ensures.reads in
    rw c.limit-in-Err-TooLong.ensures.value (record {
      loads = record {
        bytes = read.bytes.0;
        reads = record { taken = read.bytes.1; all = inr (omega (arith, read.bytes.2)) };
        no_fault = read.cause;
        means = meaning_too_long c.args.input read.bytes.0 (omega (arith, read.bytes.2));
      };
    })
