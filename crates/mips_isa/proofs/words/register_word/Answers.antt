use Rattle.mips_isa.proofs.Forms.{register_bits}
use Rattle.mips_isa.proofs.words.register_word.Goals as goal

pub returns : goal.returns
returns c =
    record {
      value =
          rw (c.from.ensures, c.from-2.ensures, c.from-3.ensures, c.from-4.ensures)
          (register_bits c.args.opcode c.args.rs c.args.rt c.args.rd c.args.sa c.args.function c.requires.opcode_fits c.requires.rs_fits
          c.requires.rt_fits c.requires.rd_fits c.requires.sa_fits c.requires.function_fits);
    }
