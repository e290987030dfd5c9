use Rattle.mips_isa.proofs.Forms.{immediate_bits}
use Rattle.mips_isa.proofs.words.immediate_word.Goals as goal
use Rattle.std.proofs.Common.{arith}

pub returns : goal.returns
returns c =
    record {
      value =
          rw (c.from.ensures, c.from-2.ensures, c.from-3.ensures)
          (immediate_bits c.args.opcode c.args.rs c.args.rt c.args.imm c.requires.opcode_fits c.requires.rs_fits c.requires.rt_fits
          (omega arith));
    }
