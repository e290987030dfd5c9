use Rattle.std.proofs.Common.{arith}
use Rattle.mips_isa.proofs.Forms.{jump_bits}
use Rattle.mips_isa.proofs.effects.jump_target.Goals as goal

pub returns : goal.returns
returns c = record { value = jump_bits c.args.pc c.args.index (omega arith) c.requires.fits }
