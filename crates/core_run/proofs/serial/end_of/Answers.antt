use Rattle.std.proofs.Common.{rules, arith}
use Rattle.core_run.proofs.serial.end_of.Goals as goal

pub returns-clause-state : goal.returns-clause-state
returns-clause-state g c = record { pc = omega arith; dpc = omega arith; registers = search rules; words = c.words_fit.ensures }
