use Rattle.workload_image.proofs.BodiesLemmas.{laid_out}
use Rattle.workload_image.proofs.LinesLemmas.{source_read}
use Rattle.workload_image.proofs.ProgramLaws.{source_meant}
use Rattle.workload_image.proofs.laws.drawn_sources_are_programs.Goals as goal

pub returns : goal.returns
returns c = record { law = record { read = source_read; laid_out = laid_out; meant = source_meant } }
