-- What the source of a random workload means.
use Rattle.std.proofs.Common.{◌≡◌, ℕ, ◌≤◌, false, length, Ok, refl, arith}
use Rattle.std.specs.Prelude.{nat_lt}
use Rattle.std.proofs.lemmas.Bool.Decides.{nat_tests}
use Rattle.asm_link.specs.Assembly.{linked}
use Rattle.asm_link.proofs.ImageLaws.{answers}
use Rattle.kmp_words.specs.Input.{meaning_of}
use Rattle.kmp_words.specs.declared.input.Input.TheVariants.{Source}
use Rattle.workload_gen.specs.Source.{source_text}
use Rattle.workload_gen.proofs.SizeLaws.{source_within}
use Rattle.workload_image.specs.Drawn.{drawn_statements, drawn_program}
use Rattle.workload_image.proofs.BodiesLemmas.{laid_out}
use Rattle.workload_image.proofs.LinesLemmas.{source_read}

-- It is a program.
pub source_meant : (seed size : ℕ) → size ≤ 1000 → meaning_of (Source 8192) (source_text seed size) ≡ Ok (drawn_program seed size)
unfolding meaning_of
source_meant seed size fits =
    let ss = drawn_statements seed size in
    let short : nat_lt 1048576 (length (source_text seed size)) ≡ false =
    let within = source_within seed size fits in grind (arith, nat_tests) in
    rw (short, source_read seed size fits, answers 8192 ss (linked 8192 ss) (laid_out seed size fits) refl) refl
