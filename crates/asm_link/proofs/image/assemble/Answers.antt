use Rattle.std.proofs.Common.{◌*◌, sym, subst, arith}
use Rattle.std.specs.List.{AllByRecursion}
use Rattle.image_file.specs.Value.{ImageValue, HasWords, IsGood}
use Rattle.asm_layout.specs.Labels.{labels_of}
use Rattle.asm_layout.proofs.RoomLaws.{code_fits}
use Rattle.asm_link.proofs.ImageLaws.{image_good, built, few_code, answers}
use Rattle.asm_link.proofs.image.assemble.Goals as goal

pub code_words-requires-clause-room : goal.code_words-requires-clause-room
code_words-requires-clause-room c = (code_fits (8 * c.from.result) c.args.statements.now c.in_ok-labels.ensures.layout.0).1

pub overflow_cast-len : goal.overflow_cast-len
overflow_cast-len c =
    let ss = c.args.statements.now in
    let layout = c.in_ok-labels.ensures.layout in
    omega (
      arith,
      c.len.ensures,
      few_code (8 * c.from.result) ss c.in_ok-code.code.items c.pad.new.code.items layout.0
          (c.in_ok-code.ensures.words (labels_of ss) layout.1) c.in_ok-pad.ensures.words,
    )

pub invariant_of-result : goal.invariant_of-result
invariant_of-result c =
    let ss = c.args.statements.now in
    let layout = c.in_ok-labels.ensures.layout in
    let is = built c.args.memory_lines ss c.in_ok-code.code.items c.pad.new.code.items c.in_ok-segments.segments.items (4 * c.len.result)
    (c.in_ok-code.ensures.words (labels_of ss) layout.1) c.in_ok-pad.ensures.words (omega (arith, c.len.ensures))
    (c.in_ok-segments.ensures.segments (labels_of ss) layout.1) in
    subst (λ (image : ImageValue). IsGood image) (sym is)
    (image_good c.args.memory_lines ss c.requires.some_lines c.requires.lines c.requires.proper c.requires.few
    (rw (← c.from.ensures) layout.0)
    (subst (λ (image : ImageValue). AllByRecursion HasWords image.segments) is c.in_ok-segments.ensures.fit))

pub returns : goal.returns
returns c =
    let ss = c.args.statements.now in
    let layout = c.in_ok-labels.ensures.layout in
    let is = built c.args.memory_lines ss c.in_ok-code.code.items c.pad.new.code.items c.in_ok-segments.segments.items (4 * c.len.result)
    (c.in_ok-code.ensures.words (labels_of ss) layout.1) c.in_ok-pad.ensures.words (omega (arith, c.len.ensures))
    (c.in_ok-segments.ensures.segments (labels_of ss) layout.1) in
    record { meaning = answers c.args.memory_lines ss _ (rw (← c.from.ensures) layout.0) is }
