use Rattle.std.proofs.Common.{◌≡◌, ◌*◌, sym, ap, ◌∙◌}
use Rattle.mips_isa.specs.Steps.{next_of, finish_of}
use Rattle.image_file.specs.Value.{ImageValue, memory_bytes}
use Rattle.access_log.specs.Items.{entries}
use Rattle.access_log.specs.Replay.{own}
use Rattle.right_run.specs.Stages.{found_by}
use Rattle.replayer.proofs.CourseLemmas.{none_left, goes_on, finds_on, stops_on, finds_none}
use Rattle.replayer.proofs.course.Course.next_instr.Goals as goal
use Rattle.replayer.proofs.course.Course.next_instr.Goals.{in-Stops, in-Goes, in-Asks+in-None, in-Asks+in-Some}

pub returns-then-self-eq0-clause-none : goal.returns-then-self-eq0-clause-none
returns-then-self-eq0-clause-none c =
    let image = c.self.inside.image.now in
    let olds = found_by (own (entries c.self.inside.items.now) c.self.inside.core) in
    sym c.self.view_is ∙ none_left image.code (memory_bytes image) c.self.inside.left c.self.inside.state olds c.if-self-eq0.true

pub returns-clause-some : goal.returns-clause-some
returns-clause-some c =
    let image : ImageValue = c.self.inside.image.now in
    let n = c.self.inside.left in
    let state = c.self.inside.state in
    let olds = found_by (own (entries c.self.inside.items.now) c.self.inside.core) in
    let code_is : c.deref.result.now ≡ image.code = c.deref.ensures.value ∙ ap (λ (i : ImageValue). i.code) c.image.view_is in
    let lines_is : c.image.inside.memory_lines ≡ image.memory_lines = ap (λ (i : ImageValue). i.memory_lines) c.image.view_is in
    let bytes = memory_bytes image in
    let some = c.if-self-eq0.false in
    let next = c.next-next.result in
    let next_is : next ≡ next_of image.code (memory_bytes image) state =
    c.next-next.ensures.value ∙ (ap (λ code. next_of code (8 * c.image.inside.memory_lines) state) code_is
    ∙ ap (λ lines. next_of image.code (8 * lines) state) lines_is) in
    sym c.self.view_is ∙ (elim c.match-next.branch [
      | in-Stops w ↦
          rw (c.instr_on-instr.ensures.value, w.self-inside-is, w.self-is)
          (stops_on image.code bytes n state state olds olds next w.in-Stops.field-0 some next_is w.in-Stops.is)
      | in-Goes w ↦
          rw (c.instr_on-instr.ensures.value, w.self-inside-is, w.self-is)
          (goes_on image.code bytes n state w.in-Goes.state olds next some next_is w.in-Goes.is)
      | in-Asks+in-None w ↦
          rw (c.instr_on-instr.ensures.value, w.self-inside-is, w.self-is)
          (finds_none image.code bytes n state state olds olds next w.in-Asks.field-0 some next_is w.in-Asks.is w.in-None.ensures.none)
      | in-Asks+in-Some w ↦
          (let behind = found_by (own (entries w.in-Some.behind.now) c.self.inside.core) in
          let finish_is : w.finish-self-inside.result ≡ finish_of image.code state w.in-Some.old =
          w.finish-self-inside.ensures.value
          ∙ ap (λ code. finish_of code state w.in-Some.old)
          (w.deref-in-Some.ensures.value ∙ ap (λ (i : ImageValue). i.code) c.image.view_is) in
          rw (c.instr_on-instr.ensures.value, w.self-inside-is, w.self-is, finish_is)
          (finds_on image.code bytes n state olds behind w.in-Some.old next w.in-Asks.field-0 some next_is w.in-Asks.is
          w.in-Some.ensures.some))
    ])
