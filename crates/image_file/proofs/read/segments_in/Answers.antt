use Rattle.std.proofs.Common.{rules, ◌≡◌, ◌+◌, ◌-◌, ◌*◌, arith}
use Rattle.std.proofs.lemmas.Result.{err_from_is_err_and}
use Rattle.image_file.specs.Reading.{segments_in, end_of}
use Rattle.image_file.proofs.ReadingLemmas.{segments_go_on, segments_end, segments_done}
use Rattle.image_file.proofs.read.segments_in.Goals as goal

pub returns-in_err-segment : goal.returns-in_err-segment
returns-in_err-segment c =
    let p = err_from_is_err_and c.from_residual.result c.from_residual.ensures.1 in
    let ends = segments_end c.args.memory c.loop.end c.loop.segments.items (c.args.count - c.loop.counter)
    (c.args.count - (c.loop.counter + 1)) c.loop.rest.now (segments_in c.args.memory c.args.end c.args.count c.args.bytes.now)
    (omega arith) c.loop.invariant c.in_err-segment.field-0.0 c.in_err-segment.ensures.value in
    rw (p.1, p.2) (record { value = ends })

pub loop-preserved : goal.loop-preserved
loop-preserved c =
    let all = segments_go_on c.args.memory c.loop.end c.loop.segments.items (c.args.count - c.loop.counter)
    (c.args.count - (c.loop.counter + 1)) c.loop.rest.now (segments_in c.args.memory c.args.end c.args.count c.args.bytes.now)
    (omega arith) c.loop.invariant c.in_ok-segment.segment c.in_ok-segment.behind.now c.in_ok-segment.ensures.value in
    let end : c.segment.inside.start + 4 * c.len.result ≡ end_of c.in_ok-segment.segment = search rules in
    rw (c.in_ok-push.ensures.items, end) all

pub returns : goal.returns
returns c =
    record {
      value = segments_done c.args.memory c.loop.end c.loop.segments.items (c.args.count - c.loop.counter) c.loop.rest.now
          (segments_in c.args.memory c.args.end c.args.count c.args.bytes.now) (omega arith) c.loop.invariant;
    }
