use Rattle.std.proofs.Common.{◌++◌, ◌∷◌, [], ◌∙◌, ap, sym, append_assoc}
use Rattle.std.specs.Prelude.{Ok}
use Rattle.std.specs.List.{flat_map}
use Rattle.std.specs.Int.{w32, to_le_bytes}
use Rattle.std.proofs.lemmas.List.{append-nil}
use Rattle.std.proofs.lemmas.Result.{err_from_is_err_and}
use Rattle.kmp_base.proofs.StreamLaws.{writes_then, writes_stop, writes_as}
use Rattle.image_file.specs.Value.{image_bytes}
use Rattle.image_file.proofs.SpellingLaws.{bytes_more, bytes_around}
use Rattle.image_file.proofs.write.write_image.Goals as goal

pub loop-number-preserved : goal.loop-number-preserved
loop-number-preserved g c =
    let before = c.loop-number.invariant in
    let number = c.in-Some.number in
    let next = before.1 ∙ ap (λ left. before.0 ++ left) c.in-Some.ensures.some in (
      before.0 ++ number ∷ [],
      next ∙ sym (append_assoc before.0 (number ∷ []) c.next_number.new.self),
      writes_as {result = Ok tt} (bytes_more before.0 number _ c.to_le_bytes.ensures)
          (writes_then {result = Ok tt} before.2 c.in_ok-put.ensures.writes),
    )

pub returns-in_err-put : goal.returns-in_err-put
unfolding image_bytes
returns-in_err-put g c =
    let before = c.loop-number.invariant in
    let rest = c.next_number.new.self in
    let p = err_from_is_err_and c.from_residual.result c.from_residual.ensures.1 in
    let next = before.1 ∙ ap (λ left. before.0 ++ left) c.in-Some.ensures.some in
    let all = bytes_around before.0 rest c.in-Some.number _ c.to_le_bytes.ensures ∙ ap (flat_map (to_le_bytes w32)) (sym next) in
    rw p.1 (record {
      writes = writes_as all
          (writes_stop (flat_map (to_le_bytes w32) rest) (writes_then before.2 c.in_err-put.ensures.writes));
    })

pub returns : goal.returns
unfolding image_bytes
returns g c =
    let before = c.loop-number.invariant in
    let all = before.1 ∙ ap (λ left. before.0 ++ left) c.in_default.ensures.none.0 ∙ append-nil before.0 in
    record { writes = writes_as {result = Ok tt} (ap (flat_map (to_le_bytes w32)) (sym all)) before.2 }
