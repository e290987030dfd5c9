use Rattle.std.proofs.Common.{◌≡◌, ◌<◌, ◌++◌, Some, length, take, drop, subst, sym, ap, ◌∙◌, arith}
use Rattle.std.specs.Prelude.{slice_get, slice_index_or}
use Rattle.std.proofs.Math.Seq.{take-append_seam}
use Rattle.std.proofs.lemmas.Option.{slice_get_within, slice_get-get_or, get_or_from_slice_get}
use Rattle.core_threads.specs.Workers.{IsReady, HasWorked}
use Rattle.core_threads.proofs.run.run_workers.Goals as goal

pub work_all-requires-clause-ready : goal.work_all-requires-clause-ready
work_all-requires-clause-ready g c κs within core d lt =
    let items = c.args.workers.now.items in
    let same : c.as_mut_slice.result.now ≡ items = c.as_mut_slice.ensures.value in
    let inside : core < length items = subst (λ l. core < length l) same lt in
    subst (λ l. IsReady g.E.CoreEngine.view c.args.turn.now c.args.budget core (slice_index_or l core d)) (sym same)
    (c.requires.ready core (slice_index_or items core d) (slice_get-get_or items core d inside))

pub returns-clause-worked : goal.returns-clause-worked
returns-clause-worked g c core w got =
    let items = c.args.workers.now.items in
    let new = c.work_all.new.workers in
    let same : c.as_mut_slice.result.now ≡ items = c.as_mut_slice.ensures.value in
    let count : length new ≡ length items = c.work_all.ensures.count ∙ ap length same in
    let rest = drop (length new) items in
    let whole = ap (λ n. take n (new ++ rest)) (c.args.workers.now.ok.0 ∙ sym count) ∙ take-append_seam new rest in
    let here : slice_get new core ≡ Some w = ap (λ l. slice_get l core) (sym whole) ∙ got in
    let inside : core < length items = omega (arith, slice_get_within new core w here, count) in
    let was = slice_index_or items core w in
    let W = HasWorked g.E.CoreEngine.view g.E.CoreEngine.timed c.args.turn.now c.args.budget core in
    let worked = c.work_all.ensures.worked core w (subst (λ l. core < length l) (sym same) inside) in (
      was,
      (
        slice_get-get_or items core w inside,
        subst (λ it. W was it) (get_or_from_slice_get new core w w here)
            (subst (λ l. W (slice_index_or l core w) (slice_index_or new core w)) same worked),
      ),
    )
