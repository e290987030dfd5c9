-- In a replay each core executes by itself all that it is to execute.
use Rattle.std.proofs.Common.{◌≡◌, ℕ, ◌*◌, ◌<◌, List, length, ◌∙◌, sym, arith}
use Rattle.std.specs.Prelude.{Some, slice_get}
use Rattle.std.proofs.lemmas.Option.{slice_get_within}
use Rattle.std_laws.proofs.ListLaws.{slice_get_some}
use Rattle.image_file.specs.Value.{ImageValue, memory_bytes, start_memory, start_state, start_states}
use Rattle.image_file.proofs.StartLaws.{length-start_states, start_states-at}
use Rattle.access_log.specs.declared.Entry.{Entry}
use Rattle.access_log.specs.Replay.{FlatMachine, own, replay}
use Rattle.access_log.proofs.SplitLaws.{split}
use Rattle.right_run.specs.Stages.{executed_by}
use Rattle.replayer.proofs.CourseLemmas.{runs-all}

pub all_executed : (image : ImageValue) (cores : ℕ) (order : List Entry) (counts : List ℕ) (machine : FlatMachine)
    → 4 * length (start_memory image) ≡ memory_bytes image → length counts ≡ cores
    → replay image.code (start_memory image) (start_states image cores) order counts ≡ Some machine
    → (core n : ℕ) → slice_get counts core ≡ Some n → length (executed_by image core cores (own order core) n) ≡ n
all_executed image cores order counts machine bytes few run core n counted =
    let starts = length-start_states image cores in
    let runs = split image.code (start_memory image) (start_states image cores) order counts machine (few ∙ sym starts) run in
    let below : core < cores = omega (arith, slice_get_within counts core n counted, few) in
    let final = slice_get_some machine.cores core (omega (arith, below, starts, runs.finals_are)) in
    let alone = runs.alone core n (start_state image core cores) final.0 (start_states-at image cores core below) counted final.1 in
    rw bytes at (runs-all image.code (start_memory image) (start_state image core cores) order core n final.0 alone)
