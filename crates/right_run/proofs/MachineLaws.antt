-- What is right on one machine, part by part.
use Rattle.std.proofs.Common.{◌≡◌, ℕ, List, refl, sym, subst}
use Rattle.std.specs.Prelude.{Some, slice_get, map}
use Rattle.kmp_base.specs.declared.setup.Setup.{Setup}
use Rattle.kmp_base.specs.declared.setup.MachineKind.{MachineKind}
use Rattle.kmp_base.specs.declared.setup.MachineKind.TheVariants.{Plain, Pipe, Full}
use Rattle.kmp_base.specs.declared.setup.Turns.{Turns}
use Rattle.kmp_base.specs.declared.setup.Turns.TheVariants.{Threads}
use Rattle.image_file.specs.Value.{ImageValue, start_memory, start_states}
use Rattle.access_log.specs.declared.Entry.{Entry}
use Rattle.access_log.specs.Items.{entries}
use Rattle.access_log.specs.Replay.{replay}
use Rattle.timetable.specs.declared.rows.TimeRow.{TimeRow}
use Rattle.timetable.specs.declared.CoreEnd.{CoreEnd}
use Rattle.timetable.specs.Outcome.{OutcomeValue, final_of}
use Rattle.right_run.specs.Turns.{IsInTurnsOn, IsInTurns}
use Rattle.right_run.specs.Right.{EndsOn, FollowsOn, IsRight}

pub record IsRightOn (machine : MachineKind) (setup : Setup) (image : ImageValue) (outcome : OutcomeValue) : Type 0 where
  pub replays : replay image.code (start_memory image) (start_states image setup.cores) (entries outcome.items)
      (map (λ (ended : CoreEnd). ended.retired) outcome.cores)
      ≡ Some (record { code = image.code; cores = map final_of outcome.cores; memory = outcome.words })
  pub ends : (core : ℕ) (ended : CoreEnd) → slice_get outcome.cores core ≡ Some ended → EndsOn machine setup image outcome core ended
  pub follows : FollowsOn machine setup image outcome.items

module _ (machine : MachineKind) (setup : Setup) (image : ImageValue) (outcome : OutcomeValue) (is : setup.machine ≡ machine) where
  pub right-on : IsRight setup image outcome → IsRightOn machine setup image outcome
  right-on right = record {
    replays = right.replays;
    ends = λ core ended here. subst (λ (m : MachineKind). EndsOn m setup image outcome core ended) is (right.ends core ended here);
    follows = subst (λ (m : MachineKind). FollowsOn m setup image outcome.items) is right.follows;
  }

  pub right-from : IsRightOn machine setup image outcome → IsRight setup image outcome
  right-from right = record {
    replays = right.replays;
    ends = λ core ended here. subst (λ (m : MachineKind). EndsOn m setup image outcome core ended) (sym is) (right.ends core ended here);
    follows = subst (λ (m : MachineKind). FollowsOn m setup image outcome.items) (sym is) right.follows;
  }

-- The order of accesses by a machine and by turns.
pub in-turns : (machine : MachineKind) (turns : Turns) (setup : Setup) (cycles : List ℕ) (tables : List (List TimeRow)) (order : List Entry)
    → setup.machine ≡ machine → setup.turns ≡ turns → IsInTurnsOn machine turns setup.seed cycles tables order
    → IsInTurns setup cycles tables order
in-turns machine turns setup cycles tables order is turns_are h =
    subst (λ (m : MachineKind). IsInTurnsOn m setup.turns setup.seed cycles tables order) (sym is)
    (subst (λ (t : Turns). IsInTurnsOn machine t setup.seed cycles tables order) (sym turns_are) h)

-- Of cores on threads no order is told.
any-order : (machine : MachineKind) (seed : ℕ) (cycles : List ℕ) (tables : List (List TimeRow)) (order : List Entry)
    → IsInTurnsOn machine Threads seed cycles tables order
any-order Plain seed cycles tables order = tt
any-order Pipe seed cycles tables order = tt
any-order Full seed cycles tables order = tt

pub in-threads : (setup : Setup) (cycles : List ℕ) (tables : List (List TimeRow)) (order : List Entry) → setup.turns ≡ Threads
    → IsInTurns setup cycles tables order
in-threads setup cycles tables order threads =
    in-turns setup.machine Threads setup cycles tables order refl threads (any-order setup.machine setup.seed cycles tables order)
