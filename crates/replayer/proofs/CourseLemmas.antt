-- The course of a core by itself: an instruction more, and how far it goes where the core made its accesses.
use Rattle.std.proofs.Common.{◌≡◌, ◌≢◌, ℕ, zero, suc, ◌+◌, ◌-◌, ◌*◌, ◌≤◌, List, [], ◌∷◌, length, refl, sym, ap, ◌∙◌, arith}
use Rattle.std.specs.Prelude.{Option, Some, None}
use Rattle.std.specs.Option.{option_and_then}
use Rattle.std.proofs.lemmas.Option.{none-some, same_Some}
use Rattle.std_laws.proofs.OptionLaws.{option_and_then_parts, cond_some_parts}
use Rattle.mips_isa.specs.declared.Instr.{Instr}
use Rattle.mips_isa.specs.declared.CoreState.{CoreState}
use Rattle.mips_isa.specs.declared.Access.{Access}
use Rattle.mips_isa.specs.declared.Stop.{Stop}
use Rattle.mips_isa.specs.declared.Next.{Next}
use Rattle.mips_isa.specs.declared.Next.TheVariants.{Stops, Asks, Goes}
use Rattle.mips_isa.specs.Steps.{next_of, finish_of}
use Rattle.access_log.specs.declared.Core.{Core}
use Rattle.access_log.specs.declared.Entry.{Entry}
use Rattle.access_log.specs.Memory.{made, is_same}
use Rattle.access_log.specs.Replay.{quiet, quiet_steps, finished, caught_up, own, own_by, own_step, own_steps, starting}
use Rattle.access_log.specs.Interleaving.{RunsAlone}
use Rattle.access_log.proofs.ReplayLaws.{CaughtUp-from}
use Rattle.timetable.specs.Trace.{Walk, walk_by, walks, instr_on, trace}
use Rattle.right_run.specs.Stages.{found_by}

module _ (code : List ℕ) (bytes : ℕ) where
  -- Where a core stands behind what comes next.
  abbrev step : CoreState → List ℕ → Option Walk
  step s olds = walk_by code s olds (next_of code bytes s)

  -- So many instructions from there on, and where they lead.
  abbrev behind : ℕ → Option Walk → List (Option Instr)
  behind n None = []
  behind n (Some w) = trace code bytes n w.state w.olds

  abbrev and_walks : ℕ → Option Walk → Option Walk
  and_walks n o = option_and_then (λ (w : Walk). walks code bytes n w.state w.olds) o

  trace-zero : (s : CoreState) (olds : List ℕ) → trace code bytes zero s olds ≡ []
  unfolding trace
  trace-zero s olds = refl

  trace-suc : (n : ℕ) (s : CoreState) (olds : List ℕ) → trace code bytes (suc n) s olds ≡ instr_on code s.dpc ∷ behind n (step s olds)
  unfolding trace
  trace-suc n s olds = refl

  walks-zero : (s : CoreState) (olds : List ℕ) → walks code bytes zero s olds ≡ Some (record { state = s; olds = olds })
  unfolding walks
  walks-zero s olds = refl

  walks-suc : (n : ℕ) (s : CoreState) (olds : List ℕ) → walks code bytes (suc n) s olds ≡ and_walks n (step s olds)
  unfolding walks
  walks-suc n s olds = refl

  -- ---- an instruction more

  -- there are no more than so many
  few_behind : (n : ℕ) (o : Option Walk) → ((w : Walk) → length (trace code bytes n w.state w.olds) ≤ n) → length (behind n o) ≤ n
  few_behind n None few = omega arith
  few_behind n (Some w) few = few w

  pub few_instrs : (n : ℕ) (s : CoreState) (olds : List ℕ) → length (trace code bytes n s olds) ≤ n
  few_instrs zero s olds = rw (trace-zero s olds) (omega arith)
  few_instrs (suc n) s olds =
      rw (trace-suc n s olds) (omega (arith, few_behind n (step s olds) (λ w. few_instrs n w.state w.olds)))

  pub none_left : (n : ℕ) (s : CoreState) (olds : List ℕ) → n ≡ 0 → trace code bytes n s olds ≡ []
  none_left zero s olds is = trace-zero s olds
  none_left (suc n) s olds is = absurd (omega (arith, is))

  -- the next one, and those behind it
  next_left : (n : ℕ) (s : CoreState) (olds : List ℕ) (next : Next) → n ≢ 0 → next ≡ next_of code bytes s
      → trace code bytes n s olds ≡ instr_on code s.dpc ∷ behind (n - 1) (walk_by code s olds next)
  next_left n s olds next some is =
      let one : n ≡ suc (n - 1) = omega (arith, some) in
      ap (λ n. trace code bytes n s olds) one ∙ trace-suc (n - 1) s olds
      ∙ ap (λ next. instr_on code s.dpc ∷ behind (n - 1) (walk_by code s olds next)) (sym is)

  pub goes_on : (n : ℕ) (s t : CoreState) (olds : List ℕ) (next : Next) → n ≢ 0 → next ≡ next_of code bytes s → next ≡ Goes t
      → trace code bytes n s olds ≡ instr_on code s.dpc ∷ trace code bytes (n - 1) t olds
  goes_on n s t olds next some is goes =
      next_left n s olds next some is ∙ ap (λ next. instr_on code s.dpc ∷ behind (n - 1) (walk_by code s olds next)) goes

  pub finds_on : (n : ℕ) (s : CoreState) (olds more : List ℕ) (old : ℕ) (next : Next) (access : Access) → n ≢ 0
      → next ≡ next_of code bytes s → next ≡ Asks access → olds ≡ old ∷ more
      → trace code bytes n s olds ≡ instr_on code s.dpc ∷ trace code bytes (n - 1) (finish_of code s old) more
  finds_on n s olds more old next access some is asks found =
      next_left n s olds next some is
      ∙ (ap (λ next. instr_on code s.dpc ∷ behind (n - 1) (walk_by code s olds next)) asks
      ∙ ap (λ olds. instr_on code s.dpc ∷ behind (n - 1) (walk_by code s olds (Asks access))) found)

  -- the last one, where the core stops, or has nothing to find
  pub stops_on : (n : ℕ) (s t : CoreState) (olds others : List ℕ) (next : Next) (stop : Stop) → n ≢ 0 → next ≡ next_of code bytes s
      → next ≡ Stops stop
      → trace code bytes n s olds ≡ instr_on code s.dpc ∷ trace code bytes 0 t others
  stops_on n s t olds others next stop some is stops =
      next_left n s olds next some is
      ∙ (ap (λ next. instr_on code s.dpc ∷ behind (n - 1) (walk_by code s olds next)) stops
      ∙ ap (λ l. instr_on code s.dpc ∷ l) (sym (trace-zero t others)))

  pub finds_none : (n : ℕ) (s t : CoreState) (olds others : List ℕ) (next : Next) (access : Access) → n ≢ 0 → next ≡ next_of code bytes s
      → next ≡ Asks access → olds ≡ []
      → trace code bytes n s olds ≡ instr_on code s.dpc ∷ trace code bytes 0 t others
  finds_none n s t olds others next access some is asks none =
      next_left n s olds next some is
      ∙ (ap (λ next. instr_on code s.dpc ∷ behind (n - 1) (walk_by code s olds next)) asks
      ∙ (ap (λ olds. instr_on code s.dpc ∷ behind (n - 1) (walk_by code s olds (Asks access))) none
      ∙ ap (λ l. instr_on code s.dpc ∷ l) (sym (trace-zero t others))))

  -- ---- how far it goes

  walks-add : (m n : ℕ) (s : CoreState) (olds : List ℕ) (w : Walk) → walks code bytes m s olds ≡ Some w
      → walks code bytes (m + n) s olds ≡ walks code bytes n w.state w.olds
  walks-add zero n s olds w e =
      let e0 : 0 + n ≡ n = omega arith in
      let is : record { state = s; olds = olds } ≡ w = same_Some (record { state = s; olds = olds }) w (sym (walks-zero s olds) ∙ e) in
      ap (λ n. walks code bytes n s olds) e0 ∙ ap (λ (v : Walk). walks code bytes n v.state v.olds) is
  walks-add (suc m) n s olds w e =
      let first = option_and_then_parts (λ (v : Walk). walks code bytes m v.state v.olds) (step s olds) w (sym (walks-suc m s olds) ∙ e) in
      let e1 : suc m + n ≡ suc (m + n) = omega arith in
      ap (λ n. walks code bytes n s olds) e1 ∙ walks-suc (m + n) s olds ∙ ap (and_walks (m + n)) first.1
      ∙ walks-add m n first.0.state first.0.olds w first.2

  quiet-walks : (n : ℕ) (s t : CoreState) (olds : List ℕ) → quiet_steps code bytes n s ≡ Some t
      → walks code bytes n s olds ≡ Some (record { state = t; olds = olds })
  unfolding quiet_steps
  quiet-walks zero s t olds e = walks-zero s olds ∙ ap (λ (s : CoreState). Some (record { state = s; olds = olds })) (same_Some s t e)
  quiet-walks (suc n) s t olds e =
      let first = option_and_then_parts (quiet_steps code bytes n) (quiet (next_of code bytes s)) t e in
      let goes : walk_by code s olds (next_of code bytes s) ≡ Some (record { state = first.0; olds = olds }) =
      quiet-walk s first.0 olds (next_of code bytes s) first.1 in
      walks-suc n s olds ∙ ap (and_walks n) goes ∙ quiet-walks n first.0 t olds first.2
    where
      quiet-walk : (s t : CoreState) (olds : List ℕ) (next : Next) → quiet next ≡ Some t
          → walk_by code s olds next ≡ Some (record { state = t; olds = olds })
      quiet-walk s t olds (Goes state) e = ap (λ (s : CoreState). Some (record { state = s; olds = olds })) (same_Some state t e)
      quiet-walk s t olds (Asks access) e = absurd (none-some t e)
      quiet-walk s t olds (Stops stop) e = absurd (none-some t e)

  -- the core from there on, by what its accesses found
  pub record GoesTo (s : CoreState) (olds : List ℕ) (from to : ℕ) (t : CoreState) : Type 0 where
    pub count : ℕ
    pub executed : to ≡ from + count
    pub walked : walks code bytes count s olds ≡ Some (record { state = t; olds = [] })

  asks-walk : (entry : Entry) (core new : Core) (more : List ℕ) (next : Next) → own_by code entry core next ≡ Some new
      → (walk_by code core.state (entry.old ∷ more) next ≡ Some (record { state = new.state; olds = more }))
      × (new.executed ≡ core.executed + 1)
  asks-walk entry core new more (Stops stop) e = absurd (none-some new e)
  asks-walk entry core new more (Goes state) e = absurd (none-some new e)
  asks-walk entry core new more (Asks access) e =
      let due = made entry.core core.executed access entry.old in
      let parts = cond_some_parts (is_same entry due) (Some (finished code entry.old core)) new e in
      let is : finished code entry.old core ≡ new = same_Some (finished code entry.old core) new parts.1 in (
        ap (λ (c : Core). Some (record { state = c.state; olds = more })) is,
        sym (ap (λ (c : Core). c.executed) is),
      )

  own-goes : (order : List Entry) (core there : Core) → own_steps code bytes order core ≡ Some there
      → GoesTo core.state (found_by order) core.executed there.executed there.state
  unfolding own_step own_steps
  own-goes [] core there e =
      let is : core ≡ there = same_Some core there e in
      record {
        count = 0;
        executed = omega (arith, ap (λ (c : Core). c.executed) is);
        walked = walks-zero core.state [] ∙ ap (λ (c : Core). Some (record { state = c.state; olds = [] })) is;
      }
  own-goes (entry ∷ order) core there e =
      let first = option_and_then_parts (own_steps code bytes order) (own_step code bytes entry core) there e in
      let at = option_and_then_parts (λ (c : Core). own_by code entry c (next_of code bytes c.state)) (caught_up code bytes entry.nth core)
      first.0 first.1 in
      let caught = CaughtUp-from code bytes entry.nth core at.0 at.1 in
      let asks = asks-walk entry at.0 first.0 (found_by order) (next_of code bytes at.0.state) at.2 in
      let more = own-goes order first.0 there first.2 in
      let k = entry.nth - core.executed in
      record {
        count = k + suc more.count;
        executed = omega (arith, caught.before, caught.count, asks.1, more.executed);
        walked = walks-add k (suc more.count) core.state (found_by (entry ∷ order))
            (record { state = at.0.state; olds = found_by (entry ∷ order) })
            (quiet-walks k core.state at.0.state (found_by (entry ∷ order)) caught.steps)
            ∙ (walks-suc more.count at.0.state (found_by (entry ∷ order)) ∙ (ap (and_walks more.count) asks.0 ∙ more.walked));
      }

  length-trace : (n : ℕ) (s : CoreState) (olds : List ℕ) (w : Walk) → walks code bytes n s olds ≡ Some w
      → length (trace code bytes n s olds) ≡ n
  length-trace zero s olds w e = ap length (trace-zero s olds)
  length-trace (suc n) s olds w e =
      let first = option_and_then_parts (λ (v : Walk). walks code bytes n v.state v.olds) (step s olds) w (sym (walks-suc n s olds) ∙ e) in
      let more = length-trace n first.0.state first.0.olds w first.2 in
      let all = trace-suc n s olds ∙ ap (λ o. instr_on code s.dpc ∷ behind n o) first.1 in
      omega (arith, ap length all, more)

-- A core that made its accesses by itself has executed all that it was to execute.
pub runs-all : (code memory : List ℕ) (start : CoreState) (order : List Entry) (core n : ℕ) (final : Core)
    → RunsAlone code memory start order core n final
    → length (trace code (4 * length memory) n start (found_by (own order core))) ≡ n
runs-all code memory start order core n final runs =
    let bytes = 4 * length memory in
    let goes = own-goes code bytes (own order core) (starting start) runs.mid runs.own_entries in
    let caught = CaughtUp-from code bytes n runs.mid final runs.end in
    let k = n - runs.mid.executed in
    let all : goes.count + k ≡ n = omega (arith, goes.executed, caught.before) in
    let walked = walks-add code bytes goes.count k start (found_by (own order core)) (record { state = runs.mid.state; olds = [] })
    goes.walked ∙ quiet-walks code bytes k runs.mid.state final.state [] caught.steps in
    length-trace code bytes n start (found_by (own order core)) (record { state = final.state; olds = [] }) (rw all at walked)
