-- The end of a budget keeps what an engine tells of its times.
use Rattle.std.proofs.Common.{◌++◌, ◌≡◌, ℕ, ◌+◌, inl, inr, true, List, [], refl, ap, sym, ◌∙◌, arith, subst, length}
use Rattle.std.proofs.Common.{false}
use Rattle.std.proofs.Common.{IsSome}
use Rattle.std.specs.Prelude.{Option, Some, None}
use Rattle.std.proofs.lemmas.List.{append-nil, length-append}
use Rattle.mips_isa.specs.declared.CoreState.{CoreState}
use Rattle.mips_isa.specs.Kinds.{loaded}
use Rattle.image_file.specs.Value.{ImageValue}
use Rattle.access_log.specs.declared.request.Request.{Request}
use Rattle.access_log.specs.Stamps.{stamped}
use Rattle.timetable.specs.declared.rows.TimeRow.{TimeRow}
use Rattle.timetable.specs.Tables.{Timed, prior, past_of}
use Rattle.timetable.specs.Ends.{IsDoneByEnd}
use Rattle.mem_port.specs.ServiceHistory.{Service, ServiceHistory, UsesService, executed_by, AfterDrain}
use Rattle.pipe_regs.specs.declared.Slot.{Slot}
use Rattle.pipe_core.specs.declared.flight.Flight.{Flight}
use Rattle.pipe_core.specs.Chain.{Holds, HoldsWhere, passed, state_of, IsChained}
use Rattle.pipe_core.specs.Clock.{drained}
use Rattle.pipe_core.specs.Moves.{retired}
use Rattle.pipe_core.specs.PipeHistory.{IsUnderWay, IsDrained}
use Rattle.pipe_core.specs.PipeRun.{AreOf}
use Rattle.pipe_core.specs.PipeUses.{uses-more}
use Rattle.pipe_core.specs.PipeView.{pipe_view, pipe_of}
use Rattle.pipe_core.specs.Steps.{commits, retires, retired_where}
use Rattle.pipe_core.specs.Table.{kept, row_of, table_after, TableValue}
use Rattle.pipe_core.specs.Wants.{access_in, goes_by}
use Rattle.pipe_core.proofs.ChainLemmas.{retire-state}
use Rattle.pipe_core.proofs.ChainStepLemmas.{KeepsState, committed}
use Rattle.pipe_core.proofs.ClockTimeLemmas.{drain-table}
use Rattle.pipe_core.proofs.MemLemmas.{request-same, finish-same}
use Rattle.pipe_core.proofs.OnTimeLemmas.{past_of-append}
use Rattle.pipe_core.proofs.RunLemmas.{of-rests, of-does}
use Rattle.pipe_core.proofs.WantLemmas.{met-soon}

module _ (p : ImageValue) (f : Flight) (chained : IsChained p.code (state_of f) f) (reply : Option ℕ) where
  pub drain-rests : goes_by f.stages.mem (access_in p f.executed f.stages.mem) reply ≡ None → KeepsState f (drained p reply f)
  unfolding drained retires
  drain-rests e =
      let k = (committed p.code f).state in
      let r : retired_where (goes_by f.stages.mem (access_in p f.executed f.stages.mem) reply) (commits f)
      ≡ commits f = ap (λ o. retired_where o (commits f)) e in
      record { state = ap state_of r ∙ k.state; executed = ap (λ x. x.executed) r ∙ k.executed }

  pub drain-passes : (m : Slot) (word : ℕ) → f.stages.mem ≡ Some m
      → goes_by f.stages.mem (access_in p f.executed f.stages.mem) reply ≡ Some word
      → Holds p.code (state_of f) m → (state_of (drained p reply f) ≡ passed m.instr (state_of f) word)
      × ((drained p reply f).executed ≡ f.executed + 1)
  unfolding drained retires
  drain-passes m word e q h =
      let k = committed p.code f in
      let r : retired_where (goes_by f.stages.mem (access_in p f.executed f.stages.mem) reply) (commits f) ≡ retired word (commits f)
      (Some m) =
      ap (λ o. retired_where o (commits f)) q ∙ ap (λ o. retired word (commits f) o) (k.mem ∙ e) in
      let Q : CoreState → Type 0 = λ s. Holds p.code s m in
      let st = retire-state p.code (commits f) m word k.wb (subst Q (sym k.state.state) h) in
      (ap state_of r ∙ (st ∙ ap (λ s. passed m.instr s word) k.state.state), ap (λ x. x.executed) r ∙ ap (λ k. k + 1) k.state.executed)

  pub held-at : (m : Slot) → f.stages.mem ≡ Some m → Holds p.code (state_of f) m
  held-at m e = (let P : Option Slot → Type 0 = λ o. HoldsWhere p.code (state_of f) o in subst P e chained.in_mem)

  pub goes-at : (m : Slot) (q : Request) (came : Option ℕ) → f.stages.mem ≡ Some m → access_in p f.executed (Some m) ≡ Some q → reply ≡ came
      → goes_by f.stages.mem (access_in p f.executed f.stages.mem) reply ≡ goes_by (Some m) (Some q) came
  goes-at m q came e g r =
      ap (λ o. goes_by o (access_in p f.executed o) reply) e
      ∙ (ap (λ x. goes_by (Some m) x reply) g ∙ ap (λ x. goes_by (Some m) (Some q) x) r)

module _ (p : ImageValue) (c n budget clocks : ℕ) (f : Flight) (u : TableValue) (chained : IsChained p.code (state_of f) f)
    (reply : Option ℕ)
    (a b : ServiceHistory) (under : IsUnderWay a (pipe_of p c n budget clocks true f u)) where
  drain-run : (mem : Option Slot) (access : Option Request) (came : Option ℕ) → f.stages.mem ≡ mem → access_in p f.executed mem ≡ access
      → reply ≡ came
      → IsSome access → AreOf p c n (drained p reply f).executed (state_of (drained p reply f))
      (a.service.accesses ++ stamped (clocks + 1) (executed_by c access came))
      (kept (goes_by mem access came) mem f.mem_times access (clocks + 1) u).instrs
      (kept (goes_by mem access came) mem f.mem_times access (clocks + 1) u).rows
  drain-run None (Some q) came e g r some = cc
  drain-run mem None came e g r some = cc
  drain-run (Some m) (Some q) None e g r some =
      let k = drain-rests p f chained reply (goes-at p f chained reply m q None e g r) in
      of-rests p c n f.executed _ (state_of f) _ a.service.accesses u.instrs u.rows k.executed k.state under.run
  drain-run (Some m) (Some q) (Some word) e g r some =
      let here = held-at p f chained reply m e in
      let k = drain-passes p f chained reply m (loaded q.kind word) e (goes-at p f chained reply m q (Some word) e g r) here in
      of-does p c n f.executed _ (state_of f) _ a.service.accesses u.instrs u.rows m.instr _ q word (clocks + 1)
      (request-same p f.executed (state_of f) m here ∙ g) k.1
      (k.0 ∙ sym (finish-same p f.executed (state_of f) m q word here g)) here.instr refl under.run

  -- The last row is within the budget, or is that of the access.
  drain-within : (mem : Option Slot) (access : Option Request) (came : Option ℕ) → access_in p f.executed mem ≡ access → IsSome access
      → IsDoneByEnd clocks (prior (past_of [] (kept (goes_by mem access came) mem f.mem_times access (clocks + 1) u).instrs
      (kept (goes_by mem access came) mem f.mem_times access (clocks + 1) u).rows))
  drain-within None (Some q) came g some = cc
  drain-within mem None came g some = cc
  drain-within (Some m) (Some q) None g some = inl under.timed.punctual.before.m
  drain-within (Some m) (Some q) (Some word) g some =
      let row : TimeRow = row_of f.mem_times (Some (clocks + 1)) (clocks + 1) (Some (clocks + 1 + 1)) in
      let past_is = past_of-append a.bound [] u.instrs u.rows m.instr row under.timed.rows in
      let P : List Timed → Type 0 = λ past. IsDoneByEnd clocks (prior past) in
      subst P (sym past_is) (inr (record { a = refl; m = refl }))

  -- The accesses after the end, and what was used.
  record AtEnd (access : Option Request) (came : Option ℕ) : Type 0 where
    bound : b.bound ≡ a.bound
    clocks_are : b.service.clocks ≡ clocks
    accesses : b.service.accesses ≡ a.service.accesses ++ stamped (clocks + 1) (executed_by c access came)
    uses : UsesService b.service (drained p reply f).executed

  at-end : (mem : Option Slot) (access : Option Request) (came : Option ℕ) → f.stages.mem ≡ mem → access_in p f.executed mem ≡ access
      → reply ≡ came
      → IsSome access → AfterDrain came (pipe_view (pipe_of p c n budget clocks true f u)) a b → AtEnd access came
  at-end None (Some q) came e g r some after = cc
  at-end mem None came e g r some after = cc
  at-end (Some m) (Some q) None e g r some after =
      let k = drain-rests p f chained reply (goes-at p f chained reply m q None e g r) in
      let same = k.executed in
      let service : b.service ≡ a.service = ap (λ (x : ServiceHistory). x.service) after in
      let uses = uses-more a.service a.service f under.uses (omega arith) (omega arith) (omega arith) refl in
      record {
        bound = ap (λ (x : ServiceHistory). x.bound) after;
        clocks_are = ap (λ (x : Service). x.clocks) service ∙ under.clocks;
        accesses = ap (λ (x : Service). x.accesses) service ∙ sym (append-nil a.service.accesses);
        uses = rw (service, same) uses;
      }
  at-end (Some m) (Some q) (Some word) e g r some after =
      let k = drain-passes p f chained reply m (loaded q.kind word) e (goes-at p f chained reply m q (Some word) e g r)
      (held-at p f chained reply m e) in
      let executed = k.1 in
      let access : access_in p f.executed f.stages.mem ≡ Some q = ap (λ o. access_in p f.executed o) e ∙ g in
      let accesses : b.service.accesses ≡ a.service.accesses ++ stamped (clocks + 1) (executed_by c (Some q) (Some word)) =
      ap (λ (x : ServiceHistory). x.service.accesses) after ∙ rw (access, under.clocks) refl in
      let longer = length-append a.service.accesses (stamped (clocks + 1) (executed_by c (Some q) (Some word))) in
      let number : length b.service.accesses ≡ length a.service.accesses + 1 = ap length accesses ∙ longer in
      let clock : b.service.clocks ≡ a.service.clocks = ap (λ (x : ServiceHistory). x.service.clocks) after in
      let words : b.service.words ≡ a.service.words = ap (λ (x : ServiceHistory). x.service.words) after in
      let unmet : b.service.unmet ≡ a.service.unmet = ap (λ (x : ServiceHistory). x.service.unmet) after in
      let uses = uses-more a.service a.service f under.uses (omega arith) (omega arith) (omega arith) refl in
      let was = uses.clocks in
      let had = uses.words in
      let made = uses.accesses in
      record {
        bound = ap (λ (x : ServiceHistory). x.bound) after;
        clocks_are = clock ∙ under.clocks;
        accesses = accesses;
        uses = record {
          clocks = omega (arith, was, clock, unmet, executed);
          words = omega (arith, had, words, executed);
          accesses = omega (arith, made, number, executed);
        };
      }

  pub under-drain : AfterDrain reply (pipe_view (pipe_of p c n budget clocks true f u)) a b → IsSome (access_in p f.executed f.stages.mem)
      → IsDrained b (pipe_of p c n budget clocks false (drained p reply f) (table_after None p reply (clocks + 1) f u))
  under-drain after some =
      let ends = at-end f.stages.mem (access_in p f.executed f.stages.mem) reply refl refl refl some after in
      let table = drain-table a.bound p clocks f u reply some (λ word q. met-soon a.bound clocks a.access_left _ (under.access_soon some))
      under.timed in
      let run = drain-run f.stages.mem (access_in p f.executed f.stages.mem) reply refl refl refl some in
      record {
        table = rw ends.bound table;
        within = rw ends.clocks_are (drain-within f.stages.mem (access_in p f.executed f.stages.mem) reply refl some);
        run = rw ends.accesses run;
        uses = ends.uses;
      }
