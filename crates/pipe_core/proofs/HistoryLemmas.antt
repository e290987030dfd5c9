-- A clock keeps what an engine tells of its times.
use Rattle.std.proofs.Common.{[], ◌++◌, ◌≡◌, ℕ, ◌+◌, ◌-◌, ◌*◌, true, false, refl, ap, sym, ◌∙◌, arith, subst, List, length}
use Rattle.std.proofs.Common.{IsSome}
use Rattle.std.specs.Prelude.{Option, Some, None, is_some, ◌||◌}
use Rattle.std.proofs.lemmas.List.{append-nil}
use Rattle.mips_isa.specs.declared.Stop.{Stop}
use Rattle.mips_isa.specs.Effects.{is_off_code}
use Rattle.image_file.specs.Value.{ImageValue, IsGood}
use Rattle.access_log.specs.declared.request.Request.{Request}
use Rattle.access_log.specs.Stamps.{Stamp, stamped}
use Rattle.mem_port.specs.Engine.{FetchFits, ReplyFits}
use Rattle.mem_port.specs.ServiceHistory.{Service, ServiceHistory, IsLeft, executed_by, AfterClock, one_if, is_unmet}
use Rattle.pipe_regs.specs.declared.Slot.{Slot}
use Rattle.timetable.specs.Tables.{IsSoon, past_of}
use Rattle.timetable.specs.Trace.{instr_on}
use Rattle.pipe_core.specs.declared.flight.Flight.{Flight}
use Rattle.pipe_core.specs.Chain.{IsChained, state_of}
use Rattle.pipe_core.specs.Clock.{clocked}
use Rattle.pipe_core.specs.PipeHistory.{UsesClocks, IsUnderWay, HasStopped}
use Rattle.pipe_core.specs.PipeRun.{AreOf}
use Rattle.pipe_core.specs.PipeUses.{uses-more, at-most-one}
use Rattle.pipe_core.specs.PipeView.{pipe_view, pipe_of}
use Rattle.pipe_core.specs.Punctual.{last_f, IsTimed}
use Rattle.pipe_core.specs.Steps.{IsFit}
use Rattle.pipe_core.specs.Table.{row_of, instr_where, table_after, TableValue}
use Rattle.pipe_core.specs.Wants.{stop_in, access_in, fetch_in, place_of}
use Rattle.pipe_core.proofs.ClockLemmas.{in-time, held, no-reply, next-chained}
use Rattle.pipe_core.proofs.ClockTimeLemmas.{clock-timed, stop-timed}
use Rattle.pipe_core.proofs.PassageLemmas.{clocked-mem}
use Rattle.pipe_core.proofs.RunClockLemmas.{run-cases}
use Rattle.pipe_core.proofs.RunLemmas.{of-rests}
use Rattle.pipe_core.proofs.UseLemmas.{clock-uses}
use Rattle.pipe_core.proofs.WantLemmas.{met-soon, fetch-wanted, fetch-left, access-left}

some-of : {W : Type 0} (o : Option W) (w : W) → o ≡ Some w → IsSome o
some-of None w e = cc
some-of (Some v) w e = refl

module _ (p : ImageValue) (c n budget clocks : ℕ) (f : Flight) (u : TableValue) (good : IsGood p) (h : IsChained p.code (state_of f) f)
    (fit : IsFit f)
    (fetched reply : Option ℕ) (fetch_fits : FetchFits p (fetch_in p f) fetched)
    (reply_fits : ReplyFits (access_in p f.executed f.stages.mem) reply)
    (a b : ServiceHistory) (under : IsUnderWay a (pipe_of p c n budget clocks true f u))
    (after : AfterClock fetched reply (pipe_view (pipe_of p c n budget clocks true f u)) a b) where
  word-soon : (w : ℕ) → f.fetch ≡ None → is_off_code (4 * length p.code) (place_of f) ≡ false → fetched ≡ Some w
      → IsSoon a.bound (last_f (past_of [] u.instrs u.rows) f + 1) (clocks + 1)
  word-soon w none on e = met-soon a.bound clocks a.fetch_left _ (under.fetch_soon (fetch-wanted p f none on))

  answer-soon : (r : Request) (w : ℕ) → access_in p f.executed f.stages.mem ≡ Some r → reply ≡ Some w
      → IsSoon a.bound (f.mem_times.e + 1) (clocks + 1)
  answer-soon r w e g = met-soon a.bound clocks a.access_left _ (under.access_soon (some-of _ r e))

  clock-at : b.service.clocks ≡ clocks + 1
  clock-at = ap (λ (s : Service). s.clocks) after.service ∙ ap (λ x. x + 1) under.clocks

  accesses-are : a.service.accesses ++ stamped (clocks + 1) (executed_by c (access_in p f.executed f.stages.mem) reply) ≡ b.service.accesses
  accesses-are =
      ap (λ x. a.service.accesses ++ stamped (x + 1) (executed_by c (access_in p f.executed f.stages.mem) reply)) (sym under.clocks)
      ∙ sym (ap (λ (s : Service). s.accesses) after.service)

  pub under-clock : None ≡ stop_in p f.stages.mem
      → IsUnderWay b (pipe_of p c n budget (clocks + 1) true (clocked p fetched reply (clocks + 1) f)
      (table_after None p reply (clocks + 1) f u))
  under-clock no_stop =
      let g = clocked p fetched reply (clocks + 1) f in
      let v = table_after None p reply (clocks + 1) f u in
      let past = past_of [] u.instrs u.rows in
      let now = clock-timed a.bound p clocks f u fetched reply reply_fits (sym no_stop)
      (in-time a.bound p clocks (past_of [] u.instrs u.rows) f fetched good fetch_fits under.timed.punctual word-soon) answer-soon
      under.timed in
      let T : Option ℕ → Type 0 = λ k. IsTimed k p (clocks + 1) (clocked p fetched reply (clocks + 1) f)
      (table_after None p reply (clocks + 1) f u) in
      let run = run-cases p c n f good h fit fetched reply fetch_fits reply_fits (clocks + 1) u a.service.accesses under.run f.stages.mem
      (access_in p f.executed f.stages.mem) reply refl refl refl reply_fits (sym no_stop) in
      let R : List Stamp → Type 0 = λ s. AreOf p c n g.executed (state_of g) s v.instrs v.rows in
      let uses = clock-uses p c n f good h fit fetched reply fetch_fits reply_fits (clocks + 1) a.service past clocks (budget - clocks)
      under.timed.punctual under.uses in
      let U : Service → Type 0 = λ s. UsesClocks s (clocked p fetched reply (clocks + 1) f) in
      let left_f : IsLeft a.bound (fetch_in p f) fetched a.fetch_left b.fetch_left = after.fetch in
      let left_a : IsLeft a.bound (access_in p f.executed f.stages.mem) reply a.access_left b.access_left = after.access in
      record {
        drained = after.drained ∙ under.drained;
        clocks = clock-at;
        chained = next-chained p c n f good h fit fetched reply fetch_fits reply_fits (clocks + 1);
        timed = subst T (sym after.bound) now.timed;
        fetch_soon = λ some. rw after.bound
            (fetch-left p clocks a.bound a.fetch_left b.fetch_left f (clocked p fetched reply (clocks + 1) f)
            (past_of [] u.instrs u.rows) _ fetched reply under.timed.punctual under.fetch_soon left_f now.left_f some);
        access_soon = λ some. rw after.bound
            (access-left p clocks a.bound a.access_left b.access_left f (clocked p fetched reply (clocks + 1) f)
            (past_of [] u.instrs u.rows) (past_of [] v.instrs v.rows) fetched reply under.timed.punctual under.access_soon left_a
            (clocked-mem p fetched reply (clocks + 1) f) some);
        run = subst R accesses-are run;
        uses = subst U (sym after.service) uses;
      }

  executed-none : (o : Option Request) (came : Option ℕ) → o ≡ None → executed_by c o came ≡ []
  executed-none None came e = refl
  executed-none (Some r) came e = cc

  stop-at : (mem : Option Slot) (why : Stop) → f.stages.mem ≡ mem → stop_in p mem ≡ Some why
      → instr_where mem ≡ instr_on p.code (state_of f).dpc
  stop-at None why e g = cc
  stop-at (Some m) why e g = (held p c n f good h fit fetched reply fetch_fits reply_fits clocks m e).instr

  pub under-stop : (why : Stop) → Some why ≡ stop_in p f.stages.mem
      → HasStopped b (pipe_of p c n budget (clocks + 1) false f (table_after (Some why) p reply (clocks + 1) f u))
  under-stop why stop =
      let none = executed-none (access_in p f.executed f.stages.mem) reply
      (no-reply p c n f good h fit fetched reply fetch_fits reply_fits clocks f.stages.mem why refl (sym stop)) in
      let same : a.service.accesses ++ [] ≡ b.service.accesses = ap (λ l. a.service.accesses ++ stamped (clocks + 1) l) (sym none)
      ∙ accesses-are in
      let R : List Stamp → Type 0 = λ s. AreOf p c n f.executed (state_of f) s u.instrs u.rows in
      let last = stop-timed a.bound p clocks f u why stop under.timed in
      let word = at-most-one (is_some fetched) in
      let came : b.service.words ≡ a.service.words + one_if (is_some fetched) = ap (λ (s : Service). s.words) after.service in
      let clock : b.service.clocks ≡ a.service.clocks + 1 = ap (λ (s : Service). s.clocks) after.service in
      let unmet : b.service.unmet
      ≡ a.service.unmet + one_if (is_unmet (fetch_in p f) fetched || is_unmet (access_in p f.executed f.stages.mem) reply) =
      ap (λ (s : Service). s.unmet) after.service in
      record {
        before = u.instrs;
        earlier = u.rows;
        row = row_of f.mem_times None (clocks + 1) None;
        rows_are = refl;
        table = rw after.bound under.timed.rows;
        last = rw (after.bound, ← stop-at f.stages.mem why refl (sym stop)) last;
        at = sym clock-at;
        run = subst R same (of-rests p c n f.executed f.executed (state_of f) (state_of f) a.service.accesses u.instrs u.rows refl refl
            under.run);
        uses = uses-more a.service b.service f under.uses (omega (arith, clock)) (omega (arith, came, word)) (omega (arith, unmet))
            (sym same ∙ append-nil a.service.accesses);
      }
