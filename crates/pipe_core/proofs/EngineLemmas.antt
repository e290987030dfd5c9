-- The engine as its contracts see it.
use Rattle.pipe_core.specs.declared.flight.Flight.{Flight}
use Rattle.pipe_core.specs.Chain.{state_of, IsChained}
use Rattle.pipe_core.specs.Clock.{clocked, drained, flight_after}
use Rattle.pipe_core.specs.Passage.{IsPassage}
use Rattle.pipe_core.specs.PipeView.{pipe_of, PipeValue, view_of, pipe_view, live_clock, IsPipe, PipeClocks, progress_of}
use Rattle.pipe_core.specs.Punctual.{IsTimed}
use Rattle.pipe_core.specs.Steps.{commits, IsFit}
use Rattle.pipe_core.specs.Table.{instr_where, row_of, table_after, TableValue}
use Rattle.pipe_core.specs.Wants.{stop_in, access_in, goes_by, fetch_in, IsKnown}
use Rattle.pipe_core.proofs.ChainStepLemmas.{committed, retires-keeps, chain1, young2, young-place}
use Rattle.pipe_core.proofs.ClockLemmas.{known, sound, next-chained, in-time, runs, stops}
use Rattle.pipe_core.proofs.ClockTimeLemmas.{clock-timed, stop-timed, drain-table}
use Rattle.pipe_core.proofs.DrainLemmas.{drain-rests, drain-passes, held-at, goes-at}
use Rattle.pipe_core.proofs.MemLemmas.{finish-same}
use Rattle.pipe_core.proofs.PassageLemmas.{after-passage}
use Rattle.std.proofs.Common.{[], inl, inr, ◌≡◌, ℕ, ◌+◌, ◌-◌, ◌≤◌, Bool, true, false, refl, ap, sym, ◌∙◌, arith, subst, IsSome}
use Rattle.std.specs.Prelude.{Option, Some, None}
use Rattle.mips_isa.specs.declared.Stop.{Stop}
use Rattle.mips_isa.specs.Kinds.{loaded}
use Rattle.pipe_regs.specs.declared.Slot.{Slot}
use Rattle.image_file.specs.Value.{ImageValue}
use Rattle.access_log.specs.declared.request.Request.{Request}
use Rattle.mem_port.specs.declared.engine.Progress.TheVariants as progress
use Rattle.mem_port.specs.Engine.{IsSound, FetchFits, ReplyFits, Clocks, Ends, Drains}
use Rattle.timetable.specs.Tables.{IsTable, past_of}

pub known-mem : (v : PipeValue) → IsPipe v → IsKnown v.image v.flight.stages.mem
known-mem v i = known v.image (state_of v.flight) v.flight.stages.mem i.good i.chained.in_mem

module _ (p : ImageValue) (c n budget clocks : ℕ) (live : Bool) (f g : Flight) (u w : TableValue) (old : PipeValue)
    (is : pipe_of p c n budget clocks live f u ≡ old) (i : IsPipe (pipe_of p c n budget clocks live f u)) (fetched reply : Option ℕ)
    (lives : (pipe_view old).is_live ≡ true) where
  lives-here : live ≡ true
  lives-here = (let P : PipeValue → Type 0 = λ o. (pipe_view o).is_live ≡ true in subst P (sym is) lives)

  module _ (left : 1 ≤ (pipe_view old).clocks_left) (ff : FetchFits (pipe_view old).image (pipe_view old).fetch fetched)
      (rf : ReplyFits (pipe_view old).access reply) where
    left-here : 1 ≤ budget - clocks
    left-here = (let P : PipeValue → Type 0 = λ o. 1 ≤ (pipe_view o).clocks_left in subst P (sym is) left)

    ff-here : FetchFits p (fetch_in p f) fetched
    ff-here = (let P : PipeValue → Type 0 = λ o. FetchFits (pipe_view o).image (pipe_view o).fetch fetched in subst P (sym is) ff)

    rf-here : ReplyFits (access_in p f.executed f.stages.mem) reply
    rf-here = (let P : PipeValue → Type 0 = λ o. ReplyFits (pipe_view o).access reply in subst P (sym is) rf)

    pub clock-chained : g ≡ clocked p fetched reply (clocks + 1) f → IsChained p.code (state_of g) g
    clock-chained e =
        let P : Flight → Type 0 = λ x. IsChained p.code (state_of x) x in
        subst P (sym e) (next-chained p c n f i.good i.chained i.fit fetched reply ff-here rf-here (clocks + 1))

    pub clock-sound : g ≡ clocked p fetched reply (clocks + 1) f → IsSound (pipe_view (pipe_of p c n budget (clocks + 1) live g w))
    clock-sound e = sound p c n (budget - (clocks + 1)) live g (clock-chained e)

    pub clock-runs : None ≡ stop_in p f.stages.mem → g ≡ clocked p fetched reply (clocks + 1) f
        → Clocks fetched reply progress.Running (pipe_view old) (pipe_view (pipe_of p c n budget (clocks + 1) live g w))
    clock-runs no_stop e =
        let here : 1 ≤ budget - clocks = left-here in
        let less : budget - clocks ≡ (budget - (clocks + 1)) + 1 = omega arith in
        let P : PipeValue → Type 0 = λ o. Clocks fetched reply progress.Running (pipe_view o)
        (pipe_view (pipe_of p c n budget (clocks + 1) live g w)) in
        subst P is (rw (lives-here, less, e)
        (runs p c n f i.good i.chained i.fit fetched reply ff-here rf-here (clocks + 1) (budget - (clocks + 1)) (sym no_stop)))

    pub clock-stops : (why : Stop) → Some why ≡ stop_in p f.stages.mem → g ≡ f
        → Clocks fetched reply (progress.Stopped why) (pipe_view old) (pipe_view (pipe_of p c n budget (clocks + 1) false g w))
    clock-stops why stop e =
        let here : 1 ≤ budget - clocks = left-here in
        let less : budget - clocks ≡ (budget - (clocks + 1)) + 1 = omega arith in
        let P : PipeValue → Type 0 = λ o. Clocks fetched reply (progress.Stopped why) (pipe_view o)
        (pipe_view (pipe_of p c n budget (clocks + 1) false g w)) in
        subst P is (rw (lives-here, less, e)
        (stops p c n f i.good i.chained i.fit fetched reply ff-here rf-here (clocks + 1) (budget - (clocks + 1)) why (sym stop)))

    pub clock-pipe : None ≡ stop_in p f.stages.mem → g ≡ clocked p fetched reply (clocks + 1) f → IsFit g → g.executed ≤ f.executed + 1
        → u.spare ≤ w.spare + 1
        → w ≡ table_after None p reply (clocks + 1) f u → IsPipe (pipe_of p c n budget (clocks + 1) live g w)
    clock-pipe no_stop e fit executed spare tab =
        let was : IsTimed None p clocks f u = i.timed lives-here in
        let now = (clock-timed None p clocks f u fetched reply rf-here (sym no_stop)
        (in-time None p clocks (past_of [] u.instrs u.rows) f fetched i.good ff-here was.punctual (λ w none on e. tt)) (λ r w e g. tt)
        was).timed in
        let T : Flight → Type 0 = λ x. IsTimed None p (clocks + 1) x w in
        let U : TableValue → Type 0 = λ x. IsTimed None p (clocks + 1) (clocked p fetched reply (clocks + 1) f) x in
        let then_timed : IsTimed None p (clocks + 1) g w = subst T (sym e) (subst U (sym tab) now) in
        let here : 1 ≤ budget - clocks = left-here in
        let one : live_clock live ≡ 1 = ap live_clock lives-here in
        let at : budget + live_clock live ≤ clocks + u.spare = i.spare in
        let ex : f.executed + live_clock live ≤ clocks + 1 = i.executed in
        record {
          good = i.good;
          chained = clock-chained e;
          fit = fit;
          within = omega arith;
          small = i.small;
          executed = omega arith;
          spare = omega arith;
          rows = inl then_timed.rows;
          timed = λ l. then_timed;
        }

    pub stop-pipe : (why : Stop) → Some why ≡ stop_in p f.stages.mem → g ≡ f → IsFit g → u.spare ≤ w.spare + 1
        → w ≡ table_after (Some why) p reply (clocks + 1) f u → IsPipe (pipe_of p c n budget (clocks + 1) false g w)
    stop-pipe why stop e fit spare tab =
        let here : 1 ≤ budget - clocks = left-here in
        let one : live_clock live ≡ 1 = ap live_clock lives-here in
        let at : budget + live_clock live ≤ clocks + u.spare = i.spare in
        let ex : f.executed + live_clock live ≤ clocks + 1 = i.executed in
        let same_executed : g.executed ≡ f.executed = ap (λ x. x.executed) e in
        let P : Flight → Type 0 = λ x. IsChained p.code (state_of x) x in
        record {
          good = i.good;
          chained = subst P (sym e) i.chained;
          fit = fit;
          within = omega arith;
          small = i.small;
          executed = omega arith;
          spare = omega arith;
          rows = inr (record {
            before = u.instrs;
            earlier = u.rows;
            instr = instr_where f.stages.mem;
            row = row_of f.mem_times None (clocks + 1) None;
            instrs_are = ap (λ x. x.instrs) tab;
            rows_are = ap (λ x. x.rows) tab;
            table = (i.timed lives-here).rows;
            last = stop-timed None p clocks f u why stop (i.timed lives-here);
          });
          timed = λ l. cc;
        }

  -- the end of the budget
  drain-chained-at : IsChained p.code (state_of (drained p reply f)) (drained p reply f)
  unfolding drained
  drain-chained-at = (retires-keeps p.code (commits f) _ (committed p.code f).wb (chain1 p.code None None None 0 f i.chained)).chained

  drain-fetch : fetch_in p (drained p reply f) ≡ fetch_in p f
  unfolding drained
  drain-fetch =
      let y = young2 p.code (goes_by f.stages.mem (access_in p f.executed f.stages.mem) reply) None None 0 f i.chained in
      rw (y.fetch, young-place f _ y) refl

  pub drain-chained : g ≡ drained p reply f → IsChained p.code (state_of g) g
  drain-chained e =
      let P : Flight → Type 0 = λ x. IsChained p.code (state_of x) x in
      subst P (sym e) drain-chained-at

  pub drain-pipe : IsSome (pipe_view old).access → g ≡ drained p reply f → IsFit g → g.executed ≤ f.executed + 1 → u.spare ≤ w.spare + 1
      → w ≡ table_after None p reply (clocks + 1) f u → IsPipe (pipe_of p c n budget clocks false g w)
  drain-pipe wants e fit executed spare tab =
      let T : TableValue → Type 0 = λ x. IsTable None [] x.instrs x.rows in
      let W : PipeValue → Type 0 = λ o. IsSome (pipe_view o).access in
      let some : IsSome (access_in p f.executed f.stages.mem) = subst W (sym is) wants in
      let one : live_clock live ≡ 1 = ap live_clock lives-here in
      let at : budget + live_clock live ≤ clocks + u.spare = i.spare in
      let ex : f.executed + live_clock live ≤ clocks + 1 = i.executed in
      let wi : clocks ≤ budget = i.within in
      record {
        good = i.good;
        chained = drain-chained e;
        fit = fit;
        within = i.within;
        small = i.small;
        executed = omega arith;
        spare = omega arith;
        rows = inl (subst T (sym tab) (drain-table None p clocks f u reply some (λ w e. tt) (i.timed lives-here)));
        timed = λ l. cc;
      }

  drain-ends : (mem : Option Slot) (access : Option Request) (came : Option ℕ) → f.stages.mem ≡ mem → access_in p f.executed mem ≡ access
      → reply ≡ came → IsSome access
      → Ends came (view_of p c n (budget - clocks) true f) (view_of p c n (budget - clocks) false (drained p reply f))
  drain-ends None (Some q) came e a r some = cc
  drain-ends mem None came e a r some = cc
  drain-ends (Some m) (Some q) None e a r some =
      let k = drain-rests p f i.chained reply (goes-at p f i.chained reply m q None e a r) in
      record { executed = k.executed; state = k.state }
  drain-ends (Some m) (Some q) (Some word) e a r some =
      let held = held-at p f i.chained reply m e in
      let k = drain-passes p f i.chained reply m (loaded q.kind word) e (goes-at p f i.chained reply m q (Some word) e a r) held in
      record { executed = k.1; state = k.0 ∙ sym (finish-same p f.executed (state_of f) m q word held a) }

  pub drain-meets : IsSome (pipe_view old).access → g ≡ drained p reply f
      → Drains reply (pipe_view old) (pipe_view (pipe_of p c n budget clocks false g w))
  drain-meets wants e =
      let W : PipeValue → Type 0 = λ o. IsSome (pipe_view o).access in
      let here : IsSome (access_in p f.executed f.stages.mem) = subst W (sym is) wants in
      let P : PipeValue → Type 0 = λ o. Drains reply (pipe_view o) (pipe_view (pipe_of p c n budget clocks false g w)) in
      subst P is (rw (lives-here, e) (record {
        kept = record { image = refl; core = refl; cores = refl };
        ends = drain-ends f.stages.mem (access_in p f.executed f.stages.mem) reply refl refl refl here;
        live = refl;
        fetch = λ a q. drain-fetch ∙ q;
      }))

-- a clock's own clauses
pub clock-own : (p : ImageValue) (c n budget clocks : ℕ) (live then : Bool) (f g : Flight) (u w : TableValue) (old : PipeValue)
    → pipe_of p c n budget clocks live f u ≡ old
    → (fetched reply : Option ℕ) (o : Option Stop) → o ≡ stop_in p f.stages.mem → g ≡ flight_after o p fetched reply (clocks + 1) f
    → w ≡ table_after o p reply (clocks + 1) f u
    → PipeClocks fetched reply (progress_of o) old (pipe_of p c n budget (clocks + 1) then g w)
clock-own p c n budget clocks live then f g u w old is fetched reply o e moves adds =
    let P : PipeValue → Type 0 = λ x. PipeClocks fetched reply (progress_of o) x (pipe_of p c n budget (clocks + 1) then g w) in
    subst P is (record {
      decides = ap progress_of e;
      counts = refl;
      moves = moves ∙ ap (λ s. flight_after s p fetched reply (clocks + 1) f) e;
      passes = (let Q : Flight
          → Type 0 = λ x. IsPassage (clocks + 1) f x in subst Q (sym moves) (after-passage o p fetched reply (clocks + 1) f));
      adds = adds ∙ ap (λ s. table_after s p reply (clocks + 1) f u) e;
    })
