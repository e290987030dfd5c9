-- A clock goes on with the run of its core: the instructions executed and their rows.
use Rattle.std.proofs.Common.{◌++◌, ◌≡◌, ℕ, inl, inr, refl, ap, sym, ◌∙◌, List}
use Rattle.std.specs.Prelude.{Option, Some, None}
use Rattle.mips_isa.specs.Kinds.{loaded}
use Rattle.image_file.specs.Value.{ImageValue, IsGood}
use Rattle.access_log.specs.declared.request.Request.{Request}
use Rattle.access_log.specs.Stamps.{Stamp, stamped}
use Rattle.mem_port.specs.Engine.{FetchFits, ReplyFits}
use Rattle.mem_port.specs.ServiceHistory.{executed_by}
use Rattle.pipe_regs.specs.declared.Slot.{Slot}
use Rattle.timetable.specs.Trace.{instr_on}
use Rattle.pipe_core.specs.declared.flight.Flight.{Flight}
use Rattle.pipe_core.specs.Chain.{IsChained, state_of}
use Rattle.pipe_core.specs.Clock.{clocked}
use Rattle.pipe_core.specs.PipeRun.{AreOf}
use Rattle.pipe_core.specs.Steps.{IsFit}
use Rattle.pipe_core.specs.Table.{kept, TableValue}
use Rattle.pipe_core.specs.Wants.{stop_in, access_in, goes_by, fetch_in}
use Rattle.pipe_core.proofs.ClockLemmas.{known, stop-none-some, stays, goes-on, goes-is, held}
use Rattle.pipe_core.proofs.MemLemmas.{stop-same, request-same, quiet-same, finish-same}
use Rattle.pipe_core.proofs.RunLemmas.{of-rests, of-goes, of-does}

module _ (p : ImageValue) (c n : ℕ) (f : Flight) (good : IsGood p) (h : IsChained p.code (state_of f) f) (fit : IsFit f)
    (fetched reply : Option ℕ) (fetch_fits : FetchFits p (fetch_in p f) fetched)
    (reply_fits : ReplyFits (access_in p f.executed f.stages.mem) reply)
    (t : ℕ) (u : TableValue) (stamps : List Stamp) (run : AreOf p c n f.executed (state_of f) stamps u.instrs u.rows) where
  at-code : (m : Slot) → f.stages.mem ≡ Some m → m.instr ≡ instr_on p.code (state_of f).dpc
  at-code m e = (held p c n f good h fit fetched reply fetch_fits reply_fits t m e).instr

  pub run-cases : (mem : Option Slot) (access : Option Request) (came : Option ℕ) → f.stages.mem ≡ mem
      → access_in p f.executed mem ≡ access → reply ≡ came
      → ReplyFits access came → stop_in p mem ≡ None
      → AreOf p c n (clocked p fetched reply t f).executed (state_of (clocked p fetched reply t f))
      (stamps ++ stamped t (executed_by c access came))
      (kept (goes_by mem access came) mem f.mem_times access t u).instrs (kept (goes_by mem access came) mem f.mem_times access t u).rows
  run-cases None access None e g r fits no_stop =
      let k = stays p c n f good h fit fetched reply fetch_fits reply_fits t (inr e) in
      by-access access where
        by-access : (a : Option Request)
            → AreOf p c n (clocked p fetched reply t f).executed (state_of (clocked p fetched reply t f))
            (stamps ++ stamped t (executed_by c a None)) u.instrs u.rows
        by-access None = (let k = stays p c n f good h fit fetched reply fetch_fits reply_fits t (inr e) in of-rests p c n f.executed _
            (state_of f) _ stamps u.instrs u.rows k.executed k.state run)
        by-access (Some q) = (let k = stays p c n f good h fit fetched reply fetch_fits reply_fits t (inr e) in of-rests p c n f.executed
            _ (state_of f) _ stamps u.instrs u.rows k.executed k.state run)
  run-cases None (Some q) (Some w) e g r fits no_stop = cc
  run-cases None None (Some w) e g r fits no_stop = absurd fits
  run-cases (Some m) None None e g r fits no_stop =
      let k = goes-on p c n f good h fit fetched reply fetch_fits reply_fits t m 0 e
      (goes-is p c n f good h fit fetched reply fetch_fits reply_fits t m None e g) in
      let here = held p c n f good h fit fetched reply fetch_fits reply_fits t m e in
      let some = stop-none-some p m (known p (state_of f) (Some m) good here) no_stop in
      of-goes p c n f.executed _ (state_of f) _ stamps u.instrs u.rows m.instr _
      (stop-same p (state_of f) m good here ∙ no_stop) (request-same p f.executed (state_of f) m here ∙ g) k.1
      (k.0 ∙ sym (quiet-same p f.executed (state_of f) m 0 here some no_stop g)) (at-code m e) run
  run-cases (Some m) None (Some w) e g r fits no_stop = absurd fits
  run-cases (Some m) (Some q) None e g r fits no_stop =
      let k = stays p c n f good h fit fetched reply fetch_fits reply_fits t
      (inl (goes-is p c n f good h fit fetched reply fetch_fits reply_fits t m (Some q) e g ∙ ap (λ o. goes_by (Some m) (Some q) o) r)) in
      of-rests p c n f.executed _ (state_of f) _ stamps u.instrs u.rows k.executed k.state run
  run-cases (Some m) (Some q) (Some w) e g r fits no_stop =
      let k = goes-on p c n f good h fit fetched reply fetch_fits reply_fits t m (loaded q.kind w) e
      (goes-is p c n f good h fit fetched reply fetch_fits reply_fits t m (Some q) e g ∙ ap (λ o. goes_by (Some m) (Some q) o) r) in
      let here = held p c n f good h fit fetched reply fetch_fits reply_fits t m e in
      of-does p c n f.executed _ (state_of f) _ stamps u.instrs u.rows m.instr _ q w t
      (request-same p f.executed (state_of f) m here ∙ g) k.1
      (k.0 ∙ sym (finish-same p f.executed (state_of f) m q w here g)) (at-code m e) refl run
